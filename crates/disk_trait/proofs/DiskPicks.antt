-- Which images a stop of a disk in memory picks, and that each is one.
use Rattle.std.proofs.Common.{◌≡◌, ℕ, zero, suc, ◌+◌, ◌/◌, ◌^◌, ◌<◌, ◌≤◌, min, Bool, true, false, cond, leb, List, [], ◌∷◌, length, take, drop, get_or, Contains, Result, Ok, Err, IfOk, refl, sym, ◌∙◌, ap, subst, ⊎_elim, arith, length-take}
use Rattle.std.specs.List.{count_by}
use Rattle.std.specs.BTreeMap.{keys}
use Rattle.std.proofs.lemmas.Bool.{cases_Bool}
use Rattle.std.proofs.lemmas.List.{get_or-take, take-take}
use Rattle.disk_trait.specs.declared.file_name.FileName.{FileName}
use Rattle.disk_trait.specs.declared.memory.call.DiskCall.{DiskCall}
use Rattle.disk_trait.specs.declared.memory.call.DiskCall.TheVariants.{Write, Cut, Sync}
use Rattle.disk_trait.specs.declared.memory.call.Pick.{Pick}
use Rattle.disk_trait.specs.declared.memory.call.Pick.TheVariants.{Old, New, Torn}
use Rattle.disk_trait.specs.declared.memory.table.FileTable.{FileTable}
use Rattle.disk_trait.specs.Files.{Files}
use Rattle.disk_trait.specs.Memory.{FileState, durable, changed, same_name, after_call, state_after, fits, IsImage}
use Rattle.disk_trait.specs.MemoryPast.{Past, IsPast, file_after, calls_until, file_at, left_at}
use Rattle.disk_trait.specs.MemoryHeld.{until_all}
use Rattle.disk_trait.specs.MemoryStop.{next_draw, next_seed, drawn, seed_after, Draws, IsDrawn, IsTorn, IsPicked, IsPickedImage, IsSyncedCount, touched_by}
use Rattle.disk_trait.specs.MemoryTable.{bytes_of, first_of, has_file}
use Rattle.disk_trait.proofs.DiskCalls.{overwritten}
use Rattle.disk_trait.proofs.MemoryLists.{in_range}
use Rattle.disk_trait.proofs.DiskStops.{touched_none}
use Rattle.disk_trait.proofs.DiskImages.{length-drawn}
use Rattle.disk_trait.proofs.FileLists.{contains_cases, key_of}

-- ---- drawn bytes

drawn_nothing : (t : ℕ → Bool) (i x : ℕ) (bs : List ℕ) → ((j : ℕ) → t j ≡ false) → drawn t i x bs ≡ bs
drawn_nothing t i x [] none = refl
drawn_nothing t i x (b ∷ bs) none =
    ap (λ c. cond c (next_draw x / 2 ^ 56) b ∷ drawn t (i + 1) (next_seed c x) bs) (none i) ∙ ap (λ ys. b ∷ ys) (drawn_nothing t (i + 1) x bs none)

get_or-drawn : (t : ℕ → Bool) (i x : ℕ) (bs : List ℕ) (j : ℕ) → t (i + j) ≡ false → get_or (drawn t i x bs) j 0 ≡ get_or bs j 0
get_or-drawn t i x [] j kept = refl
get_or-drawn t i x (b ∷ bs) zero kept =
    let here : t i ≡ false = ap t (omega arith) ∙ kept in
    ap (λ c. cond c (next_draw x / 2 ^ 56) b) here
get_or-drawn t i x (b ∷ bs) (suc j) kept = get_or-drawn t (i + 1) (next_seed (t i) x) bs j (ap t (omega arith) ∙ kept)

draws_at : (held : Files) (picked : FileName → ℕ → Bool) (names : List FileName) (x : ℕ) (files : Files) (f : FileName) → Draws held picked names x files → Contains names f → (y : ℕ) × (files f ≡ drawn (picked f) 0 y (held f))
draws_at held picked [] x files f draws at = absurd (omega (arith, at.1))
draws_at held picked (g ∷ names) x files f draws at = ⊎_elim
    (λ (here : g ≡ f). (x, subst (λ h. files h ≡ drawn (picked h) 0 x (held h)) here draws.0))
    (λ (there : Contains names f). draws_at held picked names (seed_after (picked g) 0 x (held g)) files f draws.1 there)
    (contains_cases g f names at)

-- ---- images of a file

abbrev Bounds : FileState → Type 0
Bounds s = (s.least ≤ length s.synced) × (length s.synced ≤ s.greatest)

bounds_changed : (held : List ℕ) (touched : ℕ → Bool) (s : FileState) → Bounds s → Bounds (changed held touched s)
unfolding changed
bounds_changed held touched s b = let low = b.0 in let high = b.1 in (omega arith, omega arith)

bounds_cond : (b : Bool) (s t : FileState) → Bounds s → Bounds t → Bounds (cond b s t)
bounds_cond true s t p q = p
bounds_cond false s t p q = q

bounds_durable : (bytes : List ℕ) → Bounds (durable bytes)
unfolding durable
bounds_durable bytes = (omega arith, omega arith)

bounds_call : (f : FileName) (call : DiskCall) (s : FileState) → Bounds s → Bounds (after_call f call s)
unfolding after_call
bounds_call f (Write name at bytes) s b = bounds_cond (same_name name f) _ _ (bounds_changed (overwritten at bytes s.held) (in_range at (length bytes)) s b) b
bounds_call f (Cut name size) s b = bounds_cond (same_name name f) _ _ (bounds_changed (take size s.held) (λ i. leb size i) s b) b
bounds_call f Sync s b = bounds_durable s.held

bounds_after : (f : FileName) (s : FileState) (calls : List DiskCall) → Bounds s → Bounds (state_after f s calls)
bounds_after f s [] b = b
bounds_after f s (call ∷ calls) b = bounds_after f (after_call f call s) calls (bounds_call f call s b)

synced_image : (s : FileState) → Bounds s → IsImage s s.synced
synced_image s b = record { no_shorter = b.0; no_longer = b.1; same = λ i lt kept. refl }

torn_image : (s : FileState) (x : ℕ) → IsImage s s.held → IsImage s (drawn s.pending 0 x s.held)
torn_image s x sound =
    let l = length-drawn s.pending 0 x s.held in
    record {
      no_shorter = omega (arith, l, sound.no_shorter);
      no_longer = omega (arith, l, sound.no_longer);
      same = λ i lt kept. get_or-drawn s.pending 0 x s.held i (ap s.pending (omega arith) ∙ kept) ∙ sound.same i (omega (arith, l, lt)) kept;
    }

-- ---- images of a disk

module _ (p : Past) (past : IsPast p) where
  -- a write of the first calls begins inside its file
  pub prefix_fits : (m : ℕ) (calls : List DiskCall) → calls ≡ take m p.calls → (f : FileName) (n : ℕ) → n < length calls → fits f (get_or calls n Sync) (state_after f (durable (first_of p.table f)) (take n calls)) ≡ true
  unfolding file_after
  prefix_fits m calls is f n lt =
      let l : length calls ≡ min m (length p.calls) = ap length is ∙ length-take m p.calls in
      let here : get_or calls n Sync ≡ get_or p.calls n Sync = ap (λ cs. get_or cs n Sync) is ∙ get_or-take m p.calls n Sync (omega arith) in
      let so_far : take n calls ≡ take n p.calls = ap (take n) is ∙ take-take n m p.calls (omega arith) in
      ap (λ c. fits f c (state_after f (durable (first_of p.table f)) (take n calls))) here
      ∙ ap (λ cs. fits f (get_or p.calls n Sync) (state_after f (durable (first_of p.table f)) cs)) so_far ∙ past.inside n f (omega arith)

  prefix_file : (m : ℕ) (calls : List DiskCall) → calls ≡ take m p.calls → (f : FileName) → state_after f (durable (first_of p.table f)) calls ≡ file_after p m f
  unfolding file_after
  prefix_file m calls is f = ap (state_after f (durable (first_of p.table f))) is

  file_bounds : (m : ℕ) (f : FileName) → Bounds (file_after p m f)
  unfolding file_after
  file_bounds m f = bounds_after f (durable (first_of p.table f)) (take m p.calls) (bounds_durable (first_of p.table f))

  -- nothing is torn
  undrawn : (held : Files) (files : Files) → ((f : FileName) → has_file p.table f ≡ false → held f ≡ []) → IsDrawn p.table held (λ f i. touched_by f [] i) 0 files → (f : FileName) → files f ≡ held f
  undrawn held files empty image f = ⊎_elim
      (λ (has : has_file p.table f ≡ true).
      let at = draws_at held (λ f i. touched_by f [] i) (keys p.table.files) 0 files f image.draws (key_of p.table f has) in
      at.1 ∙ drawn_nothing (λ i. touched_by f [] i) 0 at.0 (held f) (touched_none f))
      (λ (none : has_file p.table f ≡ false). image.others f none ∙ sym (empty f none))
      (cases_Bool (has_file p.table f))

  pub new_picked : (at : ℕ) (calls : List DiskCall) (files : Files) → calls ≡ take (calls_until p at) p.calls
      → IsDrawn p.table (λ f. (state_after f (durable (first_of p.table f)) calls).held) (λ f i. touched_by f [] i) 0 files → (f : FileName) → files f ≡ (file_at p at f).held
  new_picked at calls files is image f =
      undrawn (λ f. (state_after f (durable (first_of p.table f)) calls).held) files (λ f none. ap (λ (s : FileState). s.held) (prefix_file (calls_until p at) calls is f) ∙ (past.absent (calls_until p at) f none).0) image f
      ∙ ap (λ (s : FileState). s.held) (prefix_file (calls_until p at) calls is f)

  pub old_picked : (at count : ℕ) (calls firsts : List DiskCall) (files : Files) → calls ≡ take (calls_until p at) p.calls → firsts ≡ take count calls → count ≤ length calls → IsSyncedCount calls count
      → IsDrawn p.table (λ f. (state_after f (durable (first_of p.table f)) firsts).held) (λ f i. touched_by f [] i) 0 files → (f : FileName) → files f ≡ (file_at p at f).synced
  old_picked at count calls firsts files is is' within counted image f =
      let l : length calls ≡ min (calls_until p at) (length p.calls) = ap length is ∙ length-take (calls_until p at) p.calls in
      let whole : firsts ≡ take count p.calls = is' ∙ ap (take count) is ∙ take-take count (calls_until p at) p.calls (omega arith) in
      undrawn (λ f. (state_after f (durable (first_of p.table f)) firsts).held) files (λ f none. ap (λ (s : FileState). s.held) (prefix_file count firsts whole f) ∙ (past.absent count f none).0) image f
      ∙ ap (λ cs. (state_after f (durable (first_of p.table f)) cs).held) is' ∙ sym (counted.synced f (first_of p.table f))
      ∙ ap (λ (s : FileState). s.synced) (prefix_file (calls_until p at) calls is f)

  -- the torn files by the state of each
  pub drawn_state : (at count seed : ℕ) (calls rest : List DiskCall) (files : Files) → calls ≡ take (calls_until p at) p.calls → rest ≡ drop count calls → IsSyncedCount calls count
      → IsDrawn p.table (λ f. (state_after f (durable (first_of p.table f)) calls).held) (λ f i. touched_by f rest i) seed files
      → IsDrawn p.table (λ f. (file_at p at f).held) (λ f. (file_at p at f).pending) seed files
  drawn_state at count seed calls rest files is is' counted image =
      let held : (λ (f : FileName). (state_after f (durable (first_of p.table f)) calls).held) ≡ (λ f. (file_at p at f).held) = λ k f. ap (λ (s : FileState). s.held) (prefix_file (calls_until p at) calls is f) k in
      let same : (f : FileName) (i : ℕ) → touched_by f rest i ≡ (file_at p at f).pending i =
      λ f i. ap (λ cs. touched_by f cs i) is' ∙ sym (counted.pending f (first_of p.table f) i) ∙ ap (λ (s : FileState). s.pending i) (prefix_file (calls_until p at) calls is f) in
      let picked : (λ (f : FileName) (i : ℕ). touched_by f rest i) ≡ (λ f i. (file_at p at f).pending i) = λ k f i. same f i k in
      subst (λ h. IsDrawn p.table h (λ f. (file_at p at f).pending) seed files) held
      (subst (λ t. IsDrawn p.table (λ f. (state_after f (durable (first_of p.table f)) calls).held) t seed files) picked image)

  pub torn_picked : (at seed : ℕ) (files : Files) → IsDrawn p.table (λ f. (file_at p at f).held) (λ f. (file_at p at f).pending) seed files → IsTorn seed (file_at p at) files
  torn_picked at seed files image = record {
    names = keys p.table.files;
    ascending = image.ascending;
    draws = image.draws;
    others = λ f out.
        let none : has_file p.table f ≡ false = ⊎_elim (λ (has : has_file p.table f ≡ true). absurd (out (key_of p.table f has))) (λ (none : has_file p.table f ≡ false). none) (cases_Bool (has_file p.table f)) in
        (image.others f none, (past.absent (calls_until p at) f none).0);
  }

  pub new_left : (at : ℕ) (files : Files) → ((f : FileName) → files f ≡ (file_at p at f).held) → left_at p at files
  unfolding left_at
  new_left at files is = λ f. subst (λ c. IsImage (file_at p at f) c) (sym (is f)) (past.sound (calls_until p at) f)

  pub old_left : (at : ℕ) (files : Files) → ((f : FileName) → files f ≡ (file_at p at f).synced) → left_at p at files
  unfolding left_at
  old_left at files is = λ f. subst (λ c. IsImage (file_at p at f) c) (sym (is f)) (synced_image (file_at p at f) (file_bounds (calls_until p at) f))

  pub torn_left : (at seed : ℕ) (files : Files) → IsDrawn p.table (λ f. (file_at p at f).held) (λ f. (file_at p at f).pending) seed files → left_at p at files
  unfolding left_at
  torn_left at seed files image = λ f. ⊎_elim
      (λ (has : has_file p.table f ≡ true).
      let drawn_at = draws_at (λ f. (file_at p at f).held) (λ f. (file_at p at f).pending) (keys p.table.files) seed files f image.draws (key_of p.table f has) in
      subst (λ c. IsImage (file_at p at f) c) (sym drawn_at.1) (torn_image (file_at p at f) drawn_at.0 (past.sound (calls_until p at) f)))
      (λ (none : has_file p.table f ≡ false).
      subst (λ c. IsImage (file_at p at f) c) (sym (image.others f none ∙ sym ((past.absent (calls_until p at) f none).0))) (past.sound (calls_until p at) f))
      (cases_Bool (has_file p.table f))

-- ---- the image of a moment, from its calls

pub calls_are : (p : Past) (at n : ℕ) (calls all : List DiskCall) → n ≡ count_by (λ moment. leb moment at) p.moments → all ≡ p.calls → calls ≡ take n all → calls ≡ take (calls_until p at) p.calls
unfolding calls_until
calls_are p at n calls all count is is' = is' ∙ ap (take n) is ∙ ap (λ k. take k p.calls) count

pub firsts_are : (p : Past) (k count : ℕ) (calls firsts : List DiskCall) → calls ≡ take k p.calls → firsts ≡ take count calls → count ≤ length calls → firsts ≡ take count p.calls
firsts_are p k count calls firsts is is' within =
    let l : length calls ≡ min k (length p.calls) = ap length is ∙ length-take k p.calls in
    is' ∙ ap (take count) is ∙ take-take count k p.calls (omega arith)

module _ {E : Type 0} (p : Past) (past : IsPast p) (at count : ℕ) (pick : Pick) (calls : List DiskCall) (is : calls ≡ take (calls_until p at) p.calls) (within : count ≤ length calls) (counted : IsSyncedCount calls count) where
  pub old_image : (r : Result FileTable E) (firsts : List DiskCall) → pick ≡ Old → firsts ≡ take count calls
      → IfOk r (λ image. IsDrawn p.table (λ f. (state_after f (durable (first_of p.table f)) firsts).held) (λ f i. touched_by f [] i) 0 (bytes_of image)) → IfOk r (λ image. IsPickedImage p at pick (bytes_of image))
  old_image (Err e) firsts old is' drawn = tt
  old_image (Ok image) firsts old is' drawn =
      let picked = old_picked p past at count calls firsts (bytes_of image) is is' within counted drawn in
      record { picked = subst (λ k. IsPicked k (file_at p at) (bytes_of image)) (sym old) picked; left = old_left p past at (bytes_of image) picked }

  pub new_image : (r : Result FileTable E) → pick ≡ New
      → IfOk r (λ image. IsDrawn p.table (λ f. (state_after f (durable (first_of p.table f)) calls).held) (λ f i. touched_by f [] i) 0 (bytes_of image)) → IfOk r (λ image. IsPickedImage p at pick (bytes_of image))
  new_image (Err e) new drawn = tt
  new_image (Ok image) new drawn =
      let picked = new_picked p past at calls (bytes_of image) is drawn in
      record { picked = subst (λ k. IsPicked k (file_at p at) (bytes_of image)) (sym new) picked; left = new_left p past at (bytes_of image) picked }

  pub torn_image_of : (r : Result FileTable E) (rest : List DiskCall) (seed : ℕ) → pick ≡ Torn seed → rest ≡ drop count calls
      → IfOk r (λ image. IsDrawn p.table (λ f. (state_after f (durable (first_of p.table f)) calls).held) (λ f i. touched_by f rest i) seed (bytes_of image)) → IfOk r (λ image. IsPickedImage p at pick (bytes_of image))
  torn_image_of (Err e) rest seed torn is' drawn = tt
  torn_image_of (Ok image) rest seed torn is' drawn =
      let state = drawn_state p past at count seed calls rest (bytes_of image) is is' counted drawn in
      record { picked = subst (λ k. IsPicked k (file_at p at) (bytes_of image)) (sym torn) (torn_picked p past at seed (bytes_of image) state); left = torn_left p past at seed (bytes_of image) state }

-- what is held at the present moment is what a read gives
pub present_picked : (p : Past) → IsPast p → (pick : Pick) (at : ℕ) (files : Files) → pick ≡ New → at ≡ p.now → IsPicked pick (file_at p at) files → files ≡ bytes_of p.table
present_picked p past pick at files new now picked = λ i f. here f i
  where
    as_new : (f : FileName) → files f ≡ (file_at p at f).held
    as_new = subst (λ k. IsPicked k (file_at p at) files) new picked

    here : (f : FileName) → files f ≡ bytes_of p.table f
    here f = as_new f ∙ ap (λ m. (file_after p m f).held) (ap (calls_until p) now ∙ until_all p p.now past (omega arith)) ∙ sym (past.made f)
