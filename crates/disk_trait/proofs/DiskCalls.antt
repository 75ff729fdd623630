-- What each call of a disk in memory does to its files and to what a stop may leave of them.
use Rattle.std.proofs.Common.{◌≡◌, ◌⊎◌, ℕ, ◌+◌, ◌-◌, ◌<◌, ◌≤◌, max, Bool, true, false, ◌||◌, not, cond, leb, ltb, List, [], ◌∷◌, ◌++◌, length, take, drop, slice_index, refl, sym, ◌∙◌, ap, subst, inl, inr, ⊎_elim, ◌^◌, is_err, Result, Ok, Err, OnOk, OnErr, arith, length-take, length-drop, length-append, get_or-take, get_or-drop}
use Rattle.std.proofs.lemmas.Bool.{cases_Bool, cond-true, cond-false, le-leb, leb-false, ltb-false, and_cases, or_parts, or_left, or_right, not_from_false, false≢true}
use Rattle.std.proofs.lemmas.List.Elements.{All-nil}
use Rattle.std.proofs.lemmas.List.{take_all, ext_get_or, get_or_append_left, get_or-append_right, nil_from_length}
use Rattle.disk_trait.specs.declared.file_name.FileName.{FileName}
use Rattle.disk_trait.specs.declared.memory.call.DiskCall.{DiskCall}
use Rattle.disk_trait.specs.declared.memory.call.DiskCall.TheVariants.{Write, Cut, Sync}
use Rattle.disk_trait.specs.declared.memory.call_list.CallList.{CallList}
use Rattle.disk_trait.specs.declared.memory.table.FileTable.{FileTable}
use Rattle.disk_trait.specs.MemoryCalls.{Notes, HasSameCalls}
use Rattle.disk_trait.specs.Files.{Files, At, Overwritten, Torn, Shortened}
use Rattle.disk_trait.specs.Images.{After, Since, IsOnly}
use Rattle.disk_trait.specs.Memory.{FileState, durable, changed, same_name, after_call, fits, state_after, IsImage}
use Rattle.disk_trait.specs.MemoryTable.{bytes_of, first_of, has_file}
use Rattle.disk_trait.specs.MemoryHeld.{until_all}
use Rattle.disk_trait.specs.MemoryPast.{Past, IsPast, file_after, left_at}
use Rattle.disk_trait.proofs.FileNames.{same_name_itself, same_name_is, other_name}
use Rattle.disk_trait.proofs.FileTables.{absent_bytes, bytes_small}
use Rattle.disk_trait.proofs.MemoryLists.{in_range, before_write, before_write_torn, before_cut, before_cut_shortened}
use Rattle.disk_trait.proofs.DiskPasts.{pushed, last, is_past_pushed, since_pushed, left_last, is_past_kept, since_kept}

-- a state whose own bytes may be left
abbrev IsSound : FileState → Type 0
IsSound s = IsImage s s.held

-- ---- one file

abbrev pub overwritten : ℕ → List ℕ → List ℕ → List ℕ
overwritten at bytes held = take at held ++ bytes ++ drop (at + length bytes) held

length-overwritten : (at : ℕ) (bytes held : List ℕ) → at ≤ length held → length (overwritten at bytes held) ≡ max (length held) (at + length bytes)
length-overwritten at bytes held h =
    let a = length-append (take at held ++ bytes) (drop (at + length bytes) held) in
    let b = length-append (take at held) bytes in
    let t = length-take at held in
    let d = length-drop (at + length bytes) held in
    omega arith

overwritten-front : (at : ℕ) (bytes held : List ℕ) (i : ℕ) → at ≤ length held → i < at → slice_index (overwritten at bytes held) i ≡ slice_index held i
overwritten-front at bytes held i h lt =
    let t = length-take at held in
    let b = length-append (take at held) bytes in
    get_or_append_left (take at held ++ bytes) (drop (at + length bytes) held) 0 i (omega arith)
    ∙ get_or_append_left (take at held) bytes 0 i (omega arith) ∙ get_or-take at held i 0 lt

overwritten-back : (at : ℕ) (bytes held : List ℕ) (i : ℕ) → at ≤ length held → at + length bytes ≤ i → slice_index (overwritten at bytes held) i ≡ slice_index held i
overwritten-back at bytes held i h ge =
    let t = length-take at held in
    let n : length (take at held ++ bytes) ≡ at + length bytes = omega (arith, length-append (take at held) bytes) in
    get_or-append_right (take at held ++ bytes) (drop (at + length bytes) held) (at + length bytes) i 0 n ge
    ∙ get_or-drop (at + length bytes) held (i - (at + length bytes)) 0 ∙ ap (slice_index held) (omega arith)

outside_range : (at n i : ℕ) → in_range at n i ≡ false → (i < at) ⊎ (at + n ≤ i)
outside_range at n i out = ⊎_elim
    (λ (a : leb at i ≡ false). inl (leb-false at i a))
    (λ (b : ltb i (at + n) ≡ false). inr (ltb-false i (at + n) b))
    (and_cases (leb at i) (ltb i (at + n)) out)

pub write_sound : (at : ℕ) (bytes : List ℕ) (s : FileState) → at ≤ length s.held → IsSound s → IsSound (changed (overwritten at bytes s.held) (in_range at (length bytes)) s)
unfolding changed
write_sound at bytes s h sound =
    let l = length-overwritten at bytes s.held h in
    let a = sound.no_shorter in
    let b = sound.no_longer in
    record { no_shorter = omega arith; no_longer = omega arith; same = kept }
  where
    kept : (i : ℕ) → i < length (overwritten at bytes s.held) → (in_range at (length bytes) i || s.pending i) ≡ false → slice_index (overwritten at bytes s.held) i ≡ slice_index s.synced i
    kept i lt still =
        let l = length-overwritten at bytes s.held h in
        let parts = or_parts (in_range at (length bytes) i) (s.pending i) still in
        ⊎_elim
        (λ (front : i < at). overwritten-front at bytes s.held i h front ∙ sound.same i (omega arith) parts.1)
        (λ (back : at + length bytes ≤ i). overwritten-back at bytes s.held i h back ∙ sound.same i (omega arith) parts.1)
        (outside_range at (length bytes) i parts.0)

pub cut_sound : (size : ℕ) (s : FileState) → IsSound s → IsSound (changed (take size s.held) (λ i. leb size i) s)
unfolding changed
cut_sound size s sound =
    let l = length-take size s.held in
    let a = sound.no_shorter in
    let b = sound.no_longer in
    record { no_shorter = omega arith; no_longer = omega arith; same = kept }
  where
    kept : (i : ℕ) → i < length (take size s.held) → (leb size i || s.pending i) ≡ false → slice_index (take size s.held) i ≡ slice_index s.synced i
    kept i lt still =
        let l = length-take size s.held in
        let parts = or_parts (leb size i) (s.pending i) still in
        get_or-take size s.held i 0 (omega arith) ∙ sound.same i (omega arith) parts.1

pub durable_sound : (bytes : List ℕ) → IsSound (durable bytes)
unfolding durable
durable_sound bytes = record { no_shorter = omega arith; no_longer = omega arith; same = λ i lt still. refl }

-- right after a sync a stop leaves what is held
pub durable_only : (bytes c : List ℕ) → IsImage (durable bytes) c → c ≡ bytes
unfolding durable
durable_only bytes c image = ext_get_or 0 c bytes (omega (arith, image.no_shorter, image.no_longer)) (λ i lt. image.same i lt refl)

-- ---- a call and a file

module _ (name : FileName) (at : ℕ) (bytes : List ℕ) where
  write_here : (f : FileName) (s : FileState) → same_name name f ≡ true → after_call f (Write name at bytes) s ≡ changed (overwritten at bytes s.held) (in_range at (length bytes)) s
  unfolding after_call
  write_here f s here = cond-true (same_name name f) _ _ here

  write_there : (f : FileName) (s : FileState) → same_name name f ≡ false → after_call f (Write name at bytes) s ≡ s
  unfolding after_call
  write_there f s there = cond-false (same_name name f) _ _ there

module _ (name : FileName) (size : ℕ) where
  cut_here : (f : FileName) (s : FileState) → same_name name f ≡ true → after_call f (Cut name size) s ≡ changed (take size s.held) (λ i. leb size i) s
  unfolding after_call
  cut_here f s here = cond-true (same_name name f) _ _ here

  cut_there : (f : FileName) (s : FileState) → same_name name f ≡ false → after_call f (Cut name size) s ≡ s
  unfolding after_call
  cut_there f s there = cond-false (same_name name f) _ _ there

sync_each : (f : FileName) (s : FileState) → after_call f Sync s ≡ durable s.held
unfolding after_call
sync_each f s = refl

held-changed : (held : List ℕ) (touched : ℕ → Bool) (s : FileState) → (changed held touched s).held ≡ held
unfolding changed
held-changed held touched s = refl

synced-changed : (held : List ℕ) (touched : ℕ → Bool) (s : FileState) → (changed held touched s).synced ≡ s.synced
unfolding changed
synced-changed held touched s = refl

pub held-durable : (bytes : List ℕ) → (durable bytes).held ≡ bytes
unfolding durable
held-durable bytes = refl

synced-durable : (bytes : List ℕ) → (durable bytes).synced ≡ bytes
unfolding durable
synced-durable bytes = refl

greatest-durable : (bytes : List ℕ) → (durable bytes).greatest ≡ length bytes
unfolding durable
greatest-durable bytes = refl

-- a name that a call can give, and one that it can't
named_apart : (name f : FileName) → name.number < 2 ^ 64 → 2 ^ 64 ≤ f.number → same_name name f ≡ false
named_apart name f small big = ⊎_elim
    (λ (here : same_name name f ≡ true). absurd (omega (arith, small, big, ap (λ (g : FileName). g.number) (same_name_is name f here))))
    (λ (there : same_name name f ≡ false). there)
    (cases_Bool (same_name name f))

-- A stop right after a call on one file leaves what one right before it might have left, after a step on
-- that file.
module _ (p : Past) (past : IsPast p) (name : FileName) (call : DiskCall) (step : List ℕ → List ℕ → Type 0) (before : FileState → List ℕ → List ℕ)
    (here : (f : FileName) → same_name name f ≡ true → (c : List ℕ) → IsImage (after_call f call (last p f)) c → IsImage (last p f) (before (last p f) c) × step (before (last p f) c) c)
    (there : (f : FileName) → same_name name f ≡ false → after_call f call (last p f) ≡ last p f) where
  files_before : Files → Files
  files_before c f = cond (same_name name f) (before (last p f) (c f)) (c f)

  image_before : (c : Files) → ((f : FileName) → IsImage (after_call f call (last p f)) (c f)) → (f : FileName) → IsImage (last p f) (files_before c f)
  unfolding files_before
  image_before c images f = ⊎_elim
      (λ (yes : same_name name f ≡ true). subst (λ d. IsImage (last p f) d) (sym (cond-true (same_name name f) _ _ yes)) ((here f yes (c f) (images f)).0))
      (λ (other : same_name name f ≡ false). subst (λ d. IsImage (last p f) d) (sym (cond-false (same_name name f) _ _ other)) (subst (λ s. IsImage s (c f)) (there f other) (images f)))
      (cases_Bool (same_name name f))

  left_before_call : (c : Files) → ((f : FileName) → IsImage (after_call f call (last p f)) (c f)) → left_at p p.now (files_before c)
  unfolding left_at
  left_before_call c images = λ f. subst (λ m. IsImage (file_after p m f) (files_before c f)) (sym (until_all p p.now past (omega arith))) (image_before c images f)

  step_before : (c : Files) → ((f : FileName) → IsImage (after_call f call (last p f)) (c f)) → At name step (files_before c) c
  unfolding files_before
  step_before c images =
      let itself = same_name_itself name in
      record {
        here = subst (λ d. step d (c name)) (sym (cond-true (same_name name name) _ _ itself)) ((here name itself (c name) (images name)).1);
        others = λ f other. sym (cond-false (same_name name f) _ _ (other_name name f other));
      }

  pub after_step : (c : Files) → ((f : FileName) → IsImage (after_call f call (last p f)) (c f)) → After (At name step) (left_at p p.now) c
  after_step c images = (files_before c, left_before_call c images, step_before c images)

torn_itself : (at n : ℕ) (c : List ℕ) → Torn at n c c
torn_itself at n c = record { front = refl; back = refl; no_shorter = omega arith; no_longer = omega arith }

shortened_itself : (n : ℕ) (c : List ℕ) → Shortened n c c
shortened_itself n c = record { front = refl; no_shorter = omega arith; no_longer = omega arith }

at_itself : (name : FileName) (step : List ℕ → List ℕ → Type 0) (c : Files) → step (c name) (c name) → At name step c c
at_itself name step c here = record { here = here; others = λ f other. refl }

pub torn_kept : (name : FileName) (at n : ℕ) (left : Files → Type 0) (c : Files) → left c → After (At name (Torn at n)) left c
torn_kept name at n left c is = (c, is, at_itself name (Torn at n) c (torn_itself at n (c name)))

pub shortened_kept : (name : FileName) (n : ℕ) (left : Files → Type 0) (c : Files) → left c → After (At name (Shortened n)) left c
shortened_kept name n left c is = (c, is, at_itself name (Shortened n) c (shortened_itself n (c name)))

-- ---- a write

module _ (p : Past) (u : FileTable) (name : FileName) (at : ℕ) (bytes : List ℕ) (n : ℕ) (past : IsPast p) (next : n ≡ p.now + 1) (inside : at ≤ length (bytes_of p.table name))
    (first : (f : FileName) → first_of u f ≡ first_of p.table f) (written : At name (Overwritten at bytes) (bytes_of p.table) (bytes_of u))
    (had : (f : FileName) → has_file u f ≡ false → has_file p.table f ≡ false) (has : has_file u name ≡ true) (small : name.number < 2 ^ 64) where
  inside_at : (f : FileName) → same_name name f ≡ true → at ≤ length (last p f).held
  inside_at f here = omega (arith, inside, ap (λ g. length (bytes_of p.table g)) (same_name_is name f here), ap length (past.made f))

  made : (f : FileName) → bytes_of u f ≡ (after_call f (Write name at bytes) (last p f)).held
  made f = ⊎_elim
      (λ (here : same_name name f ≡ true). let e = same_name_is name f here in
      subst (λ g. bytes_of u g ≡ overwritten at bytes (bytes_of p.table g)) e written.here ∙ ap (overwritten at bytes) (past.made f)
      ∙ sym (ap (λ (s : FileState). s.held) (write_here name at bytes f (last p f) here) ∙ held-changed _ _ (last p f)))
      (λ (there : same_name name f ≡ false).
      written.others f (λ e. false≢true (sym there ∙ ap (same_name name) e ∙ same_name_itself name)) ∙ past.made f
      ∙ sym (ap (λ (s : FileState). s.held) (write_there name at bytes f (last p f) there)))
      (cases_Bool (same_name name f))

  fits_written : (f : FileName) → fits f (Write name at bytes) (last p f) ≡ true
  unfolding fits
  fits_written f = ⊎_elim
      (λ (here : same_name name f ≡ true). or_right (not (same_name name f)) _ (le-leb at (length (last p f).held) (inside_at f here)))
      (λ (there : same_name name f ≡ false). or_left (not (same_name name f)) _ (not_from_false (same_name name f) there))
      (cases_Bool (same_name name f))

  sound : (f : FileName) → IsSound (after_call f (Write name at bytes) (last p f))
  sound f = ⊎_elim
      (λ (here : same_name name f ≡ true). subst (λ (s : FileState). IsSound s) (sym (write_here name at bytes f (last p f) here))
      (write_sound at bytes (last p f) (inside_at f here) (past.sound (length p.calls) f)))
      (λ (there : same_name name f ≡ false). subst (λ (s : FileState). IsSound s) (sym (write_there name at bytes f (last p f) there)) (past.sound (length p.calls) f))
      (cases_Bool (same_name name f))

  absent : (f : FileName) → has_file u f ≡ false → ((after_call f (Write name at bytes) (last p f)).held ≡ []) × ((after_call f (Write name at bytes) (last p f)).synced ≡ [])
  absent f none = ⊎_elim
      (λ (here : same_name name f ≡ true). absurd (false≢true (sym none ∙ ap (has_file u) (sym (same_name_is name f here)) ∙ has)))
      (λ (there : same_name name f ≡ false). subst (λ (s : FileState). (s.held ≡ []) × (s.synced ≡ [])) (sym (write_there name at bytes f (last p f) there)) (past.absent (length p.calls) f (had f none)))
      (cases_Bool (same_name name f))

  ends_written : (f : FileName) → 2 ^ 64 ≤ f.number → (after_call f (Write name at bytes) (last p f)).greatest ≡ 0
  ends_written f big = subst (λ (s : FileState). s.greatest ≡ 0) (sym (write_there name at bytes f (last p f) (named_apart name f small big))) (past.ends (length p.calls) f big)

  pub is_past_written : IsPast (pushed p u (Write name at bytes) n)
  is_past_written = is_past_pushed p u (Write name at bytes) n first past (omega arith) made fits_written sound had absent ends_written

  torn_here : (f : FileName) → same_name name f ≡ true → (c : List ℕ) → IsImage (after_call f (Write name at bytes) (last p f)) c
      → IsImage (last p f) (before_write at (length bytes) (last p f) c) × Torn at (length bytes) (before_write at (length bytes) (last p f) c) c
  torn_here f here c image =
      let s = last p f in
      let h = inside_at f here in
      let l = length-overwritten at bytes s.held h in
      let ok = past.sound (length p.calls) f in
      before_write_torn at (length bytes) (overwritten at bytes s.held) s c (omega (arith, h, ok.no_longer)) (omega (arith, ok.no_longer, ok.no_shorter)) (omega (arith, l, ok.no_longer)) (omega (arith, l, ok.no_shorter))
      (subst (λ t. IsImage t c) (write_here name at bytes f s here) image)

  pub since_written : Since (λ past. past.now) left_at p (pushed p u (Write name at bytes) n) (After (At name (Torn at (length bytes))) (left_at p p.now))
  since_written = since_pushed p u (Write name at bytes) n first past next (After (At name (Torn at (length bytes))) (left_at p p.now))
      (torn_kept name at (length bytes) (left_at p p.now))
      (after_step p past name (Write name at bytes) (Torn at (length bytes)) (before_write at (length bytes)) torn_here (λ f other. write_there name at bytes f (last p f) other))

-- ---- a cut

fits_cut : (name : FileName) (size : ℕ) (p : Past) (f : FileName) → fits f (Cut name size) (last p f) ≡ true
unfolding fits
fits_cut name size p f = refl

fits_sync : (f : FileName) (s : FileState) → fits f Sync s ≡ true
unfolding fits
fits_sync f s = refl

module _ (p : Past) (u : FileTable) (name : FileName) (size : ℕ) (n : ℕ) (past : IsPast p) (next : n ≡ p.now + 1) (inside : size ≤ length (bytes_of p.table name))
    (first : (f : FileName) → first_of u f ≡ first_of p.table f) (cut : At name (λ old new. new ≡ take size old) (bytes_of p.table) (bytes_of u))
    (had : (f : FileName) → has_file u f ≡ has_file p.table f) (small : name.number < 2 ^ 64) where
  inside_cut : (f : FileName) → same_name name f ≡ true → size ≤ length (last p f).held
  inside_cut f here = omega (arith, inside, ap (λ g. length (bytes_of p.table g)) (same_name_is name f here), ap length (past.made f))

  made_cut : (f : FileName) → bytes_of u f ≡ (after_call f (Cut name size) (last p f)).held
  made_cut f = ⊎_elim
      (λ (here : same_name name f ≡ true). let e = same_name_is name f here in
      subst (λ g. bytes_of u g ≡ take size (bytes_of p.table g)) e cut.here ∙ ap (take size) (past.made f)
      ∙ sym (ap (λ (s : FileState). s.held) (cut_here name size f (last p f) here) ∙ held-changed _ _ (last p f)))
      (λ (there : same_name name f ≡ false).
      cut.others f (λ e. false≢true (sym there ∙ ap (same_name name) e ∙ same_name_itself name)) ∙ past.made f
      ∙ sym (ap (λ (s : FileState). s.held) (cut_there name size f (last p f) there)))
      (cases_Bool (same_name name f))

  sound_cut : (f : FileName) → IsSound (after_call f (Cut name size) (last p f))
  sound_cut f = ⊎_elim
      (λ (here : same_name name f ≡ true). subst (λ (s : FileState). IsSound s) (sym (cut_here name size f (last p f) here)) (cut_sound size (last p f) (past.sound (length p.calls) f)))
      (λ (there : same_name name f ≡ false). subst (λ (s : FileState). IsSound s) (sym (cut_there name size f (last p f) there)) (past.sound (length p.calls) f))
      (cases_Bool (same_name name f))

  absent_cut : (f : FileName) → has_file u f ≡ false → ((after_call f (Cut name size) (last p f)).held ≡ []) × ((after_call f (Cut name size) (last p f)).synced ≡ [])
  absent_cut f none =
      let was = past.absent (length p.calls) f (sym (had f) ∙ none) in
      ⊎_elim
      (λ (here : same_name name f ≡ true). subst (λ (s : FileState). (s.held ≡ []) × (s.synced ≡ [])) (sym (cut_here name size f (last p f) here)) (
        held-changed _ _ (last p f) ∙ nil_from_length _ (omega (arith, length-take size (last p f).held, ap length was.0)),
        synced-changed _ _ (last p f) ∙ was.1,
      ))
      (λ (there : same_name name f ≡ false). subst (λ (s : FileState). (s.held ≡ []) × (s.synced ≡ [])) (sym (cut_there name size f (last p f) there)) was)
      (cases_Bool (same_name name f))

  ends_cut : (f : FileName) → 2 ^ 64 ≤ f.number → (after_call f (Cut name size) (last p f)).greatest ≡ 0
  ends_cut f big = subst (λ (s : FileState). s.greatest ≡ 0) (sym (cut_there name size f (last p f) (named_apart name f small big))) (past.ends (length p.calls) f big)

  pub is_past_cut : IsPast (pushed p u (Cut name size) n)
  is_past_cut = is_past_pushed p u (Cut name size) n first past (omega arith) made_cut (fits_cut name size p) sound_cut (λ f none. sym (had f) ∙ none) absent_cut ends_cut

  shortened_here : (f : FileName) → same_name name f ≡ true → (c : List ℕ) → IsImage (after_call f (Cut name size) (last p f)) c
      → IsImage (last p f) (before_cut size (last p f) c) × Shortened size (before_cut size (last p f) c) c
  shortened_here f here c image =
      let s = last p f in
      let h = inside_cut f here in
      let ok = past.sound (length p.calls) f in
      before_cut_shortened size s.held s c (omega (arith, ok.no_longer, ok.no_shorter)) ok.no_longer h
      (subst (λ t. IsImage t c) (cut_here name size f s here) image)

  pub since_cut : Since (λ past. past.now) left_at p (pushed p u (Cut name size) n) (After (At name (Shortened size)) (left_at p p.now))
  since_cut = since_pushed p u (Cut name size) n first past next (After (At name (Shortened size)) (left_at p p.now))
      (shortened_kept name size (left_at p p.now))
      (after_step p past name (Cut name size) (Shortened size) (before_cut size) shortened_here (λ f other. cut_there name size f (last p f) other))

-- ---- a sync

module _ (p : Past) (n : ℕ) (past : IsPast p) (next : n ≡ p.now + 1) where
  sync_now : (f : FileName) → after_call f Sync (last p f) ≡ durable (bytes_of p.table f)
  sync_now f = sync_each f (last p f) ∙ ap durable (sym (past.made f))

  held_ends : (f : FileName) → 2 ^ 64 ≤ f.number → length (bytes_of p.table f) ≡ 0
  held_ends f big = omega (arith, ap length (past.made f), (past.sound (length p.calls) f).no_longer, past.ends (length p.calls) f big)

  pub is_past_synced : IsPast (pushed p p.table Sync n)
  is_past_synced = is_past_pushed p p.table Sync n (λ f. refl) past (omega arith)
      (λ f. sym (ap (λ (s : FileState). s.held) (sync_now f) ∙ held-durable _))
      (λ f. fits_sync f (last p f))
      (λ f. subst (λ (s : FileState). IsSound s) (sym (sync_now f)) (durable_sound (bytes_of p.table f)))
      (λ f none. none)
      (λ f none. subst (λ (s : FileState). (s.held ≡ []) × (s.synced ≡ [])) (sym (sync_now f))
      (held-durable _ ∙ past.made f ∙ (past.absent (length p.calls) f none).0, synced-durable _ ∙ past.made f ∙ (past.absent (length p.calls) f none).0))
      (λ f big. subst (λ (s : FileState). s.greatest ≡ 0) (sym (sync_now f)) (greatest-durable _ ∙ held_ends f big))

  only_held : (c : Files) → ((f : FileName) → IsImage (after_call f Sync (last p f)) (c f)) → (f : FileName) → c f ≡ bytes_of p.table f
  only_held c images f = durable_only (bytes_of p.table f) (c f) (subst (λ s. IsImage s (c f)) (sync_now f) (images f))

  held_left : (c : Files) → ((f : FileName) → c f ≡ bytes_of p.table f) → left_at p p.now c
  unfolding left_at
  held_left c same = λ f. subst (λ m. IsImage (file_after p m f) (c f)) (sym (until_all p p.now past (omega arith)))
      (subst (λ held. IsImage (last p f) held) (sym (same f ∙ past.made f)) (past.sound (length p.calls) f))

  pub since_synced : Since (λ past. past.now) left_at p (pushed p p.table Sync n) (left_at p p.now)
  since_synced = since_pushed p p.table Sync n (λ f. refl) past next (left_at p p.now) (λ c left. left) (λ c images. held_left c (only_held c images))

  pub synced_now : IsOnly (bytes_of p.table) (left_at (pushed p p.table Sync n) n)
  synced_now c left = λ i f. only_held c (left_last p p.table Sync n (λ g. refl) c past (omega arith) left) f i

-- ---- a past with no calls

abbrev pub begun : FileTable → Past
begun t = record { table = t; calls = []; moments = []; now = 0 }

file_begun : (t : FileTable) (m : ℕ) (f : FileName) → file_after (begun t) m f ≡ durable (first_of t f)
unfolding file_after
file_begun t m f = ap (λ calls. state_after f (durable (first_of t f)) calls) (take_all {A = DiskCall} m [] (omega arith))

pub is_past_begun : (t : FileTable) → ((f : FileName) → bytes_of t f ≡ first_of t f) → ((f : FileName) → 2 ^ 64 ≤ f.number → bytes_of t f ≡ []) → IsPast (begun t)
is_past_begun t same ends = record {
  paired = refl;
  passed = All-nil (λ moment. moment ≤ 0);
  made = λ f. same f ∙ sym (held-durable _) ∙ ap (λ (s : FileState). s.held) (sym (file_begun t 0 f));
  inside = λ m f lt. absurd (omega (arith, lt));
  sound = λ m f. subst (λ (s : FileState). IsSound s) (sym (file_begun t m f)) (durable_sound (first_of t f));
  absent = λ m f none. subst (λ (s : FileState). (s.held ≡ []) × (s.synced ≡ [])) (sym (file_begun t m f))
      (let empty = sym (same f) ∙ absent_bytes t f none in (held-durable _ ∙ empty, synced-durable _ ∙ empty));
  ends = λ m f big. subst (λ (s : FileState). s.greatest ≡ 0) (sym (file_begun t m f)) (greatest-durable _ ∙ ap length (sym (same f) ∙ ends f big));
}

pub only_begun : (t : FileTable) → ((f : FileName) → bytes_of t f ≡ first_of t f) → IsOnly (bytes_of t) (left_at (begun t) 0)
unfolding left_at
only_begun t same c left = λ i f. (durable_only (first_of t f) (c f) (subst (λ s. IsImage s (c f)) (file_begun t _ f) (left f)) ∙ sym (same f)) i

-- ---- the two outcomes of a call

-- what holds of the calls and moments of a list holds of an equal one
pub at_calls : (G : List DiskCall → List ℕ → Type 0) (calls calls' : List DiskCall) (moments moments' : List ℕ) → calls' ≡ calls → moments' ≡ moments → G calls moments → G calls' moments'
at_calls G calls calls' moments moments' a b g = subst (λ cs. G cs moments') (sym a) (subst (λ ms. G calls ms) (sym b) g)

-- the past of these parts
abbrev pub past_with : FileTable → CallList → ℕ → Past
past_with t done now = record { table = t; calls = done.calls.items; moments = done.moments.items; now = now }

-- the new past, and what a stop may leave since the old one
pub record GoesOn (old new : Past) (Q : Files → Type 0) : Type 0 where
  pub past : IsPast new
  pub images : Since (λ past. past.now) left_at old new Q

noted_on : (old : Past) (u : FileTable) (done done' : CallList) (call : DiskCall) (n : ℕ) (Q : Files → Type 0) → Notes done done' call n
    → GoesOn old record { table = u; calls = done.calls.items ++ call ∷ []; moments = done.moments.items ++ n ∷ []; now = n } Q → GoesOn old (past_with u done' n) Q
noted_on old u done done' call n Q notes on =
    at_calls (λ calls moments. GoesOn old record { table = u; calls = calls; moments = moments; now = n } Q) _ _ _ _ notes.calls notes.moments on

unnoted_on : (old : Past) (u : FileTable) (done done' : CallList) (n : ℕ) (Q : Files → Type 0) → HasSameCalls done done' → GoesOn old (past_with u done n) Q → GoesOn old (past_with u done' n) Q
unnoted_on old u done done' n Q same on =
    at_calls (λ calls moments. GoesOn old record { table = u; calls = calls; moments = moments; now = n } Q) _ _ _ _ same.calls same.moments on

module _ {T E : Type 0} (t u : FileTable) (done done' : CallList) (now : ℕ) (past : IsPast (past_with t done now)) where
  pub write_goes_on : (r : Result T E) (name : FileName) (at : ℕ) (bytes : List ℕ) → name.number < 2 ^ 64 → at ≤ length (bytes_of t name)
      → OnOk r (At name (Overwritten at bytes) (bytes_of t) (bytes_of u)) → OnOk r (has_file u name ≡ true) → OnOk r (Notes done done' (Write name at bytes) (now + 1))
      → OnErr r ((f : FileName) → bytes_of u f ≡ bytes_of t f) → OnErr r (HasSameCalls done done')
      → ((f : FileName) → first_of u f ≡ first_of t f) → ((f : FileName) → has_file u f ≡ false → has_file t f ≡ false)
      → GoesOn (past_with t done now) (past_with u done' (now + 1)) (After (At name (Torn at (length bytes))) (left_at (past_with t done now) now))
  write_goes_on (Ok x) name at bytes small inside written has notes held same first had = noted_on (past_with t done now) u done done' _ (now + 1) _ notes record {
    past = is_past_written (past_with t done now) u name at bytes (now + 1) past refl inside first written had has small;
    images = since_written (past_with t done now) u name at bytes (now + 1) past refl inside first written had has small;
  }
  write_goes_on (Err e) name at bytes small inside written has notes held same first had = unnoted_on (past_with t done now) u done done' (now + 1) _ same record {
    past = is_past_kept (past_with t done now) u (now + 1) past (omega arith) first held had;
    images = since_kept (past_with t done now) u (now + 1) past (omega arith) first _ (torn_kept name at (length bytes) (left_at (past_with t done now) now));
  }

  pub cut_goes_on : (r : Result T E) (name : FileName) (size : ℕ) → name.number < 2 ^ 64 → size ≤ length (bytes_of t name)
      → OnOk r (At name (λ old new. new ≡ take size old) (bytes_of t) (bytes_of u)) → OnOk r (Notes done done' (Cut name size) (now + 1))
      → OnErr r ((f : FileName) → bytes_of u f ≡ bytes_of t f) → OnErr r (HasSameCalls done done')
      → ((f : FileName) → first_of u f ≡ first_of t f) → ((f : FileName) → has_file u f ≡ has_file t f)
      → GoesOn (past_with t done now) (past_with u done' (now + 1)) (After (At name (Shortened size)) (left_at (past_with t done now) now))
  cut_goes_on (Ok x) name size small inside cut notes held same first had = noted_on (past_with t done now) u done done' _ (now + 1) _ notes record {
    past = is_past_cut (past_with t done now) u name size (now + 1) past refl inside first cut had small;
    images = since_cut (past_with t done now) u name size (now + 1) past refl inside first cut had small;
  }
  cut_goes_on (Err e) name size small inside cut notes held same first had = unnoted_on (past_with t done now) u done done' (now + 1) _ same record {
    past = is_past_kept (past_with t done now) u (now + 1) past (omega arith) first held (λ f none. sym (had f) ∙ none);
    images = since_kept (past_with t done now) u (now + 1) past (omega arith) first _ (shortened_kept name size (left_at (past_with t done now) now));
  }

module _ {T E : Type 0} (t : FileTable) (done done' : CallList) (now : ℕ) (past : IsPast (past_with t done now)) where
  pub sync_goes_on : (r : Result T E) → OnOk r (Notes done done' Sync (now + 1)) → OnErr r (HasSameCalls done done')
      → GoesOn (past_with t done now) (past_with t done' (now + 1)) (left_at (past_with t done now) now)
  sync_goes_on (Ok x) notes same = noted_on (past_with t done now) t done done' _ (now + 1) _ notes record {
    past = is_past_synced (past_with t done now) (now + 1) past refl;
    images = since_synced (past_with t done now) (now + 1) past refl;
  }
  sync_goes_on (Err e) notes same = unnoted_on (past_with t done now) t done done' (now + 1) _ same record {
    past = is_past_kept (past_with t done now) t (now + 1) past (omega arith) (λ f. refl) (λ f. refl) (λ f none. none);
    images = since_kept (past_with t done now) t (now + 1) past (omega arith) (λ f. refl) _ (λ c left. left);
  }

  pub sync_makes_durable : (r : Result T E) → OnOk r (Notes done done' Sync (now + 1)) → OnOk r (IsOnly (bytes_of t) (left_at (past_with t done' (now + 1)) (now + 1)))
  sync_makes_durable (Ok x) notes =
      at_calls (λ calls moments. IsOnly (bytes_of t) (left_at record { table = t; calls = calls; moments = moments; now = now + 1 } (now + 1))) _ _ _ _ notes.calls notes.moments
      (synced_now (past_with t done now) (now + 1) past refl)
  sync_makes_durable (Err e) notes = tt

-- where a write is done, its range ends below 2^64
pub write_fits : {T E : Type 0} (r : Result T E) (t u : FileTable) (name : FileName) (at : ℕ) (bytes : List ℕ) → is_err r ≡ false → at ≤ length (bytes_of t name)
    → OnOk r (At name (Overwritten at bytes) (bytes_of t) (bytes_of u)) → at + length bytes < 2 ^ 64
write_fits (Ok x) t u name at bytes ok inside written =
    omega (arith, ap length written.here, length-overwritten at bytes (bytes_of t name) inside, bytes_small u name)
write_fits (Err e) t u name at bytes ok inside written = absurd (false≢true (sym ok))
