-- Files made again from their calls, and torn.
use Rattle.std.proofs.Common.{◌≡◌, ℕ, ◌+◌, ◌-◌, ◌*◌, ◌/◌, ◌%◌, ◌^◌, ◌<◌, ◌≤◌, min, Bool, true, false, not, ◌&&◌, ◌||◌, cond, leb, ltb, List, [], ◌∷◌, ◌++◌, length, take, drop, get_or, set, refl, sym, ◌∙◌, ap, subst, ⊎_elim, arith}
use Rattle.std.specs.List.{list_any}
use Rattle.std.proofs.lemmas.Bool.{cases_lt, lt-ltb, le-ltb, cond-true, cond-false, or_cases, leb-true, false≢true, not_from_true}
use Rattle.std.proofs.Math.Nat.{mod-add-div, add-mul-mod_self_left}
use Rattle.std.proofs.lemmas.List.{take_all, set-get_or, drop_all, length-take-le, take_more_set, drop-set-lt, drop_more, append_assoc, take_more, get_or_default, take-append-le, drop-append-le, length_push}
use Rattle.disk_trait.specs.declared.file_name.FileName.{FileName}
use Rattle.disk_trait.specs.declared.memory.call.DiskCall.{DiskCall}
use Rattle.disk_trait.specs.declared.memory.call.DiskCall.TheVariants.{Write, Cut, Sync}
use Rattle.disk_trait.specs.Memory.{FileState, durable, changed, same_name, after_call, fits, state_after}
use Rattle.disk_trait.specs.MemoryStop.{touches, touched_by, IsSyncedCount, next_draw, next_seed, drawn, seed_after}
use Rattle.disk_trait.proofs.MemoryLists.{in_range}
use Rattle.disk_trait.proofs.DiskPasts.{state_after-push}
use Rattle.disk_trait.proofs.DiskCalls.{overwritten}

-- ---- one call

pub write_inside : (f name : FileName) (at : ℕ) (bytes held : List ℕ) (call : DiskCall) → call ≡ Write name at bytes → same_name name f ≡ true → fits f call (durable held) ≡ true → at ≤ length held
unfolding fits durable
write_inside f name at bytes held call is here fit = inside (subst (λ c. fits f c (durable held) ≡ true) is fit)
  where
    inside : fits f (Write name at bytes) (durable held) ≡ true → at ≤ length held
    inside fit = ⊎_elim
        (λ (other : not (same_name name f) ≡ true). absurd (false≢true (sym (not_from_true (same_name name f) here) ∙ other)))
        (λ (le : leb at (length held) ≡ true). leb-true at (length held) le)
        (or_cases (not (same_name name f)) (leb at (length held)) fit)

pub held_write : (f name : FileName) (at : ℕ) (bytes held : List ℕ) (call : DiskCall) → call ≡ Write name at bytes → same_name name f ≡ true → (after_call f call (durable held)).held ≡ overwritten at bytes held
unfolding after_call changed durable
held_write f name at bytes held call is here = ap (λ c. (after_call f c (durable held)).held) is ∙ written
  where
    written : (after_call f (Write name at bytes) (durable held)).held ≡ overwritten at bytes held
    written = ap (λ (s : FileState). s.held) (cond-true (same_name name f) _ _ here)

pub held_write_other : (f name : FileName) (at : ℕ) (bytes held : List ℕ) (call : DiskCall) → call ≡ Write name at bytes → same_name name f ≡ false → (after_call f call (durable held)).held ≡ held
unfolding after_call changed durable
held_write_other f name at bytes held call is other = ap (λ c. (after_call f c (durable held)).held) is ∙ kept
  where
    kept : (after_call f (Write name at bytes) (durable held)).held ≡ held
    kept = ap (λ (s : FileState). s.held) (cond-false (same_name name f) _ _ other)

pub held_cut : (f name : FileName) (size : ℕ) (held : List ℕ) (call : DiskCall) → call ≡ Cut name size → same_name name f ≡ true → (after_call f call (durable held)).held ≡ take size held
unfolding after_call changed durable
held_cut f name size held call is here = ap (λ c. (after_call f c (durable held)).held) is ∙ cut
  where
    cut : (after_call f (Cut name size) (durable held)).held ≡ take size held
    cut = ap (λ (s : FileState). s.held) (cond-true (same_name name f) _ _ here)

pub held_cut_other : (f name : FileName) (size : ℕ) (held : List ℕ) (call : DiskCall) → call ≡ Cut name size → same_name name f ≡ false → (after_call f call (durable held)).held ≡ held
unfolding after_call changed durable
held_cut_other f name size held call is other = ap (λ c. (after_call f c (durable held)).held) is ∙ kept
  where
    kept : (after_call f (Cut name size) (durable held)).held ≡ held
    kept = ap (λ (s : FileState). s.held) (cond-false (same_name name f) _ _ other)

pub held_sync : (f : FileName) (held : List ℕ) (call : DiskCall) → call ≡ Sync → (after_call f call (durable held)).held ≡ held
unfolding after_call durable
held_sync f held call is = ap (λ c. (after_call f c (durable held)).held) is ∙ kept
  where
    kept : (after_call f Sync (durable held)).held ≡ held
    kept = refl

-- what a call makes of the bytes depends on the bytes alone
held_alone : (f : FileName) (call : DiskCall) (s : FileState) → (after_call f call s).held ≡ (after_call f call (durable s.held)).held
unfolding after_call changed durable
held_alone f (Write name at bytes) s = by_name (same_name name f)
  where
    by_name : (b : Bool) → (cond b (changed (overwritten at bytes s.held) (in_range at (length bytes)) s) s).held ≡ (cond b (changed (overwritten at bytes s.held) (in_range at (length bytes)) (durable s.held)) (durable s.held)).held
    by_name true = refl
    by_name false = refl
held_alone f (Cut name size) s = by_name (same_name name f)
  where
    by_name : (b : Bool) → (cond b (changed (take size s.held) (λ i. leb size i) s) s).held ≡ (cond b (changed (take size s.held) (λ i. leb size i) (durable s.held)) (durable s.held)).held
    by_name true = refl
    by_name false = refl
held_alone f Sync s = refl

fits_alone : (f : FileName) (call : DiskCall) (s : FileState) → fits f call s ≡ fits f call (durable s.held)
unfolding fits durable
fits_alone f (Write name at bytes) s = refl
fits_alone f (Cut name size) s = refl
fits_alone f Sync s = refl

-- ---- a walk over the calls

pub walk_fits : (f : FileName) (first : List ℕ) (calls : List DiskCall) (i : ℕ) (call : DiskCall) (bytes : List ℕ) → i < length calls → call ≡ get_or calls i call
    → bytes ≡ (state_after f (durable first) (take i calls)).held → fits f (get_or calls i Sync) (state_after f (durable first) (take i calls)) ≡ true → fits f call (durable bytes) ≡ true
walk_fits f first calls i call bytes lt is same fit =
    let here : call ≡ get_or calls i Sync = is ∙ get_or_default calls i call Sync lt in
    ap (λ b. fits f call (durable b)) same ∙ sym (fits_alone f call (state_after f (durable first) (take i calls))) ∙ ap (λ c. fits f c (state_after f (durable first) (take i calls))) here ∙ fit

pub walk_held : (f : FileName) (first : List ℕ) (calls : List DiskCall) (i : ℕ) (call : DiskCall) (bytes new : List ℕ) → i < length calls → call ≡ get_or calls i call
    → bytes ≡ (state_after f (durable first) (take i calls)).held → new ≡ (after_call f call (durable bytes)).held → new ≡ (state_after f (durable first) (take (i + 1) calls)).held
walk_held f first calls i call bytes new lt is same made =
    made ∙ ap (λ b. (after_call f call (durable b)).held) same ∙ sym (held_alone f call (state_after f (durable first) (take i calls)))
    ∙ ap (λ (s : FileState). s.held) (sym (ap (state_after f (durable first)) (take_more calls i call lt ∙ ap (λ c. take i calls ++ c ∷ []) (sym is)) ∙ state_after-push f (durable first) (take i calls) call))

-- ---- the last sync

or_swap : (a b c : Bool) → (a || (b || c)) ≡ (b || (a || c))
or_swap true true c = refl
or_swap true false c = refl
or_swap false b c = refl

any_push : {X : Type 0} (p : X → Bool) (xs : List X) (x : X) → list_any p (xs ++ x ∷ []) ≡ (p x || list_any p xs)
any_push p [] x = refl
any_push p (y ∷ xs) x = ap (λ b. p y || b) (any_push p xs x) ∙ or_swap (p y) (p x) (list_any p xs)

pub touched_by-push : (f : FileName) (calls : List DiskCall) (call : DiskCall) (i : ℕ) → touched_by f (calls ++ call ∷ []) i ≡ (touches f call i || touched_by f calls i)
unfolding touched_by
touched_by-push f calls call i = any_push (λ c. touches f c i) calls call

touched_by-nil : (f : FileName) (i : ℕ) → touched_by f [] i ≡ false
unfolding touched_by
touched_by-nil f i = refl

pub counted_none : IsSyncedCount [] 0
unfolding durable
counted_none = record { synced = λ f first. refl; pending = λ f first i. sym (touched_by-nil f i) }

pub counted_sync : (calls : List DiskCall) (n : ℕ) → n ≡ length calls + 1 → IsSyncedCount (calls ++ Sync ∷ []) n
unfolding after_call durable
counted_sync calls n is = record {
  synced = λ f first. ap (λ (s : FileState). s.synced) (state_after-push f (durable first) calls Sync) ∙ synced_now f (state_after f (durable first) calls)
      ∙ sym (ap (λ (s : FileState). s.held) (ap (state_after f (durable first)) (take_all n (calls ++ Sync ∷ []) short) ∙ state_after-push f (durable first) calls Sync));
  pending = λ f first i. ap (λ (s : FileState). s.pending i) (state_after-push f (durable first) calls Sync) ∙ nothing f (state_after f (durable first) calls) i
      ∙ sym (ap (λ cs. touched_by f cs i) (drop_all n (calls ++ Sync ∷ []) short) ∙ touched_by-nil f i);
}
  where
    short : length (calls ++ Sync ∷ []) ≤ n
    short = omega (arith, length_push calls Sync, is)

    synced_now : (f : FileName) (s : FileState) → (after_call f Sync s).synced ≡ (after_call f Sync s).held
    synced_now f s = refl

    nothing : (f : FileName) (s : FileState) (i : ℕ) → (after_call f Sync s).pending i ≡ false
    nothing f s i = refl

-- a call that is no sync
abbrev pub IsChange : DiskCall → Type 0
IsChange call = call ≡ Sync → ⊥

synced_change : (f : FileName) (call : DiskCall) (s : FileState) → IsChange call → (after_call f call s).synced ≡ s.synced
unfolding after_call changed
synced_change f (Write name at bytes) s change = by_name (same_name name f)
  where
    by_name : (b : Bool) → (cond b (changed (overwritten at bytes s.held) (in_range at (length bytes)) s) s).synced ≡ s.synced
    by_name true = refl
    by_name false = refl
synced_change f (Cut name size) s change = by_name (same_name name f)
  where
    by_name : (b : Bool) → (cond b (changed (take size s.held) (λ i. leb size i) s) s).synced ≡ s.synced
    by_name true = refl
    by_name false = refl
synced_change f Sync s change = absurd (change refl)

pending_change : (f : FileName) (call : DiskCall) (s : FileState) (i : ℕ) → IsChange call → (after_call f call s).pending i ≡ (touches f call i || s.pending i)
unfolding after_call changed touches
pending_change f (Write name at bytes) s i change = by_name (same_name name f)
  where
    by_name : (b : Bool) → (cond b (changed (overwritten at bytes s.held) (in_range at (length bytes)) s) s).pending i ≡ ((b && in_range at (length bytes) i) || s.pending i)
    by_name true = refl
    by_name false = refl
pending_change f (Cut name size) s i change = by_name (same_name name f)
  where
    by_name : (b : Bool) → (cond b (changed (take size s.held) (λ i. leb size i) s) s).pending i ≡ ((b && leb size i) || s.pending i)
    by_name true = refl
    by_name false = refl
pending_change f Sync s i change = absurd (change refl)

pub counted_change : (calls : List DiskCall) (call : DiskCall) (n : ℕ) → IsChange call → n ≤ length calls → IsSyncedCount calls n → IsSyncedCount (calls ++ call ∷ []) n
counted_change calls call n change le so_far = record {
  synced = λ f first. ap (λ (s : FileState). s.synced) (state_after-push f (durable first) calls call) ∙ synced_change f call (state_after f (durable first) calls) change
      ∙ so_far.synced f first ∙ ap (λ cs. (state_after f (durable first) cs).held) (sym (take-append-le n calls (call ∷ []) le));
  pending = λ f first i. ap (λ (s : FileState). s.pending i) (state_after-push f (durable first) calls call) ∙ pending_change f call (state_after f (durable first) calls) i change
      ∙ ap (λ b. touches f call i || b) (so_far.pending f first i)
      ∙ sym (ap (λ cs. touched_by f cs i) (drop-append-le n calls (call ∷ []) le) ∙ touched_by-push f (drop n calls) call i);
}

-- ---- a walk to the last sync

step_on : (calls : List DiskCall) (i : ℕ) (call : DiskCall) → i < length calls → call ≡ get_or calls i call → take (i + 1) calls ≡ take i calls ++ call ∷ []
step_on calls i call lt is = take_more calls i call lt ∙ ap (λ c. take i calls ++ c ∷ []) (sym is)

pub count_sync : (calls : List DiskCall) (i n : ℕ) (call : DiskCall) → i < length calls → call ≡ get_or calls i call → call ≡ Sync → n ≡ i + 1 → IsSyncedCount (take (i + 1) calls) n
count_sync calls i n call lt is sync next =
    subst (λ cs. IsSyncedCount cs n) (sym (step_on calls i call lt is ∙ ap (λ c. take i calls ++ c ∷ []) sync))
    (counted_sync (take i calls) n (omega (arith, next, length-take-le i calls (omega (arith, lt)))))

pub count_change : (calls : List DiskCall) (i n count : ℕ) (call : DiskCall) → i < length calls → call ≡ get_or calls i call → IsChange call → n ≡ count → count ≤ i → IsSyncedCount (take i calls) count → IsSyncedCount (take (i + 1) calls) n
count_change calls i n count call lt is change same le so_far =
    subst (λ cs. IsSyncedCount cs n) (sym (step_on calls i call lt is))
    (counted_change (take i calls) call n change (omega (arith, same, le, length-take-le i calls (omega (arith, lt)))) (subst (λ k. IsSyncedCount (take i calls) k) (sym same) so_far))

-- ---- marks

pub touches_write : (f name : FileName) (at : ℕ) (bytes : List ℕ) (call : DiskCall) (i : ℕ) → call ≡ Write name at bytes → same_name name f ≡ true → touches f call i ≡ in_range at (length bytes) i
unfolding touches
touches_write f name at bytes call i is here = ap (λ c. touches f c i) is ∙ ap (λ b. b && in_range at (length bytes) i) here

pub touches_cut : (f name : FileName) (size : ℕ) (call : DiskCall) (i : ℕ) → call ≡ Cut name size → same_name name f ≡ true → touches f call i ≡ leb size i
unfolding touches
touches_cut f name size call i is here = ap (λ c. touches f c i) is ∙ ap (λ b. b && leb size i) here

pub touches_write_other : (f name : FileName) (at : ℕ) (bytes : List ℕ) (call : DiskCall) (i : ℕ) → call ≡ Write name at bytes → same_name name f ≡ false → touches f call i ≡ false
unfolding touches
touches_write_other f name at bytes call i is other = ap (λ c. touches f c i) is ∙ ap (λ b. b && in_range at (length bytes) i) other

pub touches_cut_other : (f name : FileName) (size : ℕ) (call : DiskCall) (i : ℕ) → call ≡ Cut name size → same_name name f ≡ false → touches f call i ≡ false
unfolding touches
touches_cut_other f name size call i is other = ap (λ c. touches f c i) is ∙ ap (λ b. b && leb size i) other

pub touches_sync : (f : FileName) (call : DiskCall) (i : ℕ) → call ≡ Sync → touches f call i ≡ false
unfolding touches
touches_sync f call i is = ap (λ c. touches f c i) is

pub range_below_end : (at n i m : ℕ) → i < m → m < 2 ^ 64 → (leb at i && ltb i (min (at + n) (2 ^ 64 - 1))) ≡ in_range at n i
range_below_end at n i m lt short = ap (λ b. leb at i && b) (⊎_elim
    (λ (below : i < at + n). lt-ltb i (min (at + n) (2 ^ 64 - 1)) (omega arith) ∙ sym (lt-ltb i (at + n) below))
    (λ (past : at + n ≤ i). le-ltb i (min (at + n) (2 ^ 64 - 1)) (omega arith) ∙ sym (le-ltb i (at + n) past))
    (cases_lt i (at + n)))

pub past_cut : (size i m : ℕ) → i < m → m < 2 ^ 64 → (leb size i && ltb i (2 ^ 64 - 1)) ≡ leb size i
past_cut size i m lt short = ap (λ b. leb size i && b) (lt-ltb i (2 ^ 64 - 1) (omega arith)) ∙ both (leb size i)
  where
    both : (b : Bool) → (b && true) ≡ b
    both true = refl
    both false = refl

pub touched_step : (f : FileName) (calls : List DiskCall) (k : ℕ) (call : DiskCall) (i : ℕ) → k < length calls → call ≡ get_or calls k call → touched_by f (take (k + 1) calls) i ≡ (touches f call i || touched_by f (take k calls) i)
touched_step f calls k call i lt is = ap (λ cs. touched_by f cs i) (step_on calls k call lt is) ∙ touched_by-push f (take k calls) call i

pub touched_none : (f : FileName) (i : ℕ) → touched_by f [] i ≡ false
touched_none f i = touched_by-nil f i

-- ---- draws

module _ (t : ℕ → Bool) where
  pub tear_step : (bytes : List ℕ) (i x : ℕ) → i < length bytes → let b = cond (t i) (next_draw x / 2 ^ 56) (get_or bytes i 0) in
      (take (i + 1) (set bytes i b) ++ drawn t (i + 1) (next_seed (t i) x) (drop (i + 1) (set bytes i b)) ≡ take i bytes ++ drawn t i x (drop i bytes))
      × (seed_after t (i + 1) (next_seed (t i) x) (drop (i + 1) (set bytes i b)) ≡ seed_after t i x (drop i bytes))
  tear_step bytes i x lt =
      let b : ℕ = cond (t i) (next_draw x / 2 ^ 56) (get_or bytes i 0) in
      let front : take (i + 1) (set bytes i b) ≡ take i bytes ++ b ∷ [] = take_more_set bytes i b lt in
      let back : drop (i + 1) (set bytes i b) ≡ drop (i + 1) bytes = drop-set-lt (i + 1) bytes i b (omega arith) in
      let rest : drop i bytes ≡ get_or bytes i 0 ∷ drop (i + 1) bytes = drop_more bytes i 0 lt in (
        ap (λ xs. xs ++ drawn t (i + 1) (next_seed (t i) x) (drop (i + 1) (set bytes i b))) front
            ∙ ap (λ ys. take i bytes ++ b ∷ [] ++ drawn t (i + 1) (next_seed (t i) x) ys) back
            ∙ append_assoc (take i bytes) (b ∷ []) (drawn t (i + 1) (next_seed (t i) x) (drop (i + 1) bytes))
            ∙ ap (λ ys. take i bytes ++ drawn t i x ys) (sym rest),
        ap (seed_after t (i + 1) (next_seed (t i) x)) back ∙ ap (seed_after t i x) (sym rest),
      )

-- a remainder under a sum
mod_add : (y k m : ℕ) → (y % m + k) % m ≡ (y + k) % m
mod_add y k m =
    let whole = mod-add-div y m in
    sym (add-mul-mod_self_left (y % m + k) m (y / m)) ∙ ap (λ z. z % m) (omega (arith, whole))

module _ (t : ℕ → Bool) (bytes : List ℕ) (i x : ℕ) (lt : i < length bytes) where
  -- the bytes and the seed after the place i draw what those before it did
  abbrev pub GoesOnDrawing : List ℕ → ℕ → Type 0
  GoesOnDrawing new next =
      (take (i + 1) new ++ drawn t (i + 1) next (drop (i + 1) new) ≡ take i bytes ++ drawn t i x (drop i bytes))
      × (seed_after t (i + 1) next (drop (i + 1) new) ≡ seed_after t i x (drop i bytes))

  draws_on : (b next : ℕ) → cond (t i) (next_draw x / 2 ^ 56) (get_or bytes i 0) ≡ b → next_seed (t i) x ≡ next → GoesOnDrawing (set bytes i b) next
  draws_on b next is is' = subst (λ b. GoesOnDrawing (set bytes i b) next) is (subst (λ n. GoesOnDrawing (set bytes i (cond (t i) (next_draw x / 2 ^ 56) (get_or bytes i 0))) n) is' (tear_step t bytes i x lt))

  pub tear_drawn : (new : List ℕ) (next : ℕ) → t i ≡ true → next ≡ ((x * 6364136223846793005) % 2 ^ 64 + 1442695040888963407) % 2 ^ 64 → new ≡ set bytes i (((x * 6364136223846793005) % 2 ^ 64 + 1442695040888963407) % 2 ^ 64 / 2 ^ 56)
      → GoesOnDrawing new next
  tear_drawn new next picked is is' =
      let draw : ((x * 6364136223846793005) % 2 ^ 64 + 1442695040888963407) % 2 ^ 64 ≡ next_draw x = mod_add (x * 6364136223846793005) 1442695040888963407 (2 ^ 64) in
      subst (λ bs. GoesOnDrawing bs next) (sym (is' ∙ ap (λ y. set bytes i (y / 2 ^ 56)) draw))
      (draws_on (next_draw x / 2 ^ 56) next (cond-true (t i) _ _ picked) (cond-true (t i) _ _ picked ∙ sym (is ∙ draw)))

  pub tear_kept : (new : List ℕ) (next : ℕ) → t i ≡ false → next ≡ x → new ≡ bytes → GoesOnDrawing new next
  tear_kept new next picked is is' =
      subst (λ bs. GoesOnDrawing bs next) (set-get_or bytes i 0 ∙ sym is')
      (draws_on (get_or bytes i 0) next (cond-false (t i) _ _ picked) (cond-false (t i) _ _ picked ∙ sym is))
