-- Of files with numbers that differ, each is found by its number, and in one queue.
use Rattle.std.proofs.Common.{◌≡◌, inl, inr, ℕ, zero, suc, ◌+◌, ◌≤◌, Bool, true, false, cond, not, List, [], ◌∷◌, map, drop, refl, sym, ap, subst, ◌∙◌, arith}
use Rattle.std.specs.Prelude.{◌==◌, Some, is_some, find, nat_le}
use Rattle.std.specs.List.{flat_map, list_all, cons_option, enumerate_from}
use Rattle.std.proofs.lemmas.Bool.{cases_eq, ne_eqb, eq-eqb, and_parts, and_from, true≢false}
use Rattle.prioritizer.specs.declared.prioritizer.Prioritizer.{Prioritizer}
use Rattle.machine_model.specs.declared.flow.Flow.{Flow}
use Rattle.machine_model.specs.Events.{put_ascending, ascending}
use Rattle.machine_model.specs.Files.{is_active, active_files, file_numbered, queue_at, are_active, are_distinct, is_number_among, view_of}
use Rattle.machine_model.specs.Laws.{OneConnectionHas}
use Rattle.machine_model.specs.Order.{goes_before, put_in_order, in_order}
use Rattle.machine_model.specs.State.{QueuedFile, State}
use Rattle.machine_model.specs.Stepping.{files_of, has_all}
use Rattle.machine_model.specs.Valid.{IsValid}
use Rattle.machine_model.specs.View.{FileView}
use Rattle.machine_model.proofs.Among.{Among, among_contained}
use Rattle.machine_model.proofs.BatchPlaces.{at}
use Rattle.machine_model.proofs.Keyed.{once_from_differ}
use Rattle.machine_model.proofs.Places.{place_of}
use Rattle.machine_model.proofs.Tally.{tally, bit, many, tally-append, tally-filter}

abbrev pub number_of : QueuedFile → ℕ
number_of file = file.number

abbrev pub HaveOwnNumbers : List QueuedFile → Type 0
HaveOwnNumbers queue = (n : ℕ) → many number_of n queue ≤ 1

-- ---- one queue

pub among-many : (queue : List QueuedFile) (file : QueuedFile) → Among file queue → 1 ≤ many number_of file.number queue
among-many [] file h = absurd h
among-many (other ∷ queue) file (inl is) =
    let yes : (other.number == file.number) ≡ true = eq-eqb other.number file.number (ap number_of is) in rw yes (omega arith)
among-many (other ∷ queue) file (inr h) = omega (arith, among-many queue file h)

pub found-itself : (queue : List QueuedFile) → HaveOwnNumbers queue → (file : QueuedFile) → Among file queue → file_numbered queue file.number ≡ Some file
found-itself [] own file h = absurd h
found-itself (other ∷ queue) own file (inl is) =
    let yes : (other.number == file.number) ≡ true = eq-eqb other.number file.number (ap number_of is) in
    rw yes (ap (λ f. Some f) is)
found-itself (other ∷ queue) own file (inr h) =
    elim (cases_eq other.number file.number) [
      | inl e ↦ let yes : (other.number == file.number) ≡ true = eq-eqb other.number file.number e in
          absurd (omega (arith, rw yes at (own file.number), among-many queue file h))
      | inr ne ↦ let no : (other.number == file.number) ≡ false = ne_eqb other.number file.number ne in
          rw no (found-itself queue (λ n. omega (arith, own n)) file h)
    ]

pub find-some : {X : Type 0} (p : X → Bool) (xs : List X) (x : X) → Among x xs → p x ≡ true → is_some (find p xs) ≡ true
find-some p [] x h passes = absurd h
find-some p (y ∷ xs) x (inl is) passes = let here : p y ≡ true = ap p is ∙ passes in rw here refl
find-some p (y ∷ xs) x (inr h) passes =
    elim (p y) as (λ b. is_some (cond b (Some y) (find p xs)) ≡ true) [ true ↦ refl | false ↦ find-some p xs x h passes ]

-- a file of a queue that has this number and is active
pub record HasActive (queue : List QueuedFile) (p : FileView → Bool) (number : ℕ) : Type 0 where
  pub file : QueuedFile
  pub there : Among file queue
  pub active : Among file (active_files queue)
  pub is : file.number ≡ number
  pub passes : p (view_of file) ≡ true

pub all-active : (p : FileView → Bool) (queue : List QueuedFile) (numbers : List ℕ) → ((n : ℕ) → Among n numbers → HasActive queue p n) → are_active queue numbers ≡ true
all-active p queue [] each = refl
all-active p queue (number ∷ numbers) each =
    let has = each number (inl refl) in
    and_from _ _ (find-some (λ file. file.number == number) (active_files queue) has.file has.active (eq-eqb has.file.number number has.is))
    (all-active p queue numbers (λ n h. each n (inr h)))

pub all-pass : (p : FileView → Bool) (queue : List QueuedFile) (numbers : List ℕ) → HaveOwnNumbers queue → ((n : ℕ) → Among n numbers → HasActive queue p n)
    → list_all p (map view_of (files_of queue numbers)) ≡ true
all-pass p queue [] own each = refl
all-pass p queue (number ∷ numbers) own each =
    let has = each number (inl refl) in
    let found : file_numbered queue number ≡ Some has.file = ap (file_numbered queue) (sym has.is) ∙ found-itself queue own has.file has.there in
    subst (λ o. list_all p (map view_of (cons_option o (files_of queue numbers))) ≡ true) (sym found)
    (and_from _ _ has.passes (all-pass p queue numbers own (λ n h. each n (inr h))))

-- ---- numbers that differ

none_among : (m : ℕ) (numbers : List ℕ) → many (λ (n : ℕ). n) m numbers ≡ 0 → is_number_among numbers m ≡ false
none_among m [] h = refl
none_among m (n ∷ numbers) h =
    elim (n == m) as (λ b. bit b + many (λ (k : ℕ). k) m numbers ≡ 0 → is_some (cond b (Some n) (find (λ k. k == m) numbers)) ≡ false) [
      | true ↦ λ h. absurd (omega arith)
      | false ↦ λ h. none_among m numbers (omega arith)
    ] h

pub once-distinct : (numbers : List ℕ) → ((n : ℕ) → many (λ (m : ℕ). m) n numbers ≤ 1) → are_distinct numbers ≡ true
once-distinct [] h = refl
once-distinct (number ∷ numbers) h =
    let yes : (number == number) ≡ true = eq-eqb number number refl in
    let others : many (λ (m : ℕ). m) number numbers ≡ 0 = omega (arith, rw yes at (h number)) in
    let no : is_number_among numbers number ≡ false = none_among number numbers others in
    and_from _ _ (ap not no) (once-distinct numbers (λ n. omega (arith, h n)))

put-weighs : (w : ℕ → ℕ) (n : ℕ) (xs : List ℕ) → tally w (put_ascending n xs) ≡ w n + tally w xs
put-weighs w n [] = refl
put-weighs w n (m ∷ xs) =
    let rest = put-weighs w n xs in
    elim (nat_le n m) as (λ b. tally w (cond b (n ∷ m ∷ xs) (m ∷ put_ascending n xs)) ≡ w n + (w m + tally w xs)) [ true ↦ refl | false ↦ omega (arith, rest) ]

pub ascending-weighs : (w : ℕ → ℕ) (xs : List ℕ) → tally w (ascending xs) ≡ tally w xs
ascending-weighs w [] = refl
ascending-weighs w (n ∷ xs) = omega (arith, put-weighs w n (ascending xs), ascending-weighs w xs)

placed-weighs : (w : FileView → ℕ) (order : List Prioritizer) (file : FileView) (files : List FileView) → tally w (put_in_order order file files) ≡ w file + tally w files
placed-weighs w order file [] = refl
placed-weighs w order file (other ∷ files) =
    let rest = placed-weighs w order file files in
    elim (goes_before order file other) as (λ b. tally w (cond b (file ∷ other ∷ files) (other ∷ put_in_order order file files)) ≡ w file + (w other + tally w files)) [
      | true ↦ refl
      | false ↦ omega (arith, rest)
    ]

pub order-weighs : (w : FileView → ℕ) (order : List Prioritizer) (files : List FileView) → tally w (in_order order files) ≡ tally w files
order-weighs w order [] = refl
order-weighs w order (file ∷ files) = omega (arith, placed-weighs w order file (in_order order files), order-weighs w order files)

pub drop-weighs : {X : Type 0} (w : X → ℕ) (n : ℕ) (xs : List X) → tally w (drop n xs) ≤ tally w xs
drop-weighs w zero xs = omega arith
drop-weighs w (suc n) [] = omega arith
drop-weighs w (suc n) (x ∷ xs) = omega (arith, drop-weighs w n xs)

-- ---- all queues

pub at-weighs : (w : QueuedFile → ℕ) (queues : List (List QueuedFile)) (place : ℕ) → tally w (at queues place) ≤ tally w (flat_map (λ queue. queue) queues)
at-weighs w [] place = omega arith
at-weighs w (queue ∷ queues) zero = omega (arith, tally-append w queue (flat_map (λ queue. queue) queues))
at-weighs w (queue ∷ queues) (suc place) = omega (arith, tally-append w queue (flat_map (λ queue. queue) queues), at-weighs w queues place)

pub own-numbers : (flow : Flow) (state : State) (place : ℕ) → IsValid flow state → HaveOwnNumbers (queue_at state place)
own-numbers flow state place valid n =
    omega (arith, at-weighs (λ file. bit (file.number == n)) state.queues place, once_from_differ number_of (flat_map (λ queue. queue) state.queues) valid.numbered.numbers.differ n)

one_queue : (n : ℕ) (queues : List (List QueuedFile)) (one other : ℕ) → many number_of n (flat_map (λ queue. queue) queues) ≤ 1
    → 1 ≤ many number_of n (at queues one) → 1 ≤ many number_of n (at queues other) → one ≡ other
one_queue n [] one other once h k = absurd (omega arith)
one_queue n (queue ∷ queues) zero zero once h k = refl
one_queue n (queue ∷ queues) zero (suc other) once h k =
    absurd (omega (arith, tally-append (λ (file : QueuedFile). bit (file.number == n)) queue (flat_map (λ queue. queue) queues), at-weighs (λ file. bit (file.number == n)) queues other))
one_queue n (queue ∷ queues) (suc one) zero once h k =
    absurd (omega (arith, tally-append (λ (file : QueuedFile). bit (file.number == n)) queue (flat_map (λ queue. queue) queues), at-weighs (λ file. bit (file.number == n)) queues one))
one_queue n (queue ∷ queues) (suc one) (suc other) once h k =
    ap suc (one_queue n queues one other (omega (arith, tally-append (λ (file : QueuedFile). bit (file.number == n)) queue (flat_map (λ queue. queue) queues))) h k)

found-weighs : {X : Type 0} (p : X → Bool) (xs : List X) → is_some (find p xs) ≡ true → 1 ≤ tally (λ x. bit (p x)) xs
found-weighs p [] h = absurd (true≢false (sym h))
found-weighs p (x ∷ xs) h =
    elim (p x) as (λ b. is_some (cond b (Some x) (find p xs)) ≡ true → 1 ≤ bit b + tally (λ x. bit (p x)) xs) [
      | true ↦ λ _. omega arith
      | false ↦ λ h. omega (arith, found-weighs p xs h)
    ] h

active-weighs : (queue : List QueuedFile) (number : ℕ) (numbers : List ℕ) → are_active queue (number ∷ numbers) ≡ true → 1 ≤ many number_of number queue
active-weighs queue number numbers h =
    let found = (and_parts (is_some (file_numbered (active_files queue) number)) (are_active queue numbers) h).0 in
    omega (arith, found-weighs (λ file. file.number == number) (active_files queue) found, tally-filter (λ file. bit (file.number == number)) is_active queue)

pub same-place : (flow : Flow) (state : State) (number : ℕ) (numbers : List ℕ) (one other : ℕ) → IsValid flow state → are_active (queue_at state one) (number ∷ numbers) ≡ true
    → are_active (queue_at state other) (number ∷ numbers) ≡ true → one ≡ other
same-place flow state number numbers one other valid h k =
    one_queue number state.queues one other (once_from_differ number_of (flat_map (λ queue. queue) state.queues) valid.numbered.numbers.differ number)
    (active-weighs (queue_at state one) number numbers h) (active-weighs (queue_at state other) number numbers k)

-- the only one of numbered elements that passes is found
find-only : {X : Type 0} (p : ℕ × X → Bool) (k : ℕ) (xs : List X) (x : ℕ × X) → Among x (enumerate_from k xs) → p x ≡ true
    → ((y : ℕ × X) → p y ≡ true → y.0 ≡ x.0) → find p (enumerate_from k xs) ≡ Some x
find-only {X} p k [] x h passes only = absurd h
find-only {X} p k (z ∷ xs) x h passes only =
    elim (p (k, z)) as (λ b. p (k, z) ≡ b → cond b (Some (k, z)) (find p (enumerate_from (k + 1) xs)) ≡ Some x) [
      | true ↦ λ is. first_is x h (only (k, z) is)
      | false ↦ λ is. find-only p (k + 1) xs x (later x h is passes) passes only
    ] refl
  where
    first_is : (x : ℕ × X) → Among x ((k, z) ∷ enumerate_from (k + 1) xs) → k ≡ x.0 → Some (k, z) ≡ Some x
    first_is x (inl is) e = ap (λ y. Some y) is
    first_is x (inr h) e = let at = place_of (k + 1) xs x h in absurd (omega (arith, at.number))

    later : (x : ℕ × X) → Among x ((k, z) ∷ enumerate_from (k + 1) xs) → p (k, z) ≡ false → p x ≡ true → Among x (enumerate_from (k + 1) xs)
    later x (inl is) fails passes = absurd (true≢false (sym passes ∙ ap p (sym is) ∙ fails))
    later x (inr h) fails passes = h

pub one-has : OneConnectionHas
one-has flow state processor number numbers source valid there has =
    find-only (has_all state processor (number ∷ numbers)) 0 flow.connections source (among_contained source (enumerate_from 0 flow.connections) there) has
    (λ other passes. same-place flow state number numbers other.0 source.0 valid
    (and_parts (other.1.target == processor) _ passes).1 (and_parts (source.1.target == processor) _ has).1)
