-- What crates above cite: what the changes of a queue's files do to what is known of each file.
use Rattle.std.proofs.Common.{◌≡◌, ℕ, ◌+◌, ◌==◌, Bool, true, false, cond, nat_lt, List, [], ◌∷◌, Option, Some, None, inl, inr, refl, sym, ap, ◌∙◌, arith}
use Rattle.std.specs.Prelude.{All, MatchOption, sum_by}
use Rattle.std.specs.List.Sorted.{IsPermutation}
use Rattle.std.specs.Option.{option_map}
use Rattle.std.proofs.lemmas.Bool.{true≢false, cases_lt, cases_eq, eqb-true, eq-eqb, ne_eqb, lt-ltb, le-ltb}
use Rattle.std.proofs.lemmas.List.Elements.{All-nil, All-cons, All-head, All-tail, All-contains}
use Rattle.std.proofs.lemmas.List.Sorted.{All-permutation, Contains-permutation, length_permutation, sum_by-IsPermutation}
use Rattle.flowfile_record.specs.NumberedItems.{item_of, with_item, without_item}
use Rattle.flowfile_record.specs.declared.flow_file.FlowFile.{FlowFile}
use Rattle.prioritizer.specs.declared.prioritizer.Prioritizer.{Prioritizer}
use Rattle.machine_model.specs.declared.flow.QueueLimits.{QueueLimits}
use Rattle.machine_model.specs.View.{FileView, BatchView, file_count, byte_count}
use Rattle.machine_model.specs.Laws.{ArrivalsDiffer, IsBest}
use Rattle.machine_model.specs.Order.{goes_before, is_eligible, best}
use Rattle.machine_model.proofs.Ordered.{best-first}
use Rattle.machine_model.proofs.OnlyOrder.{best-only}
use Rattle.flow_queue.specs.declared.held.Held.{Held}
use Rattle.flow_queue.specs.Queue.{held_number, queue_with_file, without_file, with_flight, flight_of}

-- ---- of each file

All-with_item : (P : Held → Type 0) (new : Held) (files : List Held) → P new → All P files → All P (with_item held_number new files)
All-with_item P new [] here all = All-cons P new [] here (All-nil P)
All-with_item P new (held ∷ files) here all =
    elim (nat_lt (held_number held) (held_number new)) as (λ b. All P (cond b (held ∷ with_item held_number new files) (new ∷ held ∷ files))) [
      | true ↦ All-cons P held (with_item held_number new files) (All-head P held files all) (All-with_item P new files here (All-tail P held files all))
      | false ↦ All-cons P new (held ∷ files) here all
    ]

-- what holds of each file and of one that is put holds of each file then
pub All-with_file : (P : Held → Type 0) (file : FlowFile) (files : List Held) → P (record { file = file; in_flight = false }) → All P files → All P (queue_with_file file files)
All-with_file P file files here all = All-with_item P (record { file = file; in_flight = false }) files here all

-- ---- by its number

swapped : {X : Type 0} (a b : Bool) (x y z : X) → (a ≡ true → b ≡ true → ⊥) → cond a x (cond b y z) ≡ cond b y (cond a x z)
swapped true true x y z apart = absurd (apart refl refl)
swapped true false x y z apart = refl
swapped false b x y z apart = refl

pub item_of-with : (n : ℕ) (new : Held) (files : List Held) → item_of held_number n (with_item held_number new files) ≡ cond (held_number new == n) (Some new) (item_of held_number n files)
item_of-with n new [] = refl
item_of-with n new (held ∷ files) =
    elim (cases_lt (held_number held) (held_number new)) [
      | inl lt ↦
          let yes : nat_lt (held_number held) (held_number new) ≡ true = lt-ltb (held_number held) (held_number new) lt in
          rw yes (ap (cond (held_number held == n) (Some held)) (item_of-with n new files)
          ∙ swapped (held_number held == n) (held_number new == n) (Some held) (Some new) (item_of held_number n files)
          (λ a b. let is = eqb-true (held_number held) n a in let also = eqb-true (held_number new) n b in omega arith))
      | inr ge ↦ let no : nat_lt (held_number held) (held_number new) ≡ false = le-ltb (held_number held) (held_number new) ge in rw no refl
    ]

pub item_of-without : (n m : ℕ) (files : List Held) → item_of held_number n (without_item held_number m files) ≡ cond (m == n) None (item_of held_number n files)
item_of-without n m [] = let none : Option Held = None in elim (m == n) as (λ b. none ≡ cond b none none) [ true ↦ refl | false ↦ refl ]
item_of-without n m (held ∷ files) =
    elim (cases_eq (held_number held) m) [
      | inl is ↦
          let yes : (held_number held == m) ≡ true = eq-eqb (held_number held) m is in
          rw yes (item_of-without n m files ∙ elim (cases_eq m n) [
            | inl same ↦ let one : (m == n) ≡ true = eq-eqb m n same in rw one refl
            | inr differ ↦
                let two : (m == n) ≡ false = ne_eqb m n differ in
                let away : (held_number held == n) ≡ false = ne_eqb (held_number held) n (λ e. differ (sym is ∙ e)) in
                rw (two, away) refl
          ])
      | inr ne ↦
          let no : (held_number held == m) ≡ false = ne_eqb (held_number held) m ne in
          rw no (ap (cond (held_number held == n) (Some held)) (item_of-without n m files)
          ∙ swapped (held_number held == n) (m == n) (Some held) None (item_of held_number n files) (λ a b. ne (eqb-true (held_number held) n a ∙ sym (eqb-true m n b))))
    ]

pub none-left : (n : ℕ) (files : List Held) → item_of held_number n (without_item held_number n files) ≡ None
none-left n files = item_of-without n n files ∙ ap (λ b. cond b None (item_of held_number n files)) (eq-eqb n n refl)

pub its-number : (n : ℕ) (held : Held) (files : List Held) → item_of held_number n files ≡ Some held → held_number held ≡ n
its-number n held [] is = cc
its-number n held (first ∷ files) is =
    elim (cases_eq (held_number first) n) [
      | inl same ↦
          let here : (held_number first == n) ≡ true = eq-eqb (held_number first) n same in
          let found : Some first ≡ Some held = rw here at is in
          let it : first ≡ held = cc in
          ap held_number (sym it) ∙ same
      | inr other ↦
          let away : (held_number first == n) ≡ false = ne_eqb (held_number first) n other in
          let later : item_of held_number n files ≡ Some held = rw away at is in
          its-number n held files later
    ]

-- whether a session works on a file, behind each change

after : {X Y : Type 0} (f : X → Y) (b : Bool) (x : X) (o : Option X) → option_map f (cond b (Some x) o) ≡ cond b (Some (f x)) (option_map f o)
after f true x o = refl
after f false x o = refl

after_none : {X Y : Type 0} (f : X → Y) (b : Bool) (o : Option X) → option_map f (cond b None o) ≡ cond b None (option_map f o)
after_none f true o = refl
after_none f false o = refl

pub flight_of-with_file : (n : ℕ) (file : FlowFile) (files : List Held) → flight_of n (queue_with_file file files) ≡ cond (file.number == n) (Some false) (flight_of n files)
flight_of-with_file n file files =
    let new : Held = record { file = file; in_flight = false } in
    ap (option_map (λ (held : Held). held.in_flight)) (item_of-with n new files) ∙ after (λ (held : Held). held.in_flight) (file.number == n) new (item_of held_number n files)

pub flight_of-without_file : (n m : ℕ) (files : List Held) → flight_of n (without_file m files) ≡ cond (m == n) None (flight_of n files)
flight_of-without_file n m files =
    ap (option_map (λ (held : Held). held.in_flight)) (item_of-without n m files) ∙ after_none (λ (held : Held). held.in_flight) (m == n) (item_of held_number n files)

-- in the place of an answer, where there is one
abbrev pub in_place : Bool → Option Bool → Option Bool
in_place in_flight known = option_map (λ _. in_flight) known

pub flight_of-with_flight : (n m : ℕ) (in_flight : Bool) (files : List Held) → flight_of n (with_flight m in_flight files) ≡ cond (m == n) (in_place in_flight (flight_of n files)) (flight_of n files)
flight_of-with_flight n m in_flight [] = let none : Option Bool = None in elim (m == n) as (λ b. none ≡ cond b none none) [ true ↦ refl | false ↦ refl ]
flight_of-with_flight n m in_flight (held ∷ files) =
    elim (cases_eq (held_number held) n) [
      | inl is ↦
          let here : (held_number held == n) ≡ true = eq-eqb (held_number held) n is in
          elim (cases_eq m n) [
            | inl same ↦
                let one : (m == n) ≡ true = eq-eqb m n same in
                let marked : (held_number held == m) ≡ true = eq-eqb (held_number held) m (is ∙ sym same) in
                rw (marked, here, one) refl
            | inr differ ↦
                let two : (m == n) ≡ false = ne_eqb m n differ in
                let left : (held_number held == m) ≡ false = ne_eqb (held_number held) m (λ e. differ (sym e ∙ is)) in
                rw (left, here, two) refl
          ]
      | inr ne ↦
          let away : (held_number held == n) ≡ false = ne_eqb (held_number held) n ne in
          elim (cases_eq (held_number held) m) [
            | inl e ↦ let marked : (held_number held == m) ≡ true = eq-eqb (held_number held) m e in rw (marked, away) (flight_of-with_flight n m in_flight files)
            | inr f ↦ let left : (held_number held == m) ≡ false = ne_eqb (held_number held) m f in rw (left, away) (flight_of-with_flight n m in_flight files)
          ]
    ]

-- ---- the same files in another order, as the machine has them by arrival

moved : (order : List Prioritizer) (limits : QueueLimits) (moment : ℕ) (files others : List FileView) (view : FileView) → IsPermutation files others → IsBest order limits moment files view → IsBest order limits moment others view
moved order limits moment files others view same is = record {
  stands_there = Contains-permutation files others view same is.stands_there;
  eligible = is.eligible;
  first = All-permutation (λ other. is_eligible limits moment other ≡ true → goes_before order other view ≡ false) files others same is.first;
}

none_is_best : (order : List Prioritizer) (limits : QueueLimits) (moment : ℕ) (files : List FileView) (found : Option FileView) → All (λ file. is_eligible limits moment file ≡ false) files
    → MatchOption found (All (λ file. is_eligible limits moment file ≡ false) files) (IsBest order limits moment files) → found ≡ None
none_is_best order limits moment files None none is = refl
none_is_best order limits moment files (Some view) none is =
    absurd (true≢false (sym is.eligible ∙ All-contains (λ file. is_eligible limits moment file ≡ false) files view none is.stands_there))

pub best-permuted : (order : List Prioritizer) (limits : QueueLimits) (moment : ℕ) (files others : List FileView) → ArrivalsDiffer others → IsPermutation files others → best order limits moment others ≡ best order limits moment files
best-permuted order limits moment files others differ same = by_found (best order limits moment files) (best-first order limits moment files)
  where
    by_found : (found : Option FileView) → MatchOption found (All (λ file. is_eligible limits moment file ≡ false) files) (IsBest order limits moment files) → best order limits moment others ≡ found
    by_found None none =
        none_is_best order limits moment others (best order limits moment others) (All-permutation (λ file. is_eligible limits moment file ≡ false) files others same none) (best-first order limits moment others)
    by_found (Some view) is = best-only order limits moment others view differ (moved order limits moment files others view same is)

pub file_count-permuted : (files others : List FileView) (batches : List BatchView) → IsPermutation files others → file_count (record { active = others; batches = batches }) ≡ file_count (record { active = files; batches = batches })
file_count-permuted files others batches same = ap (λ n. n + sum_by (λ (batch : BatchView). batch.files) batches) (length_permutation files others same)

pub byte_count-permuted : (files others : List FileView) (batches : List BatchView) → IsPermutation files others → byte_count (record { active = others; batches = batches }) ≡ byte_count (record { active = files; batches = batches })
byte_count-permuted files others batches same = ap (λ n. n + sum_by (λ (batch : BatchView). batch.size) batches) (sum_by-IsPermutation (λ (file : FileView). file.size) files others same)
