-- Counting by a key: what joins a list is counted, the parts of a list by place are all of it, and what is counted once at
-- most is new.
use Rattle.std.proofs.Common.{◌≡◌, inl, inr, ℕ, ◌+◌, ◌<◌, ◌≤◌, ◌==◌, ◌||◌, not, Bool, true, false, cond, List, [], ◌∷◌, length, refl, ap, ◌∙◌, arith}
use Rattle.std.specs.Prelude.{All, filter, fold, nat_lt}
use Rattle.std.specs.List.{enumerate_from, list_any, list_all}
use Rattle.std.proofs.lemmas.Bool.{cases_Bool, cases_eq, ne_eqb, eq-eqb, and_from, not_from_false}
use Rattle.std.proofs.lemmas.List.Elements.{All-head, All-tail}
use Rattle.flowfile_record.specs.NumberedItems.{with_item}
use Rattle.flowfile_record.specs.declared.flow_file.FlowFile.{FlowFile}
use Rattle.kept_state.specs.Fits.{are_distinct_numbers, are_new}
use Rattle.machine_model.specs.Changing.{with_arrival}
use Rattle.machine_model.specs.State.{QueuedFile}
use Rattle.machine_model.proofs.Tally.{tally, bit, many, tally-none, tally-plus, tally-same}

-- ---- what joins

tally-with : {X : Type 0} (w number : X → ℕ) (new : X) (items : List X) → tally w (with_item number new items) ≡ w new + tally w items
tally-with w number new [] = refl
tally-with w number new (x ∷ items) =
    elim (cases_Bool (nat_lt (number x) (number new))) [
      | inl t ↦ rw t (omega (arith, tally-with w number new items))
      | inr f ↦ rw f refl
    ]

pub tally-fold : (w : QueuedFile → ℕ) (files queue : List QueuedFile) → tally w (fold with_arrival queue files) ≡ tally w queue + tally w files
tally-fold w [] queue = omega arith
tally-fold w (file ∷ files) queue =
    omega (arith, tally-fold w files (with_arrival queue file), tally-with w (λ (f : QueuedFile). f.arrival) file queue)

-- ---- parts by place

part-cons : {X : Type 0} (w : X → ℕ) (p : X → Bool) (x : X) (xs : List X) → tally w (filter p (x ∷ xs)) ≡ cond (p x) (w x) 0 + tally w (filter p xs)
part-cons w p x xs =
    elim (p x) as (λ b. tally w (cond b (x ∷ filter p xs) (filter p xs)) ≡ cond b (w x) 0 + tally w (filter p xs)) [ true ↦ refl | false ↦ omega arith ]

past_place : {Y : Type 0} (c v k : ℕ) (ys : List Y) → c < k → tally (λ (q : ℕ × Y). cond (c == q.0) v 0) (enumerate_from k ys) ≡ 0
past_place c v k [] lt = refl
past_place c v k (y ∷ ys) lt =
    let other : (c == k) ≡ false = ne_eqb c k (λ e. omega arith) in
    rw other (omega (arith, past_place c v (k + 1) ys (omega arith)))

-- what weighs at its place only weighs as much
in_place : {Y : Type 0} (c v k : ℕ) (ys : List Y) → k ≤ c → c < k + length ys → tally (λ (q : ℕ × Y). cond (c == q.0) v 0) (enumerate_from k ys) ≡ v
in_place c v k [] le lt = absurd (omega arith)
in_place c v k (y ∷ ys) le lt =
    elim (cases_eq c k) [
      | inl e ↦ let yes : (c == k) ≡ true = eq-eqb c k e in rw yes (omega (arith, past_place c v (k + 1) ys (omega arith)))
      | inr ne ↦ let other : (c == k) ≡ false = ne_eqb c k ne in rw other (omega (arith, in_place c v (k + 1) ys (omega arith) (omega arith)))
    ]

pub by_place : {X Y : Type 0} (w place : X → ℕ) (ys : List Y) (xs : List X) → All (λ x. place x < length ys) xs
    → tally (λ (q : ℕ × Y). tally w (filter (λ x. place x == q.0) xs)) (enumerate_from 0 ys) ≡ tally w xs
by_place {X} {Y} w place ys [] within = tally-none (enumerate_from 0 ys)
by_place {X} {Y} w place ys (x ∷ xs) within =
    let here : place x < length ys = All-head (λ y. place y < length ys) x xs within in
    let one : ℕ × Y → ℕ = λ q. cond (place x == q.0) (w x) 0 in
    let rest : ℕ × Y → ℕ = λ q. tally w (filter (λ y. place y == q.0) xs) in
    tally-same (λ (q : ℕ × Y). tally w (filter (λ y. place y == q.0) (x ∷ xs))) (λ q. one q + rest q) (λ q. part-cons w (λ y. place y == q.0) x xs) (enumerate_from 0 ys)
    ∙ tally-plus one rest (enumerate_from 0 ys)
    ∙ ap (λ n. n + tally rest (enumerate_from 0 ys)) (in_place (place x) (w x) 0 ys (omega arith) (omega arith))
    ∙ ap (λ n. w x + n) (by_place w place ys xs (All-tail (λ y. place y < length ys) x xs within))

-- ---- what is new

none_any : {X : Type 0} (key : X → ℕ) (n : ℕ) (xs : List X) → many key n xs ≡ 0 → list_any (λ x. key x == n) xs ≡ false
none_any key n [] h = refl
none_any key n (x ∷ xs) h =
    elim (key x == n) as (λ b. bit b + many key n xs ≡ 0 → (b || list_any (λ y. key y == n) xs) ≡ false) [
      | true ↦ λ h. absurd (omega arith)
      | false ↦ λ h. none_any key n xs (omega arith)
    ] h

pub distinct : (numbers : List ℕ) → ((n : ℕ) → many (λ (m : ℕ). m) n numbers ≤ 1) → are_distinct_numbers numbers ≡ true
distinct [] once = refl
distinct (m ∷ numbers) once =
    let yes : (m == m) ≡ true = eq-eqb m m refl in
    let others : many (λ (k : ℕ). k) m numbers ≡ 0 = omega (arith, rw yes at (once m)) in
    and_from (not (list_any (λ k. k == m) numbers)) (are_distinct_numbers numbers)
    (not_from_false (list_any (λ k. k == m) numbers) (none_any (λ (k : ℕ). k) m numbers others)) (distinct numbers (λ n. omega (arith, once n)))

unused : (part : FlowFile → ℕ) (lives : List FlowFile) (numbers : List ℕ) → ((n : ℕ) → 1 ≤ many (λ (m : ℕ). m) n numbers → many part n lives ≡ 0)
    → list_all (λ n. not (list_any (λ f. part f == n) lives)) numbers ≡ true
unused part lives [] none = refl
unused part lives (m ∷ numbers) none =
    let yes : (m == m) ≡ true = eq-eqb m m refl in
    let here : 1 ≤ many (λ (k : ℕ). k) m (m ∷ numbers) = rw yes (omega arith) in
    and_from (not (list_any (λ f. part f == m) lives)) (list_all (λ n. not (list_any (λ f. part f == n) lives)) numbers)
    (not_from_false (list_any (λ f. part f == m) lives) (none_any part m lives (none m here)))
    (unused part lives numbers (λ n le. none n (omega arith)))

pub new_numbers : (part : FlowFile → ℕ) (numbers : List ℕ) (lives : List FlowFile) → ((n : ℕ) → many part n lives + many (λ (m : ℕ). m) n numbers ≤ 1)
    → are_new part numbers lives ≡ true
new_numbers part numbers lives once =
    and_from (are_distinct_numbers numbers) (list_all (λ n. not (list_any (λ f. part f == n) lives)) numbers)
    (distinct numbers (λ n. omega (arith, once n))) (unused part lives numbers (λ n le. omega (arith, once n)))
