-- The first processor in turn, from what is known of the processors from one place to another.
use Rattle.std.proofs.Common.{◌≡◌, ◌⊎◌, inl, inr, ℕ, zero, suc, ◌+◌, ◌-◌, ◌<◌, ◌≤◌, ◌&&◌, nat_lt, Bool, true, false, cond, List, [], ◌∷◌, ◌++◌, length, map, take, drop, refl, sym, ap, subst, ◌∙◌, add-one, arith}
use Rattle.std.specs.Prelude.{IfOk, Result, Ok, Err, Option, Some, None, filter, find, is_some, option_map, option_and_then, slice_get}
use Rattle.std.specs.List.{enumerate_from}
use Rattle.std.proofs.lemmas.Bool.{cases_order, ltb-false}
use Rattle.std.proofs.lemmas.List.FromFn.{length-enumerate_from}
use Rattle.std.proofs.lemmas.Option.{slice_get_cases, slice_get_within}
use Rattle.machine_model.specs.declared.flow.Flow.{Flow}
use Rattle.machine_model.specs.declared.flow.Processor.{Processor}
use Rattle.engine_choice.specs.declared.choice.Choice.{Choice}
use Rattle.engine_choice.specs.declared.choice.Taking.{Taking}
use Rattle.engine_choice.specs.Choice.{Known, choice_at, choice_of, from_place, in_turn, is_ready, may_begin, next_choice, place_within, taking_of}
use Rattle.engine_choice.specs.First.{GiveNothing, IsFirstGiven, IsGivenBy}
use Rattle.engine_queues.proofs.First.{none-found, first-found}

-- ---- lists from a place on

drop-enumerated : {X : Type 0} (from n : ℕ) (xs : List X) → drop n (enumerate_from from xs) ≡ enumerate_from (from + n) (drop n xs)
drop-enumerated from zero xs = let same : from ≡ from + zero = omega arith in ap (λ k. enumerate_from k xs) same
drop-enumerated from (suc n) [] = refl
drop-enumerated from (suc n) (x ∷ xs) = let same : from + 1 + n ≡ from + suc n = omega arith in drop-enumerated (from + 1) n xs ∙ ap (λ k. enumerate_from k (drop n xs)) same

take-enumerated : {X : Type 0} (from n : ℕ) (xs : List X) → take n (enumerate_from from xs) ≡ enumerate_from from (take n xs)
take-enumerated from zero xs = refl
take-enumerated from (suc n) [] = refl
take-enumerated from (suc n) (x ∷ xs) = ap (λ rest. (from, x) ∷ rest) (take-enumerated (from + 1) n xs)

drop-all : {X : Type 0} (n : ℕ) (xs : List X) → length xs ≤ n → drop n xs ≡ []
drop-all zero [] past = refl
drop-all (suc n) [] past = refl
drop-all zero (x ∷ xs) past = absurd (omega (arith, past))
drop-all (suc n) (x ∷ xs) past = drop-all n xs (omega (arith, past))

take-all : {X : Type 0} (n : ℕ) (xs : List X) → length xs ≤ n → take n xs ≡ xs
take-all zero [] past = refl
take-all (suc n) [] past = refl
take-all zero (x ∷ xs) past = absurd (omega (arith, past))
take-all (suc n) (x ∷ xs) past = ap (λ rest. x ∷ rest) (take-all n xs (omega (arith, past)))

pub append-nil : {X : Type 0} (xs : List X) → xs ++ [] ≡ xs
append-nil [] = refl
append-nil (x ∷ xs) = ap (λ rest. x ∷ rest) (append-nil xs)

-- from behind all is from the first one on
from-behind-all : {X : Type 0} (n : ℕ) (xs : List X) → length xs ≤ n → from_place n xs ≡ from_place 0 xs
from-behind-all n xs past = ap (λ l. l ++ take n xs) (drop-all n xs past) ∙ take-all n xs past ∙ sym (append-nil xs)

pub turn-within : {X : Type 0} (last : Option ℕ) (xs : List X) → in_turn last xs ≡ from_place (place_within (length xs) last) xs
turn-within None xs = refl
turn-within (Some last) xs = by_test (nat_lt last (length xs)) refl
  where
    by_test : (b : Bool) → nat_lt last (length xs) ≡ b → from_place (last + 1) xs ≡ from_place (cond b (last + 1) 0) xs
    by_test true holds = refl
    by_test false fails = from-behind-all (last + 1) xs (omega (arith, ltb-false last (length xs) fails))

slice-drop : {X : Type 0} (n k : ℕ) (xs : List X) → slice_get (drop n xs) k ≡ slice_get xs (n + k)
slice-drop zero k xs = let same : k ≡ 0 + k = omega arith in ap (slice_get xs) same
slice-drop (suc n) k [] = refl
slice-drop (suc n) k (x ∷ xs) = let same : suc n + k ≡ suc (n + k) = omega arith in slice-drop n k xs ∙ ap (slice_get (x ∷ xs)) (sym same)

slice-take : {X : Type 0} (n k : ℕ) (xs : List X) (x : X) → slice_get (take n xs) k ≡ Some x → (slice_get xs k ≡ Some x) × (k < n)
slice-take zero k xs x is = cc
slice-take (suc n) k [] x is = cc
slice-take (suc n) zero (y ∷ xs) x is = (is, omega arith)
slice-take (suc n) (suc k) (y ∷ xs) x is = let it = slice-take n k xs x is in (it.0, omega (arith, it.1))

take-slice : {X : Type 0} (n k : ℕ) (xs : List X) → k < n → slice_get (take n xs) k ≡ slice_get xs k
take-slice zero k xs lt = absurd (omega arith)
take-slice (suc n) k [] lt = refl
take-slice (suc n) zero (y ∷ xs) lt = refl
take-slice (suc n) (suc k) (y ∷ xs) lt = take-slice n k xs (omega arith)

find-append-none : {X : Type 0} (test : X → Bool) (xs ys : List X) → find test xs ≡ None → find test (xs ++ ys) ≡ find test ys
find-append-none test [] ys none = refl
find-append-none test (x ∷ xs) ys none = by_test (test x) none (λ later. find-append-none test xs ys later)
  where
    by_test : (b : Bool) → cond b (Some x) (find test xs) ≡ None → (find test xs ≡ None → find test (xs ++ ys) ≡ find test ys) → cond b (Some x) (find test (xs ++ ys)) ≡ find test ys
    by_test true none rest = cc
    by_test false none rest = rest none

find-append-some : {X : Type 0} (test : X → Bool) (xs ys : List X) (x : X) → find test xs ≡ Some x → find test (xs ++ ys) ≡ Some x
find-append-some test [] ys x is = cc
find-append-some test (y ∷ xs) ys x is = by_test (test y) is (λ later. find-append-some test xs ys x later)
  where
    by_test : (b : Bool) → cond b (Some y) (find test xs) ≡ Some x → (find test xs ≡ Some x → find test (xs ++ ys) ≡ Some x) → cond b (Some y) (find test (xs ++ ys)) ≡ Some x
    by_test true is rest = is
    by_test false is rest = rest is

pub if-ok : {T E : Type 0} (P Q : T → Type 0) → ((x : T) → P x → Q x) → (r : Result T E) → IfOk r P → IfOk r Q
if-ok P Q f (Ok x) h = f x h
if-ok P Q f (Err e) h = h

-- ---- the first that gives something

pub given-here : {X Y : Type 0} (gives : ℕ × X → Option Y) (xs : List X) (start end place : ℕ) (given : Y) → place < length xs → start ≤ place → place < end
    → ((x : X) → slice_get xs place ≡ Some x → Some given ≡ gives (place, x)) → GiveNothing gives xs start place → IsGivenBy gives xs start end given
given-here gives xs start end place given there from within is before =
    elim (slice_get_cases xs place).1 [
      | inl at ↦ record { place = place; item = at.0; from = from; within = within; there = at.2; is_given = sym (is at.0 at.2); before = before }
      | inr past ↦ absurd (omega (arith, there, past.0))
    ]

pub nothing-more : {X Y : Type 0} (gives : ℕ × X → Option Y) (xs : List X) (start place : ℕ) → GiveNothing gives xs start place
    → ((x : X) → slice_get xs place ≡ Some x → None ≡ gives (place, x)) → GiveNothing gives xs start (place + 1)
nothing-more {X} {Y} gives xs start place nothing is k x from lt there = by_place (cases_order k place)
  where
    by_place : (k ≡ place) ⊎ ((k < place) ⊎ (place < k)) → gives (k, x) ≡ None
    by_place (inl at) = let P : ℕ → Type 0 = λ n. slice_get xs n ≡ Some x → gives (n, x) ≡ None in subst P (sym at) (λ there. sym (is x there)) there
    by_place (inr (inl early)) = nothing k x from early there
    by_place (inr (inr late)) = absurd (omega (arith, lt, late))

-- ---- the first processor that is ready

module _ (flow : Flow) (known : Known) where
  abbrev ready : ℕ × Processor → Bool
  ready = is_ready flow known

  abbrev gives : ℕ × Processor → Option Choice
  gives = choice_of flow known

  not-ready : (p : ℕ × Processor) → choice_of flow known p ≡ None → is_ready flow known p ≡ false
  not-ready p none = by_parts (taking_of flow known p) (may_begin flow known p) none
    where
      by_parts : (t : Option Taking) (begins : Bool) → cond begins (option_map (choice_at p.0) t) None ≡ None → (is_some t && begins) ≡ false
      by_parts None begins none = refl
      by_parts (Some t) true none = cc
      by_parts (Some t) false none = refl

  is-ready : (p : ℕ × Processor) (choice : Choice) → choice_of flow known p ≡ Some choice → is_ready flow known p ≡ true
  is-ready p choice is = by_parts (taking_of flow known p) (may_begin flow known p) is
    where
      by_parts : (t : Option Taking) (begins : Bool) → cond begins (option_map (choice_at p.0) t) None ≡ Some choice → (is_some t && begins) ≡ true
      by_parts None true is = cc
      by_parts None false is = cc
      by_parts (Some t) true is = refl
      by_parts (Some t) false is = cc

  none-behind : (start : ℕ) → GiveNothing gives flow.processors start (length flow.processors) → find ready (drop start (enumerate_from 0 flow.processors)) ≡ None
  none-behind start nothing =
      ap (find ready) (drop-enumerated 0 start flow.processors)
      ∙ none-found ready (0 + start) (drop start flow.processors)
      (λ k p there.
      let at : slice_get flow.processors (start + k) ≡ Some p = sym (slice-drop start k flow.processors) ∙ there in
      let place : 0 + start + k ≡ start + k = omega arith in
      ap (λ n. ready (n, p)) place ∙ not-ready (start + k, p) (nothing (start + k) p (omega arith) (slice_get_within flow.processors (start + k) p at) at))

  none-before : (start : ℕ) → GiveNothing gives flow.processors 0 start → find ready (take start (enumerate_from 0 flow.processors)) ≡ None
  none-before start nothing =
      ap (find ready) (take-enumerated 0 start flow.processors)
      ∙ none-found ready 0 (take start flow.processors)
      (λ k p there.
      let at = slice-take start k flow.processors p there in
      let place : 0 + k ≡ k = omega arith in
      ap (λ n. ready (n, p)) place ∙ not-ready (k, p) (nothing k p (omega arith) at.1 at.0))

  first-behind : (start : ℕ) (choice : Choice) (it : IsGivenBy gives flow.processors start (length flow.processors) choice)
      → find ready (drop start (enumerate_from 0 flow.processors)) ≡ Some (it.place, it.item)
  first-behind start choice it =
      ap (find ready) (drop-enumerated 0 start flow.processors)
      ∙ first-found ready (0 + start) (it.place - start) (drop start flow.processors) it.item
      (slice-drop start (it.place - start) flow.processors ∙ ap (slice_get flow.processors) back ∙ it.there)
      (ap (λ n. ready (n, it.item)) whole ∙ is-ready (it.place, it.item) choice it.is_given)
      (λ k p lt there.
      let at : slice_get flow.processors (start + k) ≡ Some p = sym (slice-drop start k flow.processors) ∙ there in
      let place : 0 + start + k ≡ start + k = omega arith in
      ap (λ n. ready (n, p)) place ∙ not-ready (start + k, p) (it.before (start + k) p (omega arith) (omega (arith, it.from)) at))
      ∙ ap (λ n. Some (n, it.item)) whole
    where
      back : start + (it.place - start) ≡ it.place
      back = omega (arith, it.from)

      whole : 0 + start + (it.place - start) ≡ it.place
      whole = omega (arith, it.from)

  first-before : (start : ℕ) (choice : Choice) (it : IsGivenBy gives flow.processors 0 start choice)
      → find ready (take start (enumerate_from 0 flow.processors)) ≡ Some (it.place, it.item)
  first-before start choice it =
      ap (find ready) (take-enumerated 0 start flow.processors)
      ∙ first-found ready 0 it.place (take start flow.processors) it.item
      (take-slice start it.place flow.processors it.within ∙ it.there)
      (ap (λ n. ready (n, it.item)) whole ∙ is-ready (it.place, it.item) choice it.is_given)
      (λ k p lt there.
      let at = slice-take start k flow.processors p there in
      let place : 0 + k ≡ k = omega arith in
      ap (λ n. ready (n, p)) place ∙ not-ready (k, p) (it.before k p (omega arith) lt at.0))
      ∙ ap (λ n. Some (n, it.item)) whole
    where
      whole : 0 + it.place ≡ it.place
      whole = omega arith

  turn-is : (last : Option ℕ) → in_turn last (enumerate_from 0 flow.processors) ≡ from_place (place_within (length flow.processors) last) (enumerate_from 0 flow.processors)
  turn-is last =
      turn-within last (enumerate_from 0 flow.processors)
      ∙ ap (λ n. from_place (place_within n last) (enumerate_from 0 flow.processors)) (length-enumerate_from 0 flow.processors)

  pub chosen-behind : (last : Option ℕ) (choice : Choice) → IsGivenBy gives flow.processors (place_within (length flow.processors) last) (length flow.processors) choice
      → Some choice ≡ next_choice flow known last
  chosen-behind last choice it =
      let all = enumerate_from 0 flow.processors in
      let start = place_within (length flow.processors) last in
      sym (ap (λ l. option_and_then gives (find ready l)) (turn-is last)
      ∙ ap (option_and_then gives) (find-append-some ready (drop start all) (take start all) (it.place, it.item) (first-behind start choice it)) ∙ it.is_given)

  pub chosen-before : (last : Option ℕ) (found : Option Choice) → GiveNothing gives flow.processors (place_within (length flow.processors) last) (length flow.processors)
      → IsFirstGiven gives flow.processors 0 (place_within (length flow.processors) last) found → found ≡ next_choice flow known last
  chosen-before last found nothing is =
      let all = enumerate_from 0 flow.processors in
      let start = place_within (length flow.processors) last in
      by_found found is
      ∙ sym (ap (λ l. option_and_then gives (find ready l)) (turn-is last) ∙ ap (option_and_then gives) (find-append-none ready (drop start all) (take start all) (none-behind start nothing)))
    where
      by_found : (found : Option Choice) → IsFirstGiven gives flow.processors 0 (place_within (length flow.processors) last) found
          → found ≡ option_and_then gives (find ready (take (place_within (length flow.processors) last) (enumerate_from 0 flow.processors)))
      by_found None nothing = sym (ap (option_and_then gives) (none-before (place_within (length flow.processors) last) nothing))
      by_found (Some choice) it = sym (ap (option_and_then gives) (first-before (place_within (length flow.processors) last) choice it) ∙ it.is_given)

-- ---- the processors that pass a test, one after another

pub passed-so-far : {X : Type 0} (test : ℕ × X → Bool) (from n : ℕ) (xs : List X) (x : X) → slice_get xs n ≡ Some x
    → filter test (take (n + 1) (enumerate_from from xs)) ≡ filter test (take n (enumerate_from from xs)) ++ cond (test (from + n, x)) ((from + n, x) ∷ []) []
passed-so-far {X} test from n xs x there = rw add-one (by_place from n xs there)
  where
    by_place : (from n : ℕ) (xs : List X) → slice_get xs n ≡ Some x
        → filter test (take (suc n) (enumerate_from from xs)) ≡ filter test (take n (enumerate_from from xs)) ++ cond (test (from + n, x)) ((from + n, x) ∷ []) []
    by_place from n [] there = cc
    by_place from zero (y ∷ xs) there =
        let same : y ≡ x = cc in
        let place : from ≡ from + zero = omega arith in
        λ i. cond (test (place i, same i)) ((place i, same i) ∷ []) []
    by_place from (suc n) (y ∷ xs) there =
        let place : from + 1 + n ≡ from + suc n = omega arith in
        let rest : filter test (take (suc n) (enumerate_from (from + 1) xs)) ≡ filter test (take n (enumerate_from (from + 1) xs)) ++ cond (test (from + suc n, x)) ((from + suc n, x) ∷ []) [] =
        by_place (from + 1) n xs there ∙ ap (λ k. filter test (take n (enumerate_from (from + 1) xs)) ++ cond (test (k, x)) ((k, x) ∷ []) []) place in
        by_test (test (from, y)) rest
      where
        by_test : (b : Bool) → filter test (take (suc n) (enumerate_from (from + 1) xs)) ≡ filter test (take n (enumerate_from (from + 1) xs)) ++ cond (test (from + suc n, x)) ((from + suc n, x) ∷ []) []
            → cond b ((from, y) ∷ filter test (take (suc n) (enumerate_from (from + 1) xs))) (filter test (take (suc n) (enumerate_from (from + 1) xs)))
            ≡ cond b ((from, y) ∷ filter test (take n (enumerate_from (from + 1) xs))) (filter test (take n (enumerate_from (from + 1) xs))) ++ cond (test (from + suc n, x)) ((from + suc n, x) ∷ []) []
        by_test true rest = ap (λ l. (from, y) ∷ l) rest
        by_test false rest = rest

-- their places
pub places-so-far : {X : Type 0} (test : ℕ × X → Bool) (n : ℕ) (xs : List X) (x : X) (was now : List ℕ) (b : Bool) → slice_get xs n ≡ Some x → b ≡ test (n, x)
    → was ≡ map (λ p. p.0) (filter test (take n (enumerate_from 0 xs))) → now ≡ was ++ cond b (n ∷ []) []
    → now ≡ map (λ p. p.0) (filter test (take (n + 1) (enumerate_from 0 xs)))
places-so-far {X} test n xs x was now b there tested before is =
    let first : ℕ × X → ℕ = λ p. p.0 in
    let place : n ≡ 0 + n = omega arith in
    is ∙ ap (λ l. l ++ cond b (n ∷ []) []) before ∙ ap (λ t. map first (filter test (take n (enumerate_from 0 xs))) ++ cond t (n ∷ []) []) tested
    ∙ ap (λ l. map first (filter test (take n (enumerate_from 0 xs))) ++ l) (one (test (n, x)))
    ∙ sym (map-joined first (filter test (take n (enumerate_from 0 xs))) (cond (test (n, x)) ((n, x) ∷ []) []))
    ∙ ap (λ k. map first (filter test (take n (enumerate_from 0 xs)) ++ cond (test (k, x)) ((k, x) ∷ []) [])) place
    ∙ ap (map first) (sym (passed-so-far test 0 n xs x there))
  where
    one : (t : Bool) → cond t (n ∷ []) [] ≡ map (λ (p : ℕ × X). p.0) (cond t ((n, x) ∷ []) [])
    one true = refl
    one false = refl

    map-joined : {A B : Type 0} (f : A → B) (l m : List A) → map f (l ++ m) ≡ map f l ++ map f m
    map-joined f [] m = refl
    map-joined f (a ∷ l) m = ap (λ rest. f a ∷ rest) (map-joined f l m)

pub all-places-passed : {X : Type 0} (test : ℕ × X → Bool) (n : ℕ) (xs : List X) → length xs ≤ n
    → filter test (take n (enumerate_from 0 xs)) ≡ filter test (enumerate_from 0 xs)
all-places-passed test n xs past =
    let count = length-enumerate_from 0 xs in
    ap (filter test) (take-all n (enumerate_from 0 xs) (omega (arith, past, count)))

pub places-step : {X : Type 0} (test : ℕ × X → Bool) (n : ℕ) (xs : List X) (was now : List ℕ) (b : Bool) → n < length xs → ((x : X) → slice_get xs n ≡ Some x → b ≡ test (n, x))
    → was ≡ map (λ p. p.0) (filter test (take n (enumerate_from 0 xs))) → now ≡ was ++ cond b (n ∷ []) []
    → now ≡ map (λ p. p.0) (filter test (take (n + 1) (enumerate_from 0 xs)))
places-step test n xs was now b within tested before is =
    elim (slice_get_cases xs n).1 [
      | inl at ↦ places-so-far test n xs at.0 was now b at.2 (tested at.0 at.2) before is
      | inr past ↦ absurd (omega (arith, within, past.0))
    ]
