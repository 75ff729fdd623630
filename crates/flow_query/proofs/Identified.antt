-- A number of an identifier, found among others.
use Rattle.std.proofs.Common.{◌≡◌, ℕ, ◌+◌, ◌<◌, ◌==◌, ◌||◌, Bool, true, false, cond, List, ◌∷◌, length, get_or, drop, Option, None, Some, ◌∙◌, ap, sym, refl, inl, inr}
use Rattle.std.specs.Prelude.{bytes_eq, is_some, find}
use Rattle.std.proofs.lemmas.Bool.{false≢true, or_cases, or_left, or_right, eqb-true}
use Rattle.std.proofs.lemmas.List.{at_drop_more}
use Rattle.std.proofs.lemmas.Slice.Eq.{bytes_eq-Decides}
use Rattle.flowfile_record.specs.Identifier.{identifier}
use Rattle.flowfile_record.specs.declared.event.Event.{Event}
use Rattle.flowfile_record.proofs.ByNumber.{refl_eqb}
use Rattle.machine_model.specs.Files.{is_number_among}
use Rattle.machine_model.specs.Lineage.{names}
use Rattle.flow_query.specs.Parts.{IsFoundBy}

-- ---- identifiers that were compared

pub same_id : (x y : List ℕ) (r : Bool) → r ≡ bytes_eq x y → r ≡ true → x ≡ y
same_id x y r is equal = (bytes_eq-Decides x y).0 (sym is ∙ equal)

pub other_id : (x y : List ℕ) (r : Bool) → r ≡ bytes_eq x y → r ≡ false → x ≡ y → ⊥
other_id x y r is differ same = false≢true (sym differ ∙ is ∙ (bytes_eq-Decides x y).1 same)

-- ---- a test of a list

-- of what a test of a list passes, all that has the identifier passes the test of what is left of the list
pub record IsAmongRest {X : Type 0} (test : List X → ℕ → Bool) (store : ℕ) (id : List ℕ) (xs left : List X) : Type 0 where
  pub only : (n : ℕ) → identifier store n ≡ id → test xs n ≡ true → test left n ≡ true
  pub within : (n : ℕ) → test left n ≡ true → test xs n ≡ true

-- a test of a list that asks its items, one after the other
pub record AsksEach {X : Type 0} (test : List X → ℕ → Bool) (here : X → ℕ → Bool) : Type 0 where
  pub more : (x : X) (xs : List X) (n : ℕ) → test (x ∷ xs) n ≡ (here x n || test xs n)

module _ {X : Type 0} (test : List X → ℕ → Bool) (here : X → ℕ → Bool) (asks : AsksEach test here) (store : ℕ) (id : List ℕ) (xs : List X) where
  pub rest_all : IsAmongRest test store id xs xs
  rest_all = record { only = λ n is passes. passes; within = λ n passes. passes }

  passes_next : (i : ℕ) (d : X) (n : ℕ) → i < length xs → test (drop i xs) n ≡ (here (get_or xs i d) n || test (drop (i + 1) xs) n)
  passes_next i d n within = at_drop_more (λ (l : List X). test l n) xs i d within ∙ asks.more (get_or xs i d) (drop (i + 1) xs) n

  -- the next item isn't it
  pub rest_more : (i : ℕ) (d : X) → i < length xs → ((n : ℕ) → identifier store n ≡ id → here (get_or xs i d) n ≡ true → ⊥) → IsAmongRest test store id xs (drop i xs)
      → IsAmongRest test store id xs (drop (i + 1) xs)
  rest_more i d within other rest = record {
    only = λ n is passes.
        elim (or_cases (here (get_or xs i d) n) (test (drop (i + 1) xs) n) (sym (passes_next i d n within) ∙ rest.only n is passes)) [
          | inl one ↦ absurd (other n is one)
          | inr later ↦ later
        ];
    within = λ n passes. rest.within n (passes_next i d n within ∙ or_right (here (get_or xs i d) n) (test (drop (i + 1) xs) n) passes);
  }

  -- the next item is it
  pub rest_has : (i : ℕ) (d : X) (n : ℕ) → i < length xs → here (get_or xs i d) n ≡ true → IsAmongRest test store id xs (drop i xs) → test xs n ≡ true
  rest_has i d n within one rest = rest.within n (passes_next i d n within ∙ or_left (here (get_or xs i d) n) (test (drop (i + 1) xs) n) one)

-- ---- numbers

number_more : (t : Bool) (x : ℕ) (found : Option ℕ) → is_some (cond t (Some x) found) ≡ (t || is_some found)
number_more true x found = refl
number_more false x found = refl

pub asks_numbers : AsksEach is_number_among (λ x n. x == n)
asks_numbers = record { more = λ x xs n. number_more (x == n) x (find (λ m. m == n) xs) }

-- ---- one test or another

module _ (store : ℕ) (id : List ℕ) where
  pub found_or : (t u : ℕ → Bool) (r : Option ℕ) → IsFoundBy store id t None → IsFoundBy store id u r → IsFoundBy store id (λ m. t m || u m) r
  found_or t u (Some n) none found = (found.0, or_right (t n) (u n) found.1)
  found_or t u None none found = λ n is passes.
      elim (or_cases (t n) (u n) passes) [
        | inl one ↦ none n is one
        | inr other ↦ found n is other
      ]

  -- the file of an event, its parents and its children
  pub found_file : (e : Event) → identifier store e.file ≡ id → IsFoundBy store id (λ n. names n e) (Some e.file)
  found_file e is = (
    is,
    or_left ((e.file == e.file) || is_number_among e.parents e.file) (is_number_among e.children e.file)
        (or_left (e.file == e.file) (is_number_among e.parents e.file) (refl_eqb e.file)),
  )

  pub found_parent : (e : Event) (n : ℕ) → IsFoundBy store id (is_number_among e.parents) (Some n) → IsFoundBy store id (λ m. names m e) (Some n)
  found_parent e n found = (
    found.0,
    or_left ((e.file == n) || is_number_among e.parents n) (is_number_among e.children n) (or_right (e.file == n) (is_number_among e.parents n) found.1),
  )

  pub found_child : (e : Event) (r : Option ℕ) → (identifier store e.file ≡ id → ⊥) → IsFoundBy store id (is_number_among e.parents) None
      → IsFoundBy store id (is_number_among e.children) r → IsFoundBy store id (λ m. names m e) r
  found_child e r other none found =
      found_or (λ n. (e.file == n) || is_number_among e.parents n) (is_number_among e.children) r
      (found_or (λ n. e.file == n) (is_number_among e.parents) None (λ n is passes. other (ap (identifier store) (eqb-true e.file n passes) ∙ is)) none)
      found
