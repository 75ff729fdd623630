-- Keys that differ and lie below a number, as counts: each key is that of one element at most.
use Rattle.std.proofs.Common.{◌≡◌, ◌≢◌, inl, inr, ℕ, ◌<◌, ◌≤◌, true, false, List, [], ◌∷◌, refl, sym, arith, get_or, ap, ◌∙◌}
use Rattle.std.specs.Prelude.{◌==◌, All, Contains}
use Rattle.std.specs.List.{AllPairs}
use Rattle.std.proofs.lemmas.Bool.{cases_eq, cases_lt, ne_eqb, eq-eqb, cases_order}
use Rattle.std.proofs.lemmas.List.{get_or_default}
use Rattle.std.proofs.lemmas.List.Elements.{All-nil, All-cons, All-head, All-tail, All-weaker}
use Rattle.std.proofs.lemmas.List.Kept.{AllPairs-cons}
use Rattle.machine_model.specs.State.{QueuedFile}
use Rattle.machine_model.specs.Valid.{AreNumbered}
use Rattle.machine_model.proofs.Tally.{many, at_most}
use Rattle.machine_model.proofs.Ordered.{pairs_head, pairs_tail, pairs_nil}

pub record Counted {X : Type 0} (key : X → ℕ) (next : ℕ) (xs : List X) : Type 0 where
  pub first : 1 ≤ next
  pub once : (n : ℕ) → many key n xs ≤ 1
  pub none : (n : ℕ) → next ≤ n → many key n xs ≡ 0
  pub some : many key 0 xs ≡ 0

none_from_below : {X : Type 0} (key : X → ℕ) (next : ℕ) (xs : List X) → All (λ x. key x < next) xs → (n : ℕ) → next ≤ n → many key n xs ≡ 0
none_from_below key next [] h n le = refl
none_from_below key next (x ∷ xs) h n le =
    let here : key x < next = All-head (λ y. key y < next) x xs h in
    let no : (key x == n) ≡ false = ne_eqb (key x) n (λ e. omega arith) in
    rw no (omega (arith, none_from_below key next xs (All-tail (λ y. key y < next) x xs h) n le))

pub none_from_apart : {X : Type 0} (key : X → ℕ) (m : ℕ) (xs : List X) → All (λ x. m ≢ key x) xs → many key m xs ≡ 0
none_from_apart key m [] h = refl
none_from_apart key m (x ∷ xs) h =
    let no : (key x == m) ≡ false = ne_eqb (key x) m (λ e. All-head (λ y. m ≢ key y) x xs h (sym e)) in
    rw no (omega (arith, none_from_apart key m xs (All-tail (λ y. m ≢ key y) x xs h)))

pub once_from_differ : {X : Type 0} (key : X → ℕ) (xs : List X) → AllPairs (λ one other. key one ≢ key other) xs → (n : ℕ) → many key n xs ≤ 1
once_from_differ key [] h n = omega arith
once_from_differ {X} key (x ∷ xs) h n =
    let R : X → X → Type 0 = λ one other. key one ≢ key other in
    elim (cases_eq (key x) n) [
      | inl e ↦ let others : many key (key x) xs ≡ 0 = none_from_apart key (key x) xs (pairs_head R x xs h) in
          omega (arith, at_most (key x == n) 1, rw e at others)
      | inr ne ↦ let no : (key x == n) ≡ false = ne_eqb (key x) n ne in rw no (omega (arith, once_from_differ key xs (pairs_tail R x xs h) n))
    ]

zero_from_some : {X : Type 0} (key : X → ℕ) (xs : List X) → All (λ x. 1 ≤ key x) xs → many key 0 xs ≡ 0
zero_from_some key [] h = refl
zero_from_some key (x ∷ xs) h =
    let here : 1 ≤ key x = All-head (λ y. 1 ≤ key y) x xs h in
    let no : (key x == 0) ≡ false = ne_eqb (key x) 0 (λ e. omega arith) in
    rw no (omega (arith, zero_from_some key xs (All-tail (λ y. 1 ≤ key y) x xs h)))

within_from_none : {X : Type 0} (key : X → ℕ) (next : ℕ) (xs : List X) → ((n : ℕ) → next ≤ n → many key n xs ≡ 0) → many key 0 xs ≡ 0 → All (λ x. (1 ≤ key x) × (key x < next)) xs
within_from_none key next [] h k = All-nil (λ x. (1 ≤ key x) × (key x < next))
within_from_none key next (x ∷ xs) h k =
    All-cons (λ y. (1 ≤ key y) × (key y < next)) x xs (some, below) (within_from_none key next xs (λ n le. omega (arith, h n le)) (omega arith))
  where
    below : key x < next
    below = elim (cases_lt (key x) next) [
      | inl lt ↦ lt
      | inr ge ↦ let yes : (key x == key x) ≡ true = eq-eqb (key x) (key x) refl in absurd (omega (arith, rw yes at (h (key x) ge)))
    ]

    some : 1 ≤ key x
    some = elim (cases_eq (key x) 0) [
      | inl e ↦ let yes : (key x == 0) ≡ true = eq-eqb (key x) 0 e in absurd (omega (arith, rw yes at k))
      | inr ne ↦ elim (cases_lt 0 (key x)) [ inl lt ↦ omega arith | inr ge ↦ absurd (ne (omega arith)) ]
    ]

apart_from_none : {X : Type 0} (key : X → ℕ) (m : ℕ) (xs : List X) → many key m xs ≡ 0 → All (λ x. m ≢ key x) xs
apart_from_none key m [] h = All-nil (λ x. m ≢ key x)
apart_from_none key m (x ∷ xs) h =
    All-cons (λ y. m ≢ key y) x xs
    (λ e. let yes : (key x == m) ≡ true = eq-eqb (key x) m (sym e) in absurd (omega (arith, rw yes at h)))
    (apart_from_none key m xs (omega arith))

pub differ_from_once : {X : Type 0} (key : X → ℕ) (xs : List X) → ((n : ℕ) → many key n xs ≤ 1) → AllPairs (λ one other. key one ≢ key other) xs
differ_from_once {X} key [] h = pairs_nil (λ one other. key one ≢ key other)
differ_from_once {X} key (x ∷ xs) h =
    let yes : (key x == key x) ≡ true = eq-eqb (key x) (key x) refl in
    AllPairs-cons (λ one other. key one ≢ key other) x xs
    (apart_from_none key (key x) xs (omega (arith, rw yes at (h (key x)))))
    (differ_from_once key xs (λ n. omega (arith, h n)))

pub counted : (key : QueuedFile → ℕ) (next : ℕ) (files : List QueuedFile) → AreNumbered key next files → Counted key next files
counted key next files h = record {
  first = h.first;
  once = once_from_differ key files h.differ;
  none = none_from_below key next files (All-weaker (λ file. (1 ≤ key file) × (key file < next)) (λ file. key file < next) (λ file is. is.1) files h.within);
  some = zero_from_some key files (All-weaker (λ file. (1 ≤ key file) × (key file < next)) (λ file. 1 ≤ key file) (λ file is. is.0) files h.within);
}

pub numbered : (key : QueuedFile → ℕ) (next : ℕ) (files : List QueuedFile) → Counted key next files → AreNumbered key next files
numbered key next files h = record { first = h.first; differ = differ_from_once key files h.once; within = within_from_none key next files h.none h.some }

-- two elements of one list that have one key are one
pub same_key : {X : Type 0} (key : X → ℕ) (xs : List X) (a b : X) → AllPairs (λ one other. key one ≢ key other) xs → Contains xs a → Contains xs b → key a ≡ key b → a ≡ b
same_key key xs a b differ (i, i_within, is_a) (j, j_within, is_b) same =
    let at_a : get_or xs i b ≡ a = get_or_default xs i b a i_within ∙ is_a in
    elim (cases_order i j) [
      | inl e ↦ sym at_a ∙ ap (λ k. get_or xs k b) e ∙ is_b
      | inr (inl lt) ↦ absurd (differ i j b lt j_within (ap key at_a ∙ same ∙ sym (ap key is_b)))
      | inr (inr gt) ↦ absurd (differ j i b gt i_within (ap key is_b ∙ sym same ∙ sym (ap key at_a)))
    ]
