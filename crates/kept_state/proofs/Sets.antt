-- Numbers that none was before, and files that are left.
use Rattle.std.proofs.Common.{◌≡◌, ◌≢◌, ℕ, ◌+◌, ◌<◌, ◌==◌, ◌||◌, ◌&&◌, not, Bool, true, false, List, [], ◌∷◌, length, take, get_or, All, is_some, refl, sym, ap, ◌∙◌, inl, inr}
use Rattle.std.specs.List.{list_any, list_all}
use Rattle.std.proofs.lemmas.Bool.{cases_Bool, or_parts, eq-eqb, eqb-true, false≢true, ne_eqb}
use Rattle.std.proofs.lemmas.List.{take_more}
use Rattle.std.proofs.lemmas.List.Elements.{All-head, All-tail}
use Rattle.flowfile_record.specs.NumberedItems.{without_item, AscendsByNumber}
use Rattle.flowfile_record.specs.declared.stored.ActiveFile.{ActiveFile}
use Rattle.checkpoint_store.specs.Consistent.{AreDistinctBy}
use Rattle.checkpoint_store.proofs.Numbering.{any_more}
use Rattle.kept_state.specs.Applied.{active_number, is_file_among, left_after}
use Rattle.kept_state.specs.Arrivals.{arrival_of, has_arrival, are_fresh}
use Rattle.kept_state.specs.Fits.{active_of, are_distinct_numbers}
use Rattle.kept_state.proofs.Items.{eqb_comm, none_above, item_of-without_other}
use Rattle.kept_state.proofs.Keeping.{ascends-filter, distinct-filter}
use Rattle.kept_state.proofs.Moving.{left_after-cons, left_after-nil}

-- ---- fresh numbers

pub fresh_same : (s t : ℕ → Bool) → ((n : ℕ) → s n ≡ t n) → (ns : List ℕ) → are_fresh s ns ≡ are_fresh t ns
fresh_same s t same [] = refl
fresh_same s t same (n ∷ ns) =
    ap (λ b. not b && are_fresh (λ m. s m || (n == m)) ns) (same n)
    ∙ ap (λ b. not (t n) && b) (fresh_same (λ m. s m || (n == m)) (λ m. t m || (n == m)) (λ m. ap (λ b. b || (n == m)) (same m)) ns)

neither : (s n l a : Bool) → (not (s || n) && (l && not a)) ≡ ((not s && l) && not (n || a))
neither true n l a = refl
neither false true true a = refl
neither false true false a = refl
neither false false l a = refl

unseen_but : (s : ℕ → Bool) (n : ℕ) (ns : List ℕ) → list_all (λ k. not (s k || (n == k))) ns ≡ (list_all (λ k. not (s k)) ns && not (list_any (λ m. m == n) ns))
unseen_but s n [] = refl
unseen_but s n (k ∷ ns) =
    ap (λ b. not (s k || (n == k)) && b) (unseen_but s n ns)
    ∙ neither (s k) (n == k) (list_all (λ k. not (s k)) ns) (list_any (λ m. m == n) ns)
    ∙ ap (λ b. (not (s k) && list_all (λ k. not (s k)) ns) && not (b || list_any (λ m. m == n) ns)) (eqb_comm n k)

regroup : (x d l a : Bool) → (x && (d && (l && a))) ≡ ((a && d) && (x && l))
regroup true true true true = refl
regroup true true true false = refl
regroup true true false true = refl
regroup true true false false = refl
regroup true false l true = refl
regroup true false l false = refl
regroup false true l true = refl
regroup false true l false = refl
regroup false false l true = refl
regroup false false l false = refl

pub fresh_is : (s : ℕ → Bool) (ns : List ℕ) → are_fresh s ns ≡ (are_distinct_numbers ns && list_all (λ n. not (s n)) ns)
fresh_is s [] = refl
fresh_is s (n ∷ ns) =
    ap (λ b. not (s n) && b) (fresh_is (λ m. s m || (n == m)) ns ∙ ap (λ b. are_distinct_numbers ns && b) (unseen_but s n ns))
    ∙ regroup (not (s n)) (are_distinct_numbers ns) (list_all (λ k. not (s k)) ns) (not (list_any (λ m. m == n) ns))

all_unseen : (s : ℕ → Bool) → ((n : ℕ) → s n ≡ false) → (ns : List ℕ) → list_all (λ n. not (s n)) ns ≡ true
all_unseen s none [] = refl
all_unseen s none (n ∷ ns) = ap (λ b. not b && list_all (λ n. not (s n)) ns) (none n) ∙ all_unseen s none ns

and_true : (b : Bool) → (b && true) ≡ b
and_true true = refl
and_true false = refl

pub fresh_none : (s : ℕ → Bool) → ((n : ℕ) → s n ≡ false) → (ns : List ℕ) → are_fresh s ns ≡ are_distinct_numbers ns
fresh_none s none ns = fresh_is s ns ∙ ap (λ b. are_distinct_numbers ns && b) (all_unseen s none ns) ∙ and_true (are_distinct_numbers ns)

pub any_take : (test : ℕ → Bool) (ns : List ℕ) (i d : ℕ) → i < length ns → list_any test (take (i + 1) ns) ≡ (list_any test (take i ns) || test (get_or ns i d))
any_take test ns i d lt = ap (list_any test) (take_more ns i d lt) ∙ any_more test (take i ns) (get_or ns i d)

pub or_assoc : (a b c : Bool) → ((a || b) || c) ≡ (a || (b || c))
or_assoc true b c = refl
or_assoc false b c = refl

pub all_same : (s t : ℕ → Bool) → ((n : ℕ) → s n ≡ t n) → (ns : List ℕ) → list_all s ns ≡ list_all t ns
all_same s t same [] = refl
all_same s t same (n ∷ ns) = ap (λ b. b && list_all s ns) (same n) ∙ ap (λ b. t n && b) (all_same s t same ns)

-- ---- files that are left, by their numbers

pub some_active : (n : ℕ) (files : List ActiveFile) → list_any (λ a. active_number a == n) files ≡ is_some (active_of n files)
some_active n [] = refl
some_active n (a ∷ files) = elim (cases_Bool (active_number a == n)) [ inl t ↦ rw t refl | inr f ↦ rw f (some_active n files) ]

pub any_left : (n : ℕ) (gone : List ℕ) (files : List ActiveFile) → list_any (λ a. active_number a == n) (left_after gone files) ≡ (list_any (λ a. active_number a == n) files && not (list_any (λ m. m == n) gone))
any_left n gone [] = refl
any_left n gone (a ∷ files) =
    let rest = any_left n gone files in
    elim (cases_Bool (is_file_among gone a)) [
      | inl t ↦
          elim (cases_Bool (active_number a == n)) [
            | inl s ↦
                let among : list_any (λ m. m == n) gone ≡ true = ap (λ k. list_any (λ m. m == k) gone) (sym (eqb-true (active_number a) n s)) ∙ t in
                let none : list_any (λ b. active_number b == n) (left_after gone files) ≡ false = rest ∙ ap (λ b. list_any (λ c. active_number c == n) files && not b) among ∙ and_false (list_any (λ c. active_number c == n) files) in
                rw (t, s, among) none
            | inr o ↦ rw (t, o) rest
          ]
      | inr f ↦
          elim (cases_Bool (active_number a == n)) [
            | inl s ↦
                let among : list_any (λ m. m == n) gone ≡ false = ap (λ k. list_any (λ m. m == k) gone) (sym (eqb-true (active_number a) n s)) ∙ f in
                rw (f, s, among) refl
            | inr o ↦ rw (f, o) rest
          ]
    ]
  where
    and_false : (b : Bool) → (b && false) ≡ false
    and_false true = refl
    and_false false = refl

-- ---- files that are left, by their arrivals

-- where no file has an arrival, one of them that is found hasn't
not_found : (m n : ℕ) (files : List ActiveFile) → list_any (λ b. arrival_of b == m) files ≡ false → has_arrival m (active_of n files) ≡ false
not_found m n [] none = refl
not_found m n (a ∷ files) none =
    let parts = or_parts (arrival_of a == m) (list_any (λ b. arrival_of b == m) files) none in
    elim (cases_Bool (active_number a == n)) [ inl t ↦ rw t parts.0 | inr f ↦ rw f (not_found m n files parts.1) ]

-- no file has the arrival of one that differs from theirs
unlike : (a : ActiveFile) (m : ℕ) (files : List ActiveFile) → All (λ b. arrival_of a ≢ arrival_of b) files → (arrival_of a == m) ≡ true → list_any (λ b. arrival_of b == m) files ≡ false
unlike a m [] differ is = refl
unlike a m (b ∷ files) differ is =
    let ne : (arrival_of b == m) ≡ false = ne_eqb (arrival_of b) m (λ e. All-head (λ c. arrival_of a ≢ arrival_of c) b files differ (eqb-true (arrival_of a) m is ∙ sym e)) in
    rw ne (unlike a m files (All-tail (λ c. arrival_of a ≢ arrival_of c) b files differ) is)

beside_true : (x : Bool) → (x && true) ≡ x
beside_true true = refl
beside_true false = refl

pub arrivals_without : (m n : ℕ) (files : List ActiveFile) → AscendsByNumber active_number files → AreDistinctBy arrival_of files
    → list_any (λ b. arrival_of b == m) (without_item active_number n files) ≡ (list_any (λ b. arrival_of b == m) files && not (has_arrival m (active_of n files)))
arrivals_without m n [] ascends distinct = refl
arrivals_without m n (a ∷ files) ascends distinct =
    elim (cases_Bool (active_number a == n)) [
      | inl t ↦
          let above : All (λ later. n < active_number later) files = rw (eqb-true (active_number a) n t) at ascends.0 in
          let left = ap (list_any (λ b. arrival_of b == m)) (none_above active_number n files above) in
          elim (cases_Bool (arrival_of a == m)) [
            | inl s ↦ rw (t, s) (left ∙ unlike a m files distinct.0 s)
            | inr o ↦ rw (t, o) (left ∙ sym (beside_true (list_any (λ b. arrival_of b == m) files)))
          ]
      | inr f ↦
          elim (cases_Bool (arrival_of a == m)) [
            | inl s ↦
                let none : has_arrival m (active_of n files) ≡ false = not_found m n files (unlike a m files distinct.0 s) in
                rw (f, s, none) refl
            | inr o ↦ rw (f, o) (arrivals_without m n files ascends.1 distinct.1)
          ]
    ]

taken_out : (x a r s : Bool) → (a ≡ false → s ≡ r) → ((x && not a) && not s) ≡ (x && not (a || r))
taken_out x true r s same = elim x as (λ y. ((y && false) && not s) ≡ (y && false)) [ true ↦ refl | false ↦ refl ]
taken_out true false r s same = ap not (same refl)
taken_out false false r s same = refl

-- which of these files has an arrival isn't changed where one goes that hasn't
others_found : (m n : ℕ) (files : List ActiveFile) (ns : List ℕ) → has_arrival m (active_of n files) ≡ false
    → list_any (λ k. has_arrival m (active_of k (without_item active_number n files))) ns ≡ list_any (λ k. has_arrival m (active_of k files)) ns
others_found m n files [] other = refl
others_found m n files (k ∷ ns) other =
    let rest = others_found m n files ns other in
    let here : has_arrival m (active_of k (without_item active_number n files)) ≡ has_arrival m (active_of k files) =
    elim (cases_Bool (k == n)) [
      | inl t ↦
          let same = eqb-true k n t in
          ap (λ j. has_arrival m (active_of j (without_item active_number n files))) same ∙ gone_not_found m n files ∙ sym (ap (λ j. has_arrival m (active_of j files)) same ∙ other)
      | inr f ↦ ap (has_arrival m) (item_of-without_other active_number k n files (λ e. false≢true (sym f ∙ eq-eqb k n e)))
    ] in
    ap (λ b. b || list_any (λ k. has_arrival m (active_of k (without_item active_number n files))) ns) here ∙ ap (λ b. has_arrival m (active_of k files) || b) rest
  where
    gone_not_found : (m n : ℕ) (files : List ActiveFile) → has_arrival m (active_of n (without_item active_number n files)) ≡ false
    gone_not_found m n [] = refl
    gone_not_found m n (a ∷ files) = elim (cases_Bool (active_number a == n)) [ inl t ↦ rw t (gone_not_found m n files) | inr f ↦ rw (f, f) (gone_not_found m n files) ]

pub arrivals_left : (m : ℕ) (gone : List ℕ) (files : List ActiveFile) → AscendsByNumber active_number files → AreDistinctBy arrival_of files
    → list_any (λ b. arrival_of b == m) (left_after gone files) ≡ (list_any (λ b. arrival_of b == m) files && not (list_any (λ n. has_arrival m (active_of n files)) gone))
arrivals_left m [] files ascends distinct = ap (list_any (λ b. arrival_of b == m)) (left_after-nil files) ∙ sym (beside_true (list_any (λ b. arrival_of b == m) files))
arrivals_left m (n ∷ ns) files ascends distinct =
    let test : ActiveFile → Bool = λ b. not (active_number b == n) in
    ap (list_any (λ b. arrival_of b == m)) (left_after-cons n ns files)
    ∙ arrivals_left m ns (without_item active_number n files) (ascends-filter active_number test files ascends) (distinct-filter arrival_of test files distinct)
    ∙ ap (λ b. b && not (list_any (λ k. has_arrival m (active_of k (without_item active_number n files))) ns)) (arrivals_without m n files ascends distinct)
    ∙ taken_out (list_any (λ b. arrival_of b == m) files) (has_arrival m (active_of n files)) (list_any (λ k. has_arrival m (active_of k files)) ns)
    (list_any (λ k. has_arrival m (active_of k (without_item active_number n files))) ns) (others_found m n files ns)
