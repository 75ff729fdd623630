-- Lists that are put into order by a key: what doesn't depend on the order of a list is the same of them.
use Rattle.std.proofs.Common.{◌≡◌, ℕ, ◌<◌, ◌≤◌, Bool, true, false, cond, List, [], ◌∷◌, ◌++◌, map, refl, sym, ap, subst, ◌∙◌, inl, inr, arith}
use Rattle.std.specs.Prelude.{◌&&◌, All, fold, nat_lt}
use Rattle.std.specs.List.{list_all}
use Rattle.std.specs.List.Sorted.{IsPermutation}
use Rattle.std.proofs.lemmas.Bool.{cases_lt, le-leb, lt-leb}
use Rattle.std.proofs.lemmas.List.{append-nil}
use Rattle.std.proofs.lemmas.List.Elements.{All-nil, All-head, All-tail}
use Rattle.std.proofs.lemmas.List.Sorted.{IsPermutation-refl, IsPermutation-sym, IsPermutation-trans, IsPermutation-cons, IsPermutation-middle, IsPermutation-append_right}
use Rattle.flowfile_record.specs.NumberedItems.{with_item}
use Rattle.kept_state.proofs.Items.{All-with}
use Rattle.machine_model.specs.Events.{put_ascending, ascending}
use Rattle.store_core.proofs.ByKey.{put}

module _ {A : Type 0} (key : A → ℕ) where
  -- the elements by their keys
  abbrev pub arranged : List A → List A
  arranged xs = fold (put key) [] xs

  -- ---- the same elements

  put_permutes : (x : A) (zs : List A) → IsPermutation (x ∷ zs) (with_item key x zs)
  put_permutes x [] = IsPermutation-refl (x ∷ [])
  put_permutes x (z ∷ zs) =
      elim (nat_lt (key z) (key x)) as (λ b. IsPermutation (x ∷ z ∷ zs) (cond b (z ∷ with_item key x zs) (x ∷ z ∷ zs))) [
        | true ↦ IsPermutation-trans _ _ _ (IsPermutation-middle (x ∷ []) z zs) (IsPermutation-cons z (x ∷ zs) (with_item key x zs) (put_permutes x zs))
        | false ↦ IsPermutation-refl (x ∷ z ∷ zs)
      ]

  fold_permutes : (xs zs : List A) → IsPermutation (xs ++ zs) (fold (put key) zs xs)
  fold_permutes [] zs = IsPermutation-refl zs
  fold_permutes (x ∷ xs) zs =
      IsPermutation-trans _ _ _ (IsPermutation-sym _ _ (IsPermutation-middle xs x zs))
      (IsPermutation-trans _ _ _ (IsPermutation-append_right xs (x ∷ zs) (with_item key x zs) (put_permutes x zs)) (fold_permutes xs (with_item key x zs)))

  pub arranged-permutes : (xs : List A) → IsPermutation xs (arranged xs)
  arranged-permutes xs = subst (λ (l : List A). IsPermutation l (arranged xs)) (append-nil xs) (fold_permutes xs [])

  -- ---- what is told of each element in turn, where two may be told in either order

  module _ {B : Type 0} (g : List A → B) (tell : A → B → B) (next : (x : A) (xs : List A) → g (x ∷ xs) ≡ tell x (g xs))
      (either : (x y : A) (b : B) → tell x (tell y b) ≡ tell y (tell x b)) where
    put_tells : (x : A) (zs : List A) → g (with_item key x zs) ≡ tell x (g zs)
    put_tells x [] = next x []
    put_tells x (z ∷ zs) =
        elim (nat_lt (key z) (key x)) as (λ b. g (cond b (z ∷ with_item key x zs) (x ∷ z ∷ zs)) ≡ tell x (g (z ∷ zs))) [
          | true ↦ next z (with_item key x zs) ∙ ap (tell z) (put_tells x zs) ∙ either z x (g zs) ∙ ap (tell x) (sym (next z zs))
          | false ↦ next x (z ∷ zs)
        ]

    all_told : List A → B → B
    all_told [] b = b
    all_told (x ∷ xs) b = tell x (all_told xs b)

    told_first : (x : A) (xs : List A) (b : B) → all_told xs (tell x b) ≡ tell x (all_told xs b)
    unfolding all_told
    told_first x [] b = refl
    told_first x (y ∷ xs) b = ap (tell y) (told_first x xs b) ∙ either y x (all_told xs b)

    told_is : (xs : List A) → all_told xs (g []) ≡ g xs
    unfolding all_told
    told_is [] = refl
    told_is (x ∷ xs) = ap (tell x) (told_is xs) ∙ sym (next x xs)

    fold_tells : (xs zs : List A) → g (fold (put key) zs xs) ≡ all_told xs (g zs)
    unfolding all_told
    fold_tells [] zs = refl
    fold_tells (x ∷ xs) zs = fold_tells xs (with_item key x zs) ∙ ap (all_told xs) (put_tells x zs) ∙ told_first x xs (g zs)

    pub arranged-tells : (xs : List A) → g (arranged xs) ≡ g xs
    arranged-tells xs = fold_tells xs [] ∙ told_is xs

  -- ---- a test of all

  and_either : (a b c : Bool) → (a && (b && c)) ≡ (b && (a && c))
  and_either true b c = refl
  and_either false true c = refl
  and_either false false c = refl

  pub arranged-all : (p : A → Bool) (xs : List A) → list_all p (arranged xs) ≡ list_all p xs
  arranged-all p xs = arranged-tells (list_all p) (λ x b. p x && b) (λ x xs. refl) (λ x y b. and_either (p x) (p y) b) xs

  -- ---- ascending numbers

  put_past : (n m : ℕ) (rest : List ℕ) → m < n → put_ascending n (m ∷ rest) ≡ m ∷ put_ascending n rest
  put_past n m rest lt = ap (λ (b : Bool). cond b (n ∷ m ∷ rest) (m ∷ put_ascending n rest)) (lt-leb n m lt)

  put_here : (n m : ℕ) (rest : List ℕ) → n ≤ m → put_ascending n (m ∷ rest) ≡ n ∷ m ∷ rest
  put_here n m rest le = ap (λ (b : Bool). cond b (n ∷ m ∷ rest) (m ∷ put_ascending n rest)) (le-leb n m le)

  lower_first : (m n : ℕ) (xs : List ℕ) → m < n → put_ascending m (put_ascending n xs) ≡ put_ascending n (put_ascending m xs)
  lower_first m n [] lt = put_here m n [] (omega arith) ∙ sym (put_past n m [] lt)
  lower_first m n (k ∷ xs) lt = elim (cases_lt k n) [
    | inl kn ↦ elim (cases_lt k m) [
      | inl km ↦
          ap (put_ascending m) (put_past n k xs kn) ∙ put_past m k (put_ascending n xs) km ∙ ap (λ (l : List ℕ). k ∷ l) (lower_first m n xs lt)
          ∙ sym (ap (put_ascending n) (put_past m k xs km) ∙ put_past n k (put_ascending m xs) kn)
      | inr mk ↦
          ap (put_ascending m) (put_past n k xs kn) ∙ put_here m k (put_ascending n xs) mk
          ∙ sym (ap (put_ascending n) (put_here m k xs mk) ∙ put_past n m (k ∷ xs) lt ∙ ap (λ (l : List ℕ). m ∷ l) (put_past n k xs kn))
    ]
    | inr nk ↦
        let mk : m ≤ k = omega arith in
        ap (put_ascending m) (put_here n k xs nk) ∙ put_here m n (k ∷ xs) (omega arith)
        ∙ sym (ap (put_ascending n) (put_here m k xs mk) ∙ put_past n m (k ∷ xs) lt ∙ ap (λ (l : List ℕ). m ∷ l) (put_here n k xs nk))
  ]

  either_first : (m n : ℕ) (xs : List ℕ) → put_ascending m (put_ascending n xs) ≡ put_ascending n (put_ascending m xs)
  either_first m n xs = elim (cases_lt m n) [
    | inl lt ↦ lower_first m n xs lt
    | inr le ↦ elim (cases_lt n m) [
      | inl lt ↦ sym (lower_first n m xs lt)
      | inr ge ↦ let same : m ≡ n = omega arith in λ i. put_ascending (same i) (put_ascending (sym same i) xs)
    ]
  ]

  pub arranged-ascending : (number : A → ℕ) (xs : List A) → ascending (map number (arranged xs)) ≡ ascending (map number xs)
  arranged-ascending number xs =
      arranged-tells (λ xs. ascending (map number xs)) (λ x numbers. put_ascending (number x) numbers) (λ x xs. refl)
      (λ x y numbers. either_first (number x) (number y) numbers) xs

  -- ---- of each element

  fold_all : (P : A → Type 0) (xs zs : List A) → All P xs → All P zs → All P (fold (put key) zs xs)
  fold_all P [] zs all rest = rest
  fold_all P (x ∷ xs) zs all rest = fold_all P xs (with_item key x zs) (All-tail P x xs all) (All-with key P x zs (All-head P x xs all) rest)

  pub arranged-each : (P : A → Type 0) (xs : List A) → All P xs → All P (arranged xs)
  arranged-each P xs all = fold_all P xs [] all (All-nil P)
