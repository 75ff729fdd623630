-- What is found among the items of a list, and where those stand.
use Rattle.std.proofs.Common.{◌≡◌, ℕ, zero, suc, ◌+◌, ◌||◌, Bool, true, false, cond, List, [], ◌∷◌, ◌++◌, take, drop, inl, inr, refl, ap, subst, ◌∙◌, arith}
use Rattle.std.specs.Prelude.{All, Option, Some, None, find, filter, slice_get}
use Rattle.std.proofs.lemmas.List.Elements.{All-head, All-tail}
use Rattle.machine_model.proofs.Among.{Among}
use Rattle.std.specs.List.{cons_option, filter_map, enumerate_from, list_any}

-- each item of a list
abbrev pub Each : {X : Type 0} → (X → Type 0) → List X → Type 0
Each P [] = Unit {0}
Each P (x ∷ xs) = P x × Each P xs

pub each-append : {X : Type 0} (P : X → Type 0) (xs ys : List X) → Each P xs → Each P ys → Each P (xs ++ ys)
each-append P [] ys each later = later
each-append P (x ∷ xs) ys each later = (each.0, each-append P xs ys each.1 later)

pub each-take : {X : Type 0} (P : X → Type 0) (n : ℕ) (xs : List X) → Each P xs → Each P (take n xs)
each-take P zero xs each = tt
each-take P (suc n) [] each = tt
each-take P (suc n) (x ∷ xs) each = (each.0, each-take P n xs each.1)

pub each-drop : {X : Type 0} (P : X → Type 0) (n : ℕ) (xs : List X) → Each P xs → Each P (drop n xs)
each-drop P zero xs each = each
each-drop P (suc n) [] each = tt
each-drop P (suc n) (x ∷ xs) each = each-drop P n xs each.1

pub each-weaker : {X : Type 0} (P Q : X → Type 0) → ((x : X) → P x → Q x) → (xs : List X) → Each P xs → Each Q xs
each-weaker P Q weaker [] each = tt
each-weaker P Q weaker (x ∷ xs) each = (weaker x each.0, each-weaker P Q weaker xs each.1)

pub each-of : {X : Type 0} (P : X → Type 0) (xs : List X) → All P xs → Each P xs
each-of P [] all = tt
each-of P (x ∷ xs) all = (All-head P x xs all, each-of P xs (All-tail P x xs all))

pub each-among : {X : Type 0} (P : X → Type 0) (x : X) (xs : List X) → Each P xs → Among x xs → P x
each-among P x [] each h = absurd h
each-among P x (y ∷ xs) each (inl is) = subst P is each.0
each-among P x (y ∷ xs) each (inr h) = each-among P x xs each.1 h

-- those that pass a test
pub each-passed : {X : Type 0} (P : X → Type 0) (test : X → Bool) (xs : List X) → Each P xs → Each (λ x. P x × (test x ≡ true)) (filter test xs)
each-passed P test [] each = tt
each-passed P test (x ∷ xs) each = by_test (test x) refl (each-passed P test xs each.1)
  where
    by_test : (b : Bool) → test x ≡ b → Each (λ y. P y × (test y ≡ true)) (filter test xs) → Each (λ y. P y × (test y ≡ true)) (cond b (x ∷ filter test xs) (filter test xs))
    by_test true holds rest = ((each.0, holds), rest)
    by_test false fails rest = rest

-- the first that passes is one of them
pub found : {X : Type 0} (P : X → Type 0) (test : X → Bool) (xs : List X) (x : X) → Each P xs → find test xs ≡ Some x → P x × (test x ≡ true)
found P test [] x each is = cc
found {X} P test (y ∷ xs) x each is = by_test (test y) refl is (λ later. found P test xs x each.1 later)
  where
    by_test : (b : Bool) → test y ≡ b → cond b (Some y) (find test xs) ≡ Some x → (find test xs ≡ Some x → P x × (test x ≡ true)) → P x × (test x ≡ true)
    by_test true holds is rest = let same : y ≡ x = cc in let Q : X → Type 0 = λ z. P z × (test z ≡ true) in subst Q same (each.0, holds)
    by_test false fails is rest = rest is

-- the first that gives anything is one of them
pub record GivenBy {X Y : Type 0} (P : X → Type 0) (gives : X → Option Y) (y : Y) : Type 0 where
  pub item : X
  pub stands : P item
  pub is_given : gives item ≡ Some y

pub given-by : {X Y : Type 0} (P : X → Type 0) (gives : X → Option Y) (xs : List X) (y : Y) → Each P xs → slice_get (filter_map gives xs) 0 ≡ Some y → GivenBy P gives y
given-by P gives [] y each is = cc
given-by {X} {Y} P gives (x ∷ xs) y each is = by_given (gives x) refl is (λ later. given-by P gives xs y each.1 later)
  where
    by_given : (o : Option Y) → gives x ≡ o → slice_get (cons_option o (filter_map gives xs)) 0 ≡ Some y → (slice_get (filter_map gives xs) 0 ≡ Some y → GivenBy P gives y) → GivenBy P gives y
    by_given None e is rest = rest is
    by_given (Some z) e is rest = record { item = x; stands = each.0; is_given = e ∙ is }

-- ---- items by their places

-- an item stands at its place in a list
abbrev pub Stands : {X : Type 0} → List X → ℕ × X → Type 0
Stands all (place, x) = slice_get all place ≡ Some x

each-stands-from : {X : Type 0} (all : List X) (from : ℕ) (xs : List X) → ((k : ℕ) → slice_get all (from + k) ≡ slice_get xs k) → Each (Stands all) (enumerate_from from xs)
each-stands-from all from [] same = tt
each-stands-from {X} all from (x ∷ xs) same =
    let here : from ≡ from + 0 = omega arith in
    (ap (slice_get all) here ∙ same 0, each-stands-from all (from + 1) xs later)
  where
    later : (k : ℕ) → slice_get all (from + 1 + k) ≡ slice_get xs k
    later k = let moved : from + 1 + k ≡ from + suc k = omega arith in ap (slice_get all) moved ∙ same (suc k)

pub each-stands : {X : Type 0} (xs : List X) → Each (Stands xs) (enumerate_from 0 xs)
each-stands xs = each-stands-from xs 0 xs (λ k. let same : 0 + k ≡ k = omega arith in ap (slice_get xs) same)

-- ---- tests

pub any-append : {X : Type 0} (test : X → Bool) (xs ys : List X) → list_any test (xs ++ ys) ≡ (list_any test xs || list_any test ys)
any-append test [] ys = refl
any-append test (x ∷ xs) ys = ap (λ b. test x || b) (any-append test xs ys) ∙ or-assoc (test x) (list_any test xs) (list_any test ys)
  where
    or-assoc : (a b c : Bool) → (a || (b || c)) ≡ ((a || b) || c)
    or-assoc true b c = refl
    or-assoc false b c = refl

pub none-found-any : {X : Type 0} (test : X → Bool) (xs : List X) → find test xs ≡ None → list_any test xs ≡ false
none-found-any test [] is = refl
none-found-any test (x ∷ xs) is = by_test (test x) is (λ later. none-found-any test xs later)
  where
    by_test : (b : Bool) → cond b (Some x) (find test xs) ≡ None → (find test xs ≡ None → list_any test xs ≡ false) → (b || list_any test xs) ≡ false
    by_test true is rest = cc
    by_test false is rest = rest is
