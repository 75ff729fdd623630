-- What is among the elements of a list.
use Rattle.std.proofs.Common.{◌≡◌, ◌≢◌, ℕ, zero, suc, ◌+◌, ◌<◌, ◌==◌, ◌||◌, Bool, true, false, cond, List, [], ◌∷◌, ◌++◌, length, get_or, ◌⊎◌, inl, inr, refl, sym, ap, subst, ◌∙◌, arith}
use Rattle.std.specs.Prelude.{map, filter, Contains}
use Rattle.std.specs.List.{flat_map, list_any}
use Rattle.std.proofs.lemmas.Bool.{eq-eqb, eqb-true}

abbrev pub Among : {A : Type 0} → A → List A → Type 0
Among x [] = ⊥
Among x (y ∷ ys) = (y ≡ x) ⊎ Among x ys

pub at-place : {A : Type 0} (x : A) (xs : List A) (k : ℕ) → k < length xs → get_or xs k x ≡ x → Among x xs
at-place x [] k lt is = absurd (omega arith)
at-place x (y ∷ ys) zero lt is = inl is
at-place x (y ∷ ys) (suc k) lt is = inr (at-place x ys k (omega arith) is)

pub from-contains : {A : Type 0} (x : A) (xs : List A) → Contains xs x → Among x xs
from-contains x xs c = at-place x xs c.0 c.1 c.2

pub to-contains : {A : Type 0} (x : A) (xs : List A) → Among x xs → Contains xs x
to-contains x [] a = absurd a
to-contains x (y ∷ ys) (inl is) = (0, omega arith, is)
to-contains x (y ∷ ys) (inr a) = let c = to-contains x ys a in (suc c.0, let lt : c.0 < length ys = c.1 in omega arith, c.2)

-- ---- lists that are put together

pub on-left : {A : Type 0} (x : A) (xs ys : List A) → Among x xs → Among x (xs ++ ys)
on-left x [] ys a = absurd a
on-left x (z ∷ xs) ys (inl is) = inl is
on-left x (z ∷ xs) ys (inr a) = inr (on-left x xs ys a)

pub on-right : {A : Type 0} (x : A) (xs ys : List A) → Among x ys → Among x (xs ++ ys)
on-right x [] ys a = a
on-right x (z ∷ xs) ys a = inr (on-right x xs ys a)

pub on-either : {A : Type 0} (x : A) (xs ys : List A) → Among x (xs ++ ys) → Among x xs ⊎ Among x ys
on-either x [] ys a = inr a
on-either x (z ∷ xs) ys (inl is) = inl (inl is)
on-either x (z ∷ xs) ys (inr a) = elim (on-either x xs ys a) [ inl b ↦ inl (inr b) | inr b ↦ inr b ]

-- ---- lists that are made of others

pub in-map : {A B : Type 0} (f : A → B) (x : A) (xs : List A) → Among x xs → Among (f x) (map f xs)
in-map f x [] a = absurd a
in-map f x (y ∷ ys) (inl is) = inl (ap f is)
in-map f x (y ∷ ys) (inr a) = inr (in-map f x ys a)

pub from-map : {A B : Type 0} (f : A → B) (b : B) (xs : List A) → Among b (map f xs) → (x : A) × Among x xs × (f x ≡ b)
from-map f b [] a = absurd a
from-map f b (y ∷ ys) (inl is) = (y, inl refl, is)
from-map f b (y ∷ ys) (inr a) = let r = from-map f b ys a in (r.0, inr r.1, r.2)

pub in-flat_map : {A B : Type 0} (f : A → List B) (x : A) (b : B) (xs : List A) → Among x xs → Among b (f x) → Among b (flat_map f xs)
in-flat_map f x b [] a h = absurd a
in-flat_map {B = B} f x b (y ∷ ys) (inl is) h = on-left b (f y) (flat_map f ys) (subst (λ (l : List B). Among b l) (ap f (sym is)) h)
in-flat_map f x b (y ∷ ys) (inr a) h = on-right b (f y) (flat_map f ys) (in-flat_map f x b ys a h)

pub from-flat_map : {A B : Type 0} (f : A → List B) (b : B) (xs : List A) → Among b (flat_map f xs) → (x : A) × Among x xs × Among b (f x)
from-flat_map f b [] a = absurd a
from-flat_map f b (y ∷ ys) a =
    elim (on-either b (f y) (flat_map f ys) a) [
      | inl h ↦ (y, inl refl, h)
      | inr h ↦ let r = from-flat_map f b ys h in (r.0, inr r.1, r.2)
    ]

pub in-filter : {A : Type 0} (p : A → Bool) (x : A) (xs : List A) → Among x xs → p x ≡ true → Among x (filter p xs)
in-filter p x [] a passing = absurd a
in-filter p x (y ∷ ys) (inl is) passing =
    let first : p y ≡ true = ap p is ∙ passing in
    subst (λ (b : Bool). Among x (cond b (y ∷ filter p ys) (filter p ys))) (sym first) (inl is)
in-filter p x (y ∷ ys) (inr a) passing =
    elim (p y) as (λ b. Among x (cond b (y ∷ filter p ys) (filter p ys))) [
      | true ↦ inr (in-filter p x ys a passing)
      | false ↦ in-filter p x ys a passing
    ]

pub from-filter : {A : Type 0} (p : A → Bool) (x : A) (xs : List A) → Among x (filter p xs) → Among x xs × (p x ≡ true)
from-filter p x [] a = absurd a
from-filter p x (y ∷ ys) a =
    elim (p y) as (λ b. p y ≡ b → Among x (cond b (y ∷ filter p ys) (filter p ys)) → Among x (y ∷ ys) × (p x ≡ true)) [
      | true ↦ λ passing h. elim h [ inl is ↦ (inl is, ap p (sym is) ∙ passing) | inr b ↦ let r = from-filter p x ys b in (inr r.0, r.1) ]
      | false ↦ λ fails h. let r = from-filter p x ys h in (inr r.0, r.1)
    ] refl a

-- ---- numbers

pub in-any : (n : ℕ) (ns : List ℕ) → Among n ns → list_any (λ m. m == n) ns ≡ true
in-any n [] a = absurd a
in-any n (m ∷ ms) (inl is) = ap (λ b. b || list_any (λ m. m == n) ms) (eq-eqb m n is)
in-any n (m ∷ ms) (inr a) =
    elim (m == n) as (λ b. (b || list_any (λ m. m == n) ms) ≡ true) [ true ↦ refl | false ↦ in-any n ms a ]

pub from-any : (n : ℕ) (ns : List ℕ) → list_any (λ m. m == n) ns ≡ true → Among n ns
from-any n [] is = absurd cc
from-any n (m ∷ ms) is =
    elim (m == n) as (λ b. (m == n) ≡ b → (b || list_any (λ m. m == n) ms) ≡ true → Among n (m ∷ ms)) [
      | true ↦ λ same h. inl (eqb-true m n same)
      | false ↦ λ other h. inr (from-any n ms h)
    ] refl is

pub from-any_flipped : (n : ℕ) (ns : List ℕ) → list_any (λ m. n == m) ns ≡ true → Among n ns
from-any_flipped n [] is = absurd cc
from-any_flipped n (m ∷ ms) is =
    elim (n == m) as (λ b. (n == m) ≡ b → (b || list_any (λ m. n == m) ms) ≡ true → Among n (m ∷ ms)) [
      | true ↦ λ same h. inl (sym (eqb-true n m same))
      | false ↦ λ other h. inr (from-any_flipped n ms h)
    ] refl is
