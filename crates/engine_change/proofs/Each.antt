-- What each of a list has, by recursion on the list.
use Rattle.std.proofs.Common.{◌≡◌, ℕ, zero, suc, ◌+◌, ◌*◌, ◌<◌, ◌≤◌, Bool, true, false, cond, List, [], ◌∷◌, length, length-append, map, subst, arith}
use Rattle.std.specs.Prelude.{All, Some, None, filter, slice_get, unwrap_or, zip}
use Rattle.std.specs.List.{enumerate_from, flat_map, list_all, range_with_len}
use Rattle.std.specs.Option.{option_map_or}
use Rattle.std.proofs.lemmas.Bool.{and_parts}
use Rattle.std.proofs.lemmas.List.Elements.{All-nil, All-cons, All-head, All-tail}
use Rattle.machine_model.proofs.Tally.{Each, each-append}

pub each_from_all : {X : Type 0} (P : X → Type 0) (xs : List X) → All P xs → Each P xs
each_from_all P [] all = tt
each_from_all P (x ∷ xs) all = (All-head P x xs all, each_from_all P xs (All-tail P x xs all))

pub all_from_each : {X : Type 0} (P : X → Type 0) (xs : List X) → Each P xs → All P xs
all_from_each P [] each = All-nil P
all_from_each P (x ∷ xs) each = All-cons P x xs each.0 (all_from_each P xs each.1)

pub each_weaker : {X : Type 0} (P Q : X → Type 0) → ((x : X) → P x → Q x) → (xs : List X) → Each P xs → Each Q xs
each_weaker P Q weaker [] each = tt
each_weaker P Q weaker (x ∷ xs) each = (weaker x each.0, each_weaker P Q weaker xs each.1)

pub each_made : {X Y : Type 0} (P : X → Type 0) (Q : Y → Type 0) (g : X → Y) → ((x : X) → P x → Q (g x)) → (xs : List X) → Each P xs → Each Q (map g xs)
each_made P Q g makes [] each = tt
each_made P Q g makes (x ∷ xs) each = (makes x each.0, each_made P Q g makes xs each.1)

pub each_joined : {X Y : Type 0} (P : X → Type 0) (Q : Y → Type 0) (g : X → List Y) → ((x : X) → P x → Each Q (g x)) → (xs : List X) → Each P xs → Each Q (flat_map g xs)
each_joined P Q g makes [] each = tt
each_joined P Q g makes (x ∷ xs) each = each-append Q (g x) (flat_map g xs) (makes x each.0) (each_joined P Q g makes xs each.1)

pub each_filtered : {X : Type 0} (P : X → Type 0) (p : X → Bool) (xs : List X) → Each P xs → Each P (filter p xs)
each_filtered P p [] each = tt
each_filtered P p (x ∷ xs) each = by (p x) (each_filtered P p xs each.1)
  where
    by : (b : Bool) → Each P (filter p xs) → Each P (cond b (x ∷ filter p xs) (filter p xs))
    by true rest = (each.0, rest)
    by false rest = rest

pub each_placed : {X : Type 0} (P : X → Type 0) (from : ℕ) (xs : List X) → Each P xs → Each (λ q. P q.1) (enumerate_from from xs)
each_placed P from [] each = tt
each_placed P from (x ∷ xs) each = (each.0, each_placed P (from + 1) xs each.1)

pub each_zip : {X Y : Type 0} (P : X → Type 0) (Q : Y → Type 0) (xs : List X) (ys : List Y) → Each P xs → Each Q ys → Each (λ q. P q.0 × Q q.1) (zip xs ys)
each_zip P Q [] ys these those = tt
each_zip P Q (x ∷ xs) [] these those = tt
each_zip P Q (x ∷ xs) (y ∷ ys) these those = ((these.0, those.0), each_zip P Q xs ys these.1 those.1)

pub each_second : {X Y : Type 0} (Q : Y → Type 0) (xs : List X) (ys : List Y) → Each Q ys → Each (λ q. Q q.1) (zip xs ys)
each_second Q [] ys each = tt
each_second Q (x ∷ xs) [] each = tt
each_second Q (x ∷ xs) (y ∷ ys) each = (each.0, each_second Q xs ys each.1)

pub each_option : {X Y : Type 0} (P : X → Type 0) (Q : Y → Type 0) (g : X → List Y) → ((x : X) → P x → Each Q (g x)) → (xs : List X) → Each P xs → (place : ℕ)
    → Each Q (option_map_or g (slice_get xs place) [])
each_option P Q g makes [] each place = tt
each_option P Q g makes (x ∷ xs) each zero = makes x each.0
each_option P Q g makes (x ∷ xs) each (suc place) = each_option P Q g makes xs each.1 place

-- the one of a place, where what stands for none has it too
pub each_at : {X : Type 0} (P : X → Type 0) (none : X) → P none → (xs : List X) → Each P xs → (place : ℕ) → P (unwrap_or (slice_get xs place) none)
each_at P none is [] each place = is
each_at P none is (x ∷ xs) each zero = each.0
each_at P none is (x ∷ xs) each (suc place) = each_at P none is xs each.1 place

pub each_some : {X : Type 0} (P : X → Type 0) (xs : List X) (place : ℕ) (x : X) → Each P xs → slice_get xs place ≡ Some x → P x
each_some P [] place x each found = absurd (let none : None ≡ Some x = found in cc)
each_some P (y ∷ xs) zero x each found = let same : y ≡ x = (let some : Some y ≡ Some x = found in cc) in subst P same each.0
each_some P (y ∷ xs) (suc place) x each found = each_some P xs place x each.1 found

pub each_passes : {X : Type 0} (test : X → Bool) (xs : List X) → list_all test xs ≡ true → Each (λ x. test x ≡ true) xs
each_passes test [] all = tt
each_passes test (x ∷ xs) all = let parts = and_parts (test x) (list_all test xs) all in (parts.0, each_passes test xs parts.1)

pub each_in_row : (first count most : ℕ) → first + count ≤ most → Each (λ n. (first ≤ n) × (n < most)) (range_with_len first count)
each_in_row first zero most le = tt
each_in_row first (suc count) most le = (
  (omega arith, omega arith),
  each_weaker (λ n. (first + 1 ≤ n) × (n < most)) (λ n. (first ≤ n) × (n < most)) (λ n lt. let low = lt.0 in (omega arith, lt.1)) (range_with_len (first + 1) count) (each_in_row (first + 1) count most (omega arith)),
)

-- ---- how many there are

pub length-joined : {X Y : Type 0} (g : X → List Y) (most : ℕ) (xs : List X) → Each (λ x. length (g x) ≤ most) xs → length (flat_map g xs) ≤ length xs * most
length-joined g most [] each = omega arith
length-joined g most (x ∷ xs) each = omega (arith, length-append (g x) (flat_map g xs), each.0, length-joined g most xs each.1)

pub each_so : {X : Type 0} (P : X → Type 0) → ((x : X) → P x) → (xs : List X) → Each P xs
each_so P so [] = tt
each_so P so (x ∷ xs) = (so x, each_so P so xs)

pub length-filtered : {X : Type 0} (p : X → Bool) (xs : List X) → length (filter p xs) ≤ length xs
length-filtered p [] = omega arith
length-filtered p (x ∷ xs) = by (p x) (length-filtered p xs)
  where
    by : (b : Bool) → length (filter p xs) ≤ length xs → length (cond b (x ∷ filter p xs) (filter p xs)) ≤ suc (length xs)
    by true rest = omega (arith, rest)
    by false rest = omega (arith, rest)

pub length-zipped : {X Y : Type 0} (xs : List X) (ys : List Y) → length (zip xs ys) ≤ length ys
length-zipped [] ys = omega arith
length-zipped (x ∷ xs) [] = omega arith
length-zipped (x ∷ xs) (y ∷ ys) = omega (arith, length-zipped xs ys)
