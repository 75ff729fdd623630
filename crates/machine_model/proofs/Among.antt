-- What stands in a list, by recursion on the list.
use Rattle.std.proofs.Common.{◌≡◌, ◌⊎◌, inl, inr, ℕ, Bool, true, false, cond, List, [], ◌∷◌, ◌++◌, map, refl, sym, ap, subst, ◌∙◌, arith}
use Rattle.std.specs.Prelude.{Contains, All, filter, nat_le}
use Rattle.std.specs.List.{flat_map}
use Rattle.std.proofs.lemmas.List.Elements.{All-head, All-tail}
use Rattle.machine_model.specs.Events.{put_ascending, ascending}
use Rattle.machine_model.proofs.Ordered.{contains_later, contains_apart}
use Rattle.machine_model.proofs.Tally.{Each}

abbrev pub Among : {X : Type 0} → X → List X → Type 0
Among x [] = ⊥
Among x (y ∷ ys) = (y ≡ x) ⊎ Among x ys

pub contains_among : {X : Type 0} (x : X) (xs : List X) → Among x xs → Contains xs x
contains_among x [] h = absurd h
contains_among x (y ∷ xs) (inl is) = (0, omega arith, is)
contains_among x (y ∷ xs) (inr h) = contains_later x y xs (contains_among x xs h)

pub among_contained : {X : Type 0} (x : X) (xs : List X) → Contains xs x → Among x xs
among_contained x [] h = absurd (omega (arith, h.1))
among_contained x (y ∷ xs) h = contains_apart (Among x (y ∷ xs)) y x xs h (λ is. inl is) (λ later. inr (among_contained x xs later))

pub each_among : {X : Type 0} (P : X → Type 0) (x : X) (xs : List X) → Each P xs → Among x xs → P x
each_among P x [] all h = absurd h
each_among P x (y ∷ xs) all (inl is) = subst P is all.0
each_among P x (y ∷ xs) all (inr h) = each_among P x xs all.1 h

pub all_among : {X : Type 0} (P : X → Type 0) (x : X) (xs : List X) → All P xs → Among x xs → P x
all_among P x [] all h = absurd h
all_among P x (y ∷ xs) all (inl is) = subst P is (All-head P y xs all)
all_among P x (y ∷ xs) all (inr h) = all_among P x xs (All-tail P y xs all) h

pub among_left : {X : Type 0} (x : X) (xs ys : List X) → Among x xs → Among x (xs ++ ys)
among_left x [] ys h = absurd h
among_left x (y ∷ xs) ys (inl is) = inl is
among_left x (y ∷ xs) ys (inr h) = inr (among_left x xs ys h)

pub among_right : {X : Type 0} (x : X) (xs ys : List X) → Among x ys → Among x (xs ++ ys)
among_right x [] ys h = h
among_right x (y ∷ xs) ys h = inr (among_right x xs ys h)

pub among_either : {X : Type 0} (x : X) (xs ys : List X) → Among x (xs ++ ys) → Among x xs ⊎ Among x ys
among_either x [] ys h = inr h
among_either x (y ∷ xs) ys (inl is) = inl (inl is)
among_either x (y ∷ xs) ys (inr h) = elim (among_either x xs ys h) [ inl left ↦ inl (inr left) | inr right ↦ inr right ]

-- ---- what is made of elements

pub record ComesFrom {X Y : Type 0} (g : X → List Y) (xs : List X) (y : Y) : Type 0 where
  pub source : X
  pub there : Among source xs
  pub made : Among y (g source)

pub comes_from : {X Y : Type 0} (g : X → List Y) (xs : List X) (y : Y) → Among y (flat_map g xs) → ComesFrom g xs y
comes_from g [] y h = absurd h
comes_from g (x ∷ xs) y h =
    elim (among_either y (g x) (flat_map g xs) h) [
      | inl here ↦ record { source = x; there = inl refl; made = here }
      | inr later ↦ let rest = comes_from g xs y later in record { source = rest.source; there = inr rest.there; made = rest.made }
    ]

pub goes_to : {X Y : Type 0} (g : X → List Y) (xs : List X) (x : X) (y : Y) → Among x xs → Among y (g x) → Among y (flat_map g xs)
goes_to g [] x y h k = absurd h
goes_to g (z ∷ xs) x y (inl is) k = among_left y (g z) (flat_map g xs) (subst (λ w. Among y (g w)) (sym is) k)
goes_to g (z ∷ xs) x y (inr h) k = among_right y (g z) (flat_map g xs) (goes_to g xs x y h k)

pub record IsMade {X Y : Type 0} (g : X → Y) (xs : List X) (y : Y) : Type 0 where
  pub source : X
  pub there : Among source xs
  pub is : g source ≡ y

pub is_made : {X Y : Type 0} (g : X → Y) (xs : List X) (y : Y) → Among y (map g xs) → IsMade g xs y
is_made g [] y h = absurd h
is_made g (x ∷ xs) y (inl is) = record { source = x; there = inl refl; is = is }
is_made g (x ∷ xs) y (inr h) = let rest = is_made g xs y h in record { source = rest.source; there = inr rest.there; is = rest.is }

pub makes : {X Y : Type 0} (g : X → Y) (xs : List X) (x : X) → Among x xs → Among (g x) (map g xs)
makes g [] x h = absurd h
makes g (z ∷ xs) x (inl is) = inl (ap g is)
makes g (z ∷ xs) x (inr h) = inr (makes g xs x h)

-- ---- filters and order

first_kept : {X : Type 0} (p : X → Bool) (y x : X) (xs : List X) → p y ≡ true → (Among x (filter p xs) → Among x xs × (p x ≡ true)) → Among x (y ∷ filter p xs) → Among x (y ∷ xs) × (p x ≡ true)
first_kept p y x xs is later (inl same) = (inl same, ap p (sym same) ∙ is)
first_kept p y x xs is later (inr h) = let rest = later h in (inr rest.0, rest.1)

pub kept_by : {X : Type 0} (p : X → Bool) (xs : List X) (x : X) → Among x (filter p xs) → Among x xs × (p x ≡ true)
kept_by p [] x h = absurd h
kept_by p (y ∷ xs) x h =
    elim (p y) as (λ b. p y ≡ b → Among x (cond b (y ∷ filter p xs) (filter p xs)) → Among x (y ∷ xs) × (p x ≡ true)) [
      | true ↦ λ is h. first_kept p y x xs is (λ h. kept_by p xs x h) h
      | false ↦ λ is h. let rest = kept_by p xs x h in (inr rest.0, rest.1)
    ] refl h

pub keeps : {X : Type 0} (p : X → Bool) (xs : List X) (x : X) → Among x xs → p x ≡ true → Among x (filter p xs)
keeps p [] x h passes = absurd h
keeps p (y ∷ xs) x (inl same) passes = let here : p y ≡ true = ap p same ∙ passes in rw here (inl same)
keeps p (y ∷ xs) x (inr h) passes =
    let rest = keeps p xs x h passes in
    elim (p y) as (λ b. Among x (cond b (y ∷ filter p xs) (filter p xs))) [ true ↦ inr rest | false ↦ rest ]

put_behind : (n m x : ℕ) (xs ys : List ℕ) → (Among x (n ∷ xs) → Among x ys) → Among x (n ∷ m ∷ xs) → Among x (m ∷ ys)
put_behind n m x xs ys put (inl is) = inr (put (inl is))
put_behind n m x xs ys put (inr (inl is)) = inl is
put_behind n m x xs ys put (inr (inr h)) = inr (put (inr h))

put_has : (n x : ℕ) (xs : List ℕ) → Among x (n ∷ xs) → Among x (put_ascending n xs)
put_has n x [] h = h
put_has n x (m ∷ xs) h =
    elim (nat_le n m) as (λ b. Among x (cond b (n ∷ m ∷ xs) (m ∷ put_ascending n xs))) [ true ↦ h | false ↦ put_behind n m x xs (put_ascending n xs) (λ h. put_has n x xs h) h ]

one_further : (n m x : ℕ) (xs : List ℕ) → Among x (n ∷ xs) → Among x (n ∷ m ∷ xs)
one_further n m x xs (inl is) = inl is
one_further n m x xs (inr h) = inr (inr h)

put_before : (n m x : ℕ) (xs ys : List ℕ) → (Among x ys → Among x (n ∷ xs)) → Among x (m ∷ ys) → Among x (n ∷ m ∷ xs)
put_before n m x xs ys was (inl is) = inr (inl is)
put_before n m x xs ys was (inr h) = one_further n m x xs (was h)

put_had : (n x : ℕ) (xs : List ℕ) → Among x (put_ascending n xs) → Among x (n ∷ xs)
put_had n x [] h = h
put_had n x (m ∷ xs) h =
    elim (nat_le n m) as (λ b. Among x (cond b (n ∷ m ∷ xs) (m ∷ put_ascending n xs)) → Among x (n ∷ m ∷ xs)) [
      | true ↦ λ h. h
      | false ↦ λ h. put_before n m x xs (put_ascending n xs) (λ h. put_had n x xs h) h
    ] h

pub ascending-has : (x : ℕ) (xs : List ℕ) → Among x xs → Among x (ascending xs)
ascending-has x [] h = h
ascending-has x (n ∷ xs) (inl is) = put_has n x (ascending xs) (inl is)
ascending-has x (n ∷ xs) (inr h) = put_has n x (ascending xs) (inr (ascending-has x xs h))

behind_first : (n x : ℕ) (xs ys : List ℕ) → (Among x ys → Among x xs) → Among x (n ∷ ys) → Among x (n ∷ xs)
behind_first n x xs ys later (inl is) = inl is
behind_first n x xs ys later (inr h) = inr (later h)

pub ascending-had : (x : ℕ) (xs : List ℕ) → Among x (ascending xs) → Among x xs
ascending-had x [] h = h
ascending-had x (n ∷ xs) h = behind_first n x xs (ascending xs) (λ h. ascending-had x xs h) (put_had n x (ascending xs) h)
