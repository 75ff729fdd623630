-- Places that are added each once, and the marks of those that were.
use Rattle.std.proofs.Common.{◌≡◌, ℕ, ◌+◌, ◌<◌, ◌≤◌, ◌==◌, ◌&&◌, ◌||◌, Bool, true, false, not, cond, List, [], ◌∷◌, ◌++◌, length, get_or, set, drop, replicate, filter, slice_index, refl, sym, ◌∙◌, ap, subst, arith, append_assoc, get_or-set_same, get_or-set_other}
use Rattle.std.specs.List.{All, flat_map}
use Rattle.std.proofs.lemmas.Bool.Decides.{nat_tests}
use Rattle.std.proofs.lemmas.List.{append-nil, at_drop_more, get_or-replicate, length-replicate, length-set}
use Rattle.std.proofs.lemmas.List.Elements.{filter-append, All-push, All-nil}
use Rattle.process_session.specs.Finish.{places_once, standing_for}
use Rattle.process_session.specs.Finishing.{lists_place, with_once, with_each, stand_at, IsMarked, AreMarkedBelow, AreMarkedUpto}

abbrev others : ℕ → ℕ → Bool
others place other = not (other == place)

or_assoc : (a b c : Bool) → ((a || b) || c) ≡ (a || (b || c))
or_assoc true b c = refl
or_assoc false b c = refl

and_false : (b : Bool) → (b && false) ≡ false
and_false true = refl
and_false false = refl

pub has-append : (xs ys : List ℕ) (place : ℕ) → lists_place (xs ++ ys) place ≡ (lists_place xs place || lists_place ys place)
has-append [] ys place = refl
has-append (x ∷ xs) ys place = ap (λ b. (x == place) || b) (has-append xs ys place) ∙ sym (or_assoc (x == place) (lists_place xs place) (lists_place ys place))

has_kept : (x y z : ℕ) (rest : List ℕ) (h : Bool) → lists_place rest y ≡ (not (y == x) && h) → lists_place (cond (not (z == x)) (z ∷ rest) rest) y ≡ (not (y == x) && ((z == y) || h))
has_kept x y z rest h e = grind (arith, nat_tests)

has-filter : (xs : List ℕ) (x y : ℕ) → lists_place (filter (others x) xs) y ≡ (not (y == x) && lists_place xs y)
has-filter [] x y = sym (and_false (not (y == x)))
has-filter (z ∷ zs) x y = has_kept x y z (filter (others x) zs) (lists_place zs y) (has-filter zs x y)

either : (x y : ℕ) (b : Bool) → ((x == y) || (not (y == x) && b)) ≡ ((y == x) || b)
either x y b = grind (arith, nat_tests)

filter-added : (b c : Bool) (x y : ℕ) (e : List ℕ) → (y == x) ≡ c → ◌≡◌ {A = List ℕ} (x ∷ filter (others x) (cond b e (e ++ y ∷ []))) (cond (c || b) (x ∷ filter (others x) e) (x ∷ (filter (others x) e ++ y ∷ [])))
filter-added true true x y e q = refl
filter-added true false x y e q = refl
filter-added false true x y e q = ap (λ (l : List ℕ). x ∷ l) (filter-append (others x) e (y ∷ []) ∙ ap (λ t. filter (others x) e ++ cond (not t) (y ∷ []) []) q ∙ append-nil (filter (others x) e))
filter-added false false x y e q = ap (λ (l : List ℕ). x ∷ l) (filter-append (others x) e (y ∷ []) ∙ ap (λ t. filter (others x) e ++ cond (not t) (y ∷ []) []) q)

filter-once : (x y : ℕ) (e : List ℕ) → ◌≡◌ {A = List ℕ} (x ∷ filter (others x) (with_once e y)) (with_once (x ∷ filter (others x) e) y)
filter-once x y e =
    let tests : ((x == y) || lists_place (filter (others x) e) y) ≡ ((y == x) || lists_place e y) = ap (λ b. (x == y) || b) (has-filter e x y) ∙ either x y (lists_place e y) in
    filter-added (lists_place e y) (y == x) x y e refl ∙ ap (λ t. cond t (x ∷ filter (others x) e) (x ∷ (filter (others x) e ++ y ∷ []))) (sym tests)

-- one more place at the end
pub each_once-push : (xs : List ℕ) (y : ℕ) → places_once (xs ++ y ∷ []) ≡ with_once (places_once xs) y
each_once-push [] y = refl
each_once-push (x ∷ xs) y = ap (λ (l : List ℕ). x ∷ filter (others x) l) (each_once-push xs y) ∙ filter-once x y (places_once xs)

pub each_once-append : (xs ys : List ℕ) → places_once (xs ++ ys) ≡ with_each (places_once xs) ys
each_once-append xs [] = ap places_once (append-nil xs)
each_once-append xs (y ∷ ys) = ap places_once (sym (append_assoc xs (y ∷ []) ys)) ∙ each_once-append (xs ++ y ∷ []) ys ∙ ap (λ l. with_each l ys) (each_once-push xs y)

-- places that are added one by one, each once
pub with_each_once : (ys : List ℕ) → with_each [] ys ≡ places_once ys
with_each_once ys = sym (each_once-append [] ys)

pub with_each-append : (left xs ys : List ℕ) → with_each left (xs ++ ys) ≡ with_each (with_each left xs) ys
with_each-append left [] ys = refl
with_each-append left (x ∷ xs) ys = with_each-append (with_once left x) xs ys

pub parent_step : (f : ℕ → List ℕ) (left left' parents : List ℕ) (i parent : ℕ) → i < length parents → parent ≡ get_or parents i 0 → left' ≡ with_each left (f parent) → with_each left' (flat_map f (drop (i + 1) parents)) ≡ with_each left (flat_map f (drop i parents))
parent_step f left left' parents i parent within is added =
    let rest = flat_map f (drop (i + 1) parents) in
    let more : with_each left (flat_map f (drop i parents)) ≡ with_each left (f (get_or parents i 0) ++ rest) = at_drop_more (λ ps. with_each left (flat_map f ps)) parents i 0 within in
    ap (λ l. with_each l rest) (added ∙ ap (λ p. with_each left (f p)) is) ∙ sym (with_each-append left (f (get_or parents i 0)) rest) ∙ sym more

pub standing_for-is : (stand : List (List ℕ)) (places left : List ℕ) → left ≡ with_each [] (flat_map (stand_at stand) places) → left ≡ standing_for stand places
standing_for-is stand places left e = e ∙ with_each_once (flat_map (stand_at stand) places)

-- a new round
pub none_marked : (met : List ℕ) (round : ℕ) → AreMarkedBelow met round → IsMarked met round []
unfolding AreMarkedBelow
none_marked met round below = record {
  marked = λ place within. let less = below place within in grind (arith, nat_tests);
  upto = λ place within. let less = below place within in omega arith;
  inside = All-nil _;
}

pub upto_marked : (met left : List ℕ) (round : ℕ) → IsMarked met round left → AreMarkedUpto met round
unfolding AreMarkedUpto
upto_marked met left round is = is.upto

pub upto_below : (met : List ℕ) (round : ℕ) → AreMarkedBelow met round → AreMarkedUpto met round
unfolding AreMarkedUpto AreMarkedBelow
upto_below met round below = λ place within. let less = below place within in omega arith

pub no_marks : (places : ℕ) → AreMarkedUpto (replicate places 0) 0
unfolding AreMarkedUpto
no_marks places = λ place within. let same = length-replicate {A = ℕ} places 0 in omega (arith, get_or-replicate {A = ℕ} places place 0 0 (omega arith))

pub below_next : (met : List ℕ) (round next : ℕ) → next ≡ round + 1 → AreMarkedUpto met round → AreMarkedBelow met next
unfolding AreMarkedUpto AreMarkedBelow
below_next met round next is upto = λ place within. let most = upto place within in omega arith

mark_is : (met left : List ℕ) (round place other : ℕ) → place < length met → (slice_index met other == round) ≡ lists_place left other → (slice_index (set met place round) other == round) ≡ (lists_place left other || ((place == other) || false))
mark_is met left round place other within was = grind (arith, nat_tests, get_or-set_same, get_or-set_other)

mark_upto : (met : List ℕ) (round place other : ℕ) → place < length met → slice_index met other ≤ round → slice_index (set met place round) other ≤ round
mark_upto met round place other within was = grind (arith, nat_tests, get_or-set_same, get_or-set_other)

-- one more place is marked
pub marked_more : (met left : List ℕ) (round place : ℕ) → place < length met → IsMarked met round left → IsMarked (set met place round) round (left ++ place ∷ [])
marked_more met left round place within is =
    let same : length (set met place round) ≡ length met = length-set met place round in
    record {
      marked = λ other inside. mark_is met left round place other within (is.marked other (subst (λ n. other < n) same inside)) ∙ sym (has-append left (place ∷ []) other);
      upto = λ other inside. mark_upto met round place other within (is.upto other (subst (λ n. other < n) same inside));
      inside = subst (λ n. All (λ other. other < n) (left ++ place ∷ [])) (sym same) (All-push (λ other. other < length met) left place is.inside within);
    }
