-- That the order of a queue is a total one, and that `in_order` sorts by it.
use Rattle.std.proofs.Common.{◌≡◌, ◌≢◌, ◌⊎◌, inl, inr, ℕ, zero, suc, Bool, true, false, List, [], ◌∷◌, length, refl, sym, ap, ◌∙◌, arith}
use Rattle.std.specs.Prelude.{All, Contains, MatchOption, filter, slice_get, cond}
use Rattle.std.specs.List.{AllPairs}
use Rattle.std.specs.List.Sorted.{IsPermutation}
use Rattle.std.specs.declared.cmp.Ordering.{Ordering}
use Rattle.std.specs.declared.cmp.Ordering.TheVariants.{Less, Equal, Greater}
use Rattle.std.specs.Ordering.{is_lt, ordering_reverse}
use Rattle.std.specs.Cmp.{tied_itself}
use Rattle.std.proofs.lemmas.Bool.{true≢false, false_from_ne_true}
use Rattle.std.proofs.lemmas.List.Elements.{All-nil, All-cons, All-head, All-tail, All-weaker, All-contains, filter_passes}
use Rattle.std.proofs.lemmas.List.Kept.{AllPairs-cons}
use Rattle.std.proofs.lemmas.List.Sorted.{IsPermutation-refl, IsPermutation-sym, IsPermutation-trans, IsPermutation-cons, IsPermutation-middle, All-permutation, Contains-permutation, length_permutation}
use Rattle.prioritizer.specs.Order.{order_cmp}
use Rattle.prioritizer.specs.LawsHold.{order_cmp-total, order_cmp-ties}
use Rattle.prioritizer.specs.declared.prioritizer.Prioritizer.{Prioritizer}
use Rattle.machine_model.specs.declared.flow.QueueLimits.{QueueLimits}
use Rattle.machine_model.specs.View.{FileView}
use Rattle.machine_model.specs.Laws.{NoneGoesBeforeItself, GoingBeforeChains, ArrivalsTell, OrderKeepsFiles, OrderHolds, BestIsBest, IsBest}
use Rattle.machine_model.specs.Order.{standing_of, goes_before, put_in_order, in_order, is_eligible}

-- ---- a total order

less_from_is_lt : (o : Ordering) → is_lt o ≡ true → o ≡ Less
less_from_is_lt Less h = refl
less_from_is_lt Equal h = cc
less_from_is_lt Greater h = cc

pub goes_before-irreflexive : NoneGoesBeforeItself
goes_before-irreflexive order file = ap is_lt (tied_itself (order_cmp-total order) (standing_of file))

pub goes_before-transitive : GoingBeforeChains
goes_before-transitive order a b c h k =
    ap is_lt ((order_cmp-total order).trans (standing_of a) (standing_of b) (standing_of c) (less_from_is_lt _ h) (less_from_is_lt _ k))

told : (order : List Prioritizer) (a b : FileView) (o : Ordering) → order_cmp order (standing_of a) (standing_of b) ≡ o → a.arrival ≢ b.arrival
    → (goes_before order a b ≡ true) ⊎ (goes_before order b a ≡ true)
told order a b Less is differ = inl (ap is_lt is)
told order a b Equal is differ = absurd (differ (order_cmp-ties order (standing_of a) (standing_of b) is))
told order a b Greater is differ =
    inr (ap is_lt ((order_cmp-total order).antisymm (standing_of b) (standing_of a) ∙ ap ordering_reverse is))

pub goes_before-total : ArrivalsTell
goes_before-total order a b differ = told order a b _ refl differ

-- what doesn't go before a file doesn't go before what that file goes before
stays_behind : (order : List Prioritizer) (file a b : FileView) → goes_before order a b ≡ true → goes_before order file b ≡ false → goes_before order file a ≡ false
stays_behind order file a b h k = false_from_ne_true _ (λ t. true≢false (sym (goes_before-transitive order file a b t h) ∙ k))

pub asymmetric : (order : List Prioritizer) (a b : FileView) → goes_before order a b ≡ true → goes_before order b a ≡ false
asymmetric order a b h = stays_behind order b a b h (goes_before-irreflexive order b)

-- ---- the same files

put-permutes : (order : List Prioritizer) (file : FileView) (files : List FileView) → IsPermutation (file ∷ files) (put_in_order order file files)
put-permutes order file [] = IsPermutation-refl (file ∷ [])
put-permutes order file (other ∷ files) =
    elim (goes_before order file other) as (λ b. IsPermutation (file ∷ other ∷ files) (cond b (file ∷ other ∷ files) (other ∷ put_in_order order file files))) [
      | true ↦ IsPermutation-refl (file ∷ other ∷ files)
      | false ↦ IsPermutation-trans _ _ _ (IsPermutation-middle (file ∷ []) other files)
          (IsPermutation-cons other (file ∷ files) (put_in_order order file files) (put-permutes order file files))
    ]

pub in_order-permutes : OrderKeepsFiles
in_order-permutes order [] = IsPermutation-refl []
in_order-permutes order (file ∷ files) =
    IsPermutation-trans _ _ _ (IsPermutation-cons file files (in_order order files) (in_order-permutes order files)) (put-permutes order file (in_order order files))

-- ---- in order

abbrev pub Follows : List Prioritizer → FileView → FileView → Type 0
Follows order earlier later = goes_before order later earlier ≡ false

pub pairs_head : {X : Type 0} (R : X → X → Type 0) (x : X) (xs : List X) → AllPairs R (x ∷ xs) → All (R x) xs
pairs_head R x xs h k d l = h 0 (suc k) d (omega arith) (omega arith)

pub pairs_tail : {X : Type 0} (R : X → X → Type 0) (x : X) (xs : List X) → AllPairs R (x ∷ xs) → AllPairs R xs
pairs_tail R x xs h i j d l m = h (suc i) (suc j) d (omega arith) (omega arith)

pub pairs_nil : {X : Type 0} (R : X → X → Type 0) → AllPairs R []
pairs_nil R i j d l m = absurd (omega arith)

put-ordered : (order : List Prioritizer) (file : FileView) (files : List FileView) → AllPairs (Follows order) files → AllPairs (Follows order) (put_in_order order file files)
put-ordered order file [] h = AllPairs-cons (Follows order) file [] (All-nil (Follows order file)) (pairs_nil (Follows order))
put-ordered order file (other ∷ files) h =
    let behind : All (Follows order other) files = pairs_head (Follows order) other files h in
    elim (goes_before order file other) as (λ b. goes_before order file other ≡ b → AllPairs (Follows order) (cond b (file ∷ other ∷ files) (other ∷ put_in_order order file files))) [
      | true ↦ λ is. AllPairs-cons (Follows order) file (other ∷ files)
          (All-cons (Follows order file) other files (asymmetric order file other is)
          (All-weaker (Follows order other) (Follows order file) (λ later k. stays_behind order later file other is k) files behind)) h
      | false ↦ λ is. AllPairs-cons (Follows order) other (put_in_order order file files)
          (All-permutation (Follows order other) (file ∷ files) (put_in_order order file files) (put-permutes order file files) (All-cons (Follows order other) file files is behind))
          (put-ordered order file files (pairs_tail (Follows order) other files h))
    ] refl

pub in_order-ordered : OrderHolds
in_order-ordered order [] = pairs_nil (Follows order)
in_order-ordered order (file ∷ files) = put-ordered order file (in_order order files) (in_order-ordered order files)

-- ---- the best file

all_fail : {X : Type 0} (p : X → Bool) (xs : List X) → length (filter p xs) ≡ 0 → All (λ x. p x ≡ false) xs
all_fail p [] h = All-nil (λ x. p x ≡ false)
all_fail p (x ∷ xs) h =
    elim (p x) as (λ b. p x ≡ b → length (cond b (x ∷ filter p xs) (filter p xs)) ≡ 0 → All (λ y. p y ≡ false) (x ∷ xs)) [
      | true ↦ λ is none. absurd (omega arith)
      | false ↦ λ is none. All-cons (λ y. p y ≡ false) x xs is (all_fail p xs none)
    ] refl h

all_that_pass : {X : Type 0} (p : X → Bool) (P : X → Type 0) (xs : List X) → All P (filter p xs) → All (λ x. p x ≡ true → P x) xs
all_that_pass p P [] h = All-nil (λ x. p x ≡ true → P x)
all_that_pass p P (x ∷ xs) h =
    elim (p x) as (λ b. p x ≡ b → All P (cond b (x ∷ filter p xs) (filter p xs)) → All (λ y. p y ≡ true → P y) (x ∷ xs)) [
      | true ↦ λ is all. All-cons (λ y. p y ≡ true → P y) x xs (λ _. All-head P x (filter p xs) all) (all_that_pass p P xs (All-tail P x (filter p xs) all))
      | false ↦ λ is all. All-cons (λ y. p y ≡ true → P y) x xs (λ t. absurd (true≢false (sym t ∙ is))) (all_that_pass p P xs all)
    ] refl h

pub contains_head : {X : Type 0} (x : X) (xs : List X) → Contains (x ∷ xs) x
contains_head x xs = (0, omega arith, refl)

pub contains_later : {X : Type 0} (x y : X) (xs : List X) → Contains xs x → Contains (y ∷ xs) x
contains_later x y xs (k, l, is) = (suc k, omega arith, is)

pub contains_apart : {X : Type 0} (P : Type 0) (y x : X) (xs : List X) → Contains (y ∷ xs) x → (y ≡ x → P) → (Contains xs x → P) → P
contains_apart P y x xs (zero, l, is) here later = here is
contains_apart P y x xs (suc k, l, is) here later = later (k, omega arith, is)

contains_unfiltered : {X : Type 0} (p : X → Bool) (xs : List X) (x : X) → Contains (filter p xs) x → Contains xs x
contains_unfiltered p [] x h = h
contains_unfiltered p (y ∷ xs) x h =
    elim (p y) as (λ b. Contains (cond b (y ∷ filter p xs) (filter p xs)) x → Contains (y ∷ xs) x) [
      | true ↦ λ c. contains_apart (Contains (y ∷ xs) x) y x (filter p xs) c (λ is. (0, omega arith, is)) (λ d. contains_later x y xs (contains_unfiltered p xs x d))
      | false ↦ λ c. contains_later x y xs (contains_unfiltered p xs x c)
    ] h

first_is_best : (order : List Prioritizer) (limits : QueueLimits) (moment : ℕ) (files sorted : List FileView)
    → IsPermutation (filter (is_eligible limits moment) files) sorted → AllPairs (Follows order) sorted
    → MatchOption (slice_get sorted 0) (All (λ file. is_eligible limits moment file ≡ false) files) (IsBest order limits moment files)
first_is_best order limits moment files [] same ordered = all_fail (is_eligible limits moment) files (sym (length_permutation _ _ same))
first_is_best order limits moment files (first ∷ rest) same ordered =
    let eligible = is_eligible limits moment in
    let back = IsPermutation-sym _ _ same in
    let there : Contains (filter eligible files) first = Contains-permutation _ _ first back (contains_head first rest) in
    let none_before : All (Follows order first) (first ∷ rest) = All-cons (Follows order first) first rest (goes_before-irreflexive order first) (pairs_head (Follows order) first rest ordered) in
    record {
      stands_there = contains_unfiltered eligible files first there;
      eligible = All-contains (λ file. eligible file ≡ true) (filter eligible files) first (filter_passes eligible files) there;
      first = all_that_pass eligible (Follows order first) files (All-permutation (Follows order first) _ _ back none_before);
    }

pub best-first : BestIsBest
best-first order limits moment files =
    let eligible = filter (is_eligible limits moment) files in
    first_is_best order limits moment files (in_order order eligible) (in_order-permutes order eligible) (in_order-ordered order eligible)
