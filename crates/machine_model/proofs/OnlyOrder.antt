-- That files whose arrivals differ have one order only, and one best file.
use Rattle.std.proofs.Common.{◌≡◌, ◌≢◌, inl, inr, ℕ, ◌+◌, true, false, List, [], ◌∷◌, get_or, refl, sym, ap, ◌∙◌, arith}
use Rattle.std.specs.Prelude.{◌==◌, Option, Some, None, MatchOption, All, sum_by}
use Rattle.std.specs.List.{AllPairs}
use Rattle.std.specs.List.Sorted.{IsPermutation}
use Rattle.std.proofs.lemmas.Bool.{true≢false, cases_eq}
use Rattle.std.proofs.lemmas.List.Elements.{All-contains}
use Rattle.std.proofs.lemmas.List.Sorted.{IsPermutation-sym, IsPermutation-trans, Contains-permutation, sum_by-IsPermutation}
use Rattle.std.proofs.lemmas.List.Sums.{sum_by-cons}
use Rattle.prioritizer.specs.declared.prioritizer.Prioritizer.{Prioritizer}
use Rattle.machine_model.specs.declared.flow.QueueLimits.{QueueLimits}
use Rattle.machine_model.specs.View.{FileView}
use Rattle.machine_model.specs.Laws.{ArrivalsDiffer, OrderIsOnly, BestIsOnly, IsBest}
use Rattle.machine_model.specs.Order.{goes_before, in_order, is_eligible, best}
use Rattle.machine_model.proofs.Among.{Among, contains_among, among_contained, all_among}
use Rattle.machine_model.proofs.Keyed.{once_from_differ, differ_from_once, same_key}
use Rattle.machine_model.proofs.Ordered.{goes_before-irreflexive, goes_before-total, asymmetric, pairs_head, pairs_tail, in_order-permutes, in_order-ordered, best-first, Follows}
use Rattle.machine_model.proofs.Tally.{tally, bit}

abbrev pub Leads : List Prioritizer → FileView → FileView → Type 0
Leads order earlier later = goes_before order earlier later ≡ true

-- ---- each file goes before all behind it

tally-is : {X : Type 0} (w : X → ℕ) (xs : List X) → sum_by w xs ≡ tally w xs
tally-is w [] = refl
tally-is w (x ∷ xs) = sum_by-cons w x xs ∙ ap (λ n. w x + n) (tally-is w xs)

pub differ-permuted : (files sorted : List FileView) → ArrivalsDiffer files → IsPermutation files sorted → ArrivalsDiffer sorted
differ-permuted files sorted differ same =
    differ_from_once (λ (file : FileView). file.arrival) sorted (λ n.
    let w = λ (file : FileView). bit (file.arrival == n) in
    omega (arith, once_from_differ (λ (file : FileView). file.arrival) files differ n, tally-is w files, tally-is w sorted, sum_by-IsPermutation w files sorted same))

leads_or_follows : (order : List Prioritizer) (a b : FileView) → a.arrival ≢ b.arrival → Follows order a b → Leads order a b
leads_or_follows order a b differ follows = elim (goes_before-total order a b differ) [ inl leads ↦ leads | inr back ↦ absurd (true≢false (sym back ∙ follows)) ]

pub all_lead : (order : List Prioritizer) (sorted : List FileView) → ArrivalsDiffer sorted → AllPairs (Follows order) sorted → AllPairs (Leads order) sorted
all_lead order sorted differ follows i j d l m = leads_or_follows order (get_or sorted i d) (get_or sorted j d) (differ i j d l m) (follows i j d l m)

-- ---- one such list only

same_first : (order : List Prioritizer) (x y : FileView) (xs ys : List FileView) → AllPairs (Leads order) (x ∷ xs) → AllPairs (Leads order) (y ∷ ys) → Among x (y ∷ ys) → Among y (x ∷ xs) → x ≡ y
same_first order x y xs ys p q (inl is) k = sym is
same_first order x y xs ys p q (inr h) (inl is) = is
same_first order x y xs ys p q (inr h) (inr k) =
    let x_leads : Leads order x y = all_among (Leads order x) y xs (pairs_head (Leads order) x xs p) k in
    let y_leads : Leads order y x = all_among (Leads order y) x ys (pairs_head (Leads order) y ys q) h in
    absurd (true≢false (sym y_leads ∙ asymmetric order x y x_leads))

in_rest : (order : List Prioritizer) (x y z : FileView) (xs ys : List FileView) → AllPairs (Leads order) (x ∷ xs) → x ≡ y → Among z xs → Among z (y ∷ ys) → Among z ys
in_rest order x y z xs ys p same h (inr k) = k
in_rest order x y z xs ys p same h (inl is) =
    let leads : Leads order x z = all_among (Leads order x) z xs (pairs_head (Leads order) x xs p) h in
    absurd (true≢false (sym leads ∙ ap (goes_before order x) (sym (same ∙ is)) ∙ goes_before-irreflexive order x))

one_list : (order : List Prioritizer) (xs ys : List FileView) → AllPairs (Leads order) xs → AllPairs (Leads order) ys
    → ((z : FileView) → Among z xs → Among z ys) → ((z : FileView) → Among z ys → Among z xs) → xs ≡ ys
one_list order [] [] p q into back = refl
one_list order [] (y ∷ ys) p q into back = absurd (back y (inl refl))
one_list order (x ∷ xs) [] p q into back = absurd (into x (inl refl))
one_list order (x ∷ xs) (y ∷ ys) p q into back =
    let same = same_first order x y xs ys p q (into x (inl refl)) (back y (inl refl)) in
    let rest = one_list order xs ys (pairs_tail (Leads order) x xs p) (pairs_tail (Leads order) y ys q)
    (λ z h. in_rest order x y z xs ys p same h (into z (inr h))) (λ z h. in_rest order y x z ys xs q (sym same) h (back z (inr h))) in
    λ i. same i ∷ rest i

pub in_order-only : OrderIsOnly
in_order-only order files sorted differ same follows =
    let own = in_order order files in
    let into : IsPermutation sorted own = IsPermutation-trans sorted files own (IsPermutation-sym files sorted same) (in_order-permutes order files) in
    one_list order sorted own
    (all_lead order sorted (differ-permuted files sorted differ same) follows)
    (all_lead order own (differ-permuted files own differ (in_order-permutes order files)) (in_order-ordered order files))
    (λ z h. among_contained z own (Contains-permutation sorted own z into (contains_among z sorted h)))
    (λ z h. among_contained z sorted (Contains-permutation own sorted z (IsPermutation-sym sorted own into) (contains_among z own h)))

-- ---- one best file only

-- neither of two best files goes before the other
tie : (order : List Prioritizer) (a b : FileView) → goes_before order a b ≡ false → goes_before order b a ≡ false → a.arrival ≢ b.arrival → ⊥
tie order a b p q differ = elim (goes_before-total order a b differ) [ inl leads ↦ true≢false (sym leads ∙ p) | inr leads ↦ true≢false (sym leads ∙ q) ]

best_only : (order : List Prioritizer) (limits : QueueLimits) (moment : ℕ) (files : List FileView) (file : FileView) (found : Option FileView) → ArrivalsDiffer files → IsBest order limits moment files file
    → MatchOption found (All (λ file. is_eligible limits moment file ≡ false) files) (IsBest order limits moment files) → found ≡ Some file
best_only order limits moment files file None differ is_best none =
    absurd (true≢false (sym is_best.eligible ∙ All-contains (λ file. is_eligible limits moment file ≡ false) files file none is_best.stands_there))
best_only order limits moment files file (Some other) differ is_best other_is =
    let not_before : goes_before order other file ≡ false
    = All-contains (λ other. is_eligible limits moment other ≡ true → goes_before order other file ≡ false) files other is_best.first other_is.stands_there other_is.eligible in
    let not_behind : goes_before order file other ≡ false
    = All-contains (λ file. is_eligible limits moment file ≡ true → goes_before order file other ≡ false) files file other_is.first is_best.stands_there is_best.eligible in
    elim (cases_eq other.arrival file.arrival) [
      | inl same ↦ ap (λ f. Some f) (same_key (λ (f : FileView). f.arrival) files other file differ other_is.stands_there is_best.stands_there same)
      | inr ne ↦ absurd (tie order other file not_before not_behind ne)
    ]

pub best-only : BestIsOnly
best-only order limits moment files file differ is_best = best_only order limits moment files file (best order limits moment files) differ is_best (best-first order limits moment files)
