-- That the laws of orders hold, for proofs above.
use Rattle.std.specs.Prelude.{◌≡◌, ◌<◌, ◌⊎◌, ℕ, ℤ, pos, List, [], ◌∷◌, ◌++◌, refl}
use Rattle.std.proofs.Common.{sym, ap, subst, ◌∙◌, inl, inr}
use Rattle.std.specs.declared.cmp.Ordering.{Ordering}
use Rattle.std.specs.declared.cmp.Ordering.TheVariants.{Less, Equal, Greater}
use Rattle.std.specs.Ordering.{nat_cmp, int_cmp, on, then_cmp, ordering_then}
use Rattle.std.specs.Cmp.{IsTotalOrder, nat_cmp_total, int_cmp_total, on_total, then_total, back_total, ranked, nat_cmp_is}
use Rattle.std.specs.Cmp.Lexicographic.{slice_cmp, nat_list_cmp_total}
use Rattle.std.proofs.lemmas.List.{append-nil}
use Rattle.std.proofs.lemmas.List.Elements.{All-nil, All-cons, All-head, All-tail}
use Rattle.std.proofs.lemmas.List.MinMax.{ranks_by}
use Rattle.prioritizer.specs.declared.prioritizer.Prioritizer.{Prioritizer}
use Rattle.prioritizer.specs.declared.prioritizer.Prioritizer.TheVariants.{FirstInFirstOut, NewestFlowFileFirst, OldestFlowFileFirst, PriorityAttribute}
use Rattle.prioritizer.specs.Standing.{Standing}
use Rattle.prioritizer.specs.Priority.{Worth, Number, Text, Missing, worth_of, worth_cmp, priority_cmp}
use Rattle.prioritizer.specs.Order.{order_cmp, chain_cmp, prioritizer_cmp, prioritizers_of}
use Rattle.prioritizer.specs.Laws.{OrdersAreTotal, OrdersSort, OnlyOneArrivalTies, FirstTellerDecides, FirstTellerPrefers, AllTie}

-- ---- values of the attribute: by kind, then by number, then by text

place : Worth → ℕ
place (Number n) = 0
place (Text x) = 1
place Missing = 2

number_in : Worth → ℤ
number_in (Number n) = n
number_in (Text x) = pos 0
number_in Missing = pos 0

text_in : Worth → List ℕ
text_in (Number n) = []
text_in (Text x) = x
text_in Missing = []

by_parts : Worth → Worth → Ordering
by_parts = then_cmp (on place nat_cmp) (then_cmp (on number_in int_cmp) (on text_in (slice_cmp nat_cmp)))

ordering_then-Equal : (o : Ordering) → ordering_then o Equal ≡ o
ordering_then-Equal Less = refl
ordering_then-Equal Equal = refl
ordering_then-Equal Greater = refl

by_parts-is : (x y : Worth) → by_parts x y ≡ worth_cmp x y
unfolding by_parts place number_in text_in
by_parts-is (Number m) (Number n) = ordering_then-Equal (int_cmp m n)
by_parts-is (Number m) (Text y) = refl
by_parts-is (Number m) Missing = refl
by_parts-is (Text x) (Number n) = refl
by_parts-is (Text x) (Text y) = refl
by_parts-is (Text x) Missing = refl
by_parts-is Missing (Number n) = refl
by_parts-is Missing (Text y) = refl
by_parts-is Missing Missing = refl

by_parts-total : IsTotalOrder by_parts
unfolding by_parts
by_parts-total = then_total (on_total place nat_cmp_total)
    (then_total (on_total number_in int_cmp_total) (on_total text_in nat_list_cmp_total))

worth_cmp-total : IsTotalOrder worth_cmp
worth_cmp-total = subst IsTotalOrder (λ i x y. by_parts-is x y i) by_parts-total

pub priority_cmp-total : IsTotalOrder priority_cmp
priority_cmp-total = on_total worth_of worth_cmp-total

-- ---- orders

pub prioritizer_cmp-total : (prioritizer : Prioritizer) → IsTotalOrder (prioritizer_cmp prioritizer)
prioritizer_cmp-total FirstInFirstOut = on_total (λ (file : Standing). file.arrival) nat_cmp_total
prioritizer_cmp-total NewestFlowFileFirst = back_total (on_total (λ (file : Standing). file.entered) nat_cmp_total)
prioritizer_cmp-total OldestFlowFileFirst = on_total (λ (file : Standing). file.entered) nat_cmp_total
prioritizer_cmp-total PriorityAttribute = on_total (λ (file : Standing). file.priority) priority_cmp-total

chain_cmp-total : (list : List Prioritizer) → IsTotalOrder (chain_cmp list)
chain_cmp-total [] = on_total (λ (file : Standing). file.arrival) nat_cmp_total
chain_cmp-total (prioritizer ∷ rest) = then_total (prioritizer_cmp-total prioritizer) (chain_cmp-total rest)

pub order_cmp-total : OrdersAreTotal
unfolding order_cmp
order_cmp-total list = chain_cmp-total (prioritizers_of list)

pub order_cmp-sorts : OrdersSort
order_cmp-sorts list = ranks_by (order_cmp-total list) (λ (file : Standing). file)

both_equal : (o p : Ordering) → ordering_then o p ≡ Equal → p ≡ Equal
both_equal Less p h = cc h
both_equal Equal p h = h
both_equal Greater p h = cc h

chain_cmp-ties : (list : List Prioritizer) (a b : Standing) → chain_cmp list a b ≡ Equal → a.arrival ≡ b.arrival
chain_cmp-ties [] a b h = ranked a.arrival b.arrival Equal (sym h)
chain_cmp-ties (prioritizer ∷ rest) a b h = chain_cmp-ties rest a b (both_equal _ _ h)

pub order_cmp-ties : OnlyOneArrivalTies
unfolding order_cmp
order_cmp-ties list a b h = chain_cmp-ties (prioritizers_of list) a b h

-- ---- who decides

abbrev Ties : Standing → Standing → Prioritizer → Type 0
Ties a b prioritizer = prioritizer_cmp prioritizer a b ≡ Equal

abbrev Decided : List Prioritizer → Standing → Standing → Type 0
Decided list a b = FirstTellerPrefers list a b ⊎ (AllTie list a b × (a.arrival < b.arrival))

-- one more before, that ties
more_tied : (prioritizer : Prioritizer) (rest : List Prioritizer) (a b : Standing) → Ties a b prioritizer
    → Decided rest a b → Decided (prioritizer ∷ rest) a b
more_tied prioritizer rest a b e (inl first) = inl (record {
  before = prioritizer ∷ first.before;
  teller = first.teller;
  after = first.after;
  parts = ap (λ list. prioritizer ∷ list) first.parts;
  tied = All-cons (Ties a b) prioritizer first.before e first.tied;
  prefers = first.prefers;
})
more_tied prioritizer rest a b e (inr last) = inr (All-cons (Ties a b) prioritizer rest e last.0, last.1)

decided_by : (prioritizer : Prioritizer) (rest : List Prioritizer) (a b : Standing) (o : Ordering)
    → (chain_cmp rest a b ≡ Less → Decided rest a b)
    → prioritizer_cmp prioritizer a b ≡ o → ordering_then o (chain_cmp rest a b) ≡ Less
    → Decided (prioritizer ∷ rest) a b
decided_by prioritizer rest a b Less f e h =
    inl (record {
      before = [];
      teller = prioritizer;
      after = rest;
      parts = refl;
      tied = All-nil (Ties a b);
      prefers = e;
    })
decided_by prioritizer rest a b Equal f e h = more_tied prioritizer rest a b e (f h)
decided_by prioritizer rest a b Greater f e h = cc h

decided : (list : List Prioritizer) (a b : Standing) → chain_cmp list a b ≡ Less → Decided list a b
decided [] a b h = inr (All-nil (Ties a b), ranked a.arrival b.arrival Less (sym h))
decided (prioritizer ∷ rest) a b h = decided_by prioritizer rest a b _ (decided rest a b) refl h

chain_cmp-append : (before rest : List Prioritizer) (a b : Standing) → AllTie before a b
    → chain_cmp (before ++ rest) a b ≡ chain_cmp rest a b
chain_cmp-append [] rest a b h = refl
chain_cmp-append (prioritizer ∷ before) rest a b h =
    ap (λ o. ordering_then o (chain_cmp (before ++ rest) a b)) (All-head (Ties a b) prioritizer before h)
    ∙ chain_cmp-append before rest a b (All-tail (Ties a b) prioritizer before h)

goes_first : (list : List Prioritizer) (a b : Standing) → Decided list a b → chain_cmp list a b ≡ Less
goes_first list a b (inl first) =
    ap (λ list. chain_cmp list a b) first.parts
    ∙ chain_cmp-append first.before (first.teller ∷ first.after) a b first.tied
    ∙ ap (λ o. ordering_then o (chain_cmp first.after a b)) first.prefers
goes_first list a b (inr last) =
    ap (λ list. chain_cmp list a b) (sym (append-nil list))
    ∙ chain_cmp-append list [] a b last.0
    ∙ sym (nat_cmp_is a.arrival b.arrival Less last.1)

pub order_cmp-decided : FirstTellerDecides
unfolding order_cmp
order_cmp-decided list a b = (decided (prioritizers_of list) a b, goes_first (prioritizers_of list) a b)
