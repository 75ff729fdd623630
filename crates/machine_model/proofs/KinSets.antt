-- That the triples of child, parent and event have a total order, and when two sets of them are equal.
use Rattle.std.proofs.Common.{◌≡◌, inl, inr, ℕ, Bool, true, false, List, [], ◌∷◌, ◌++◌, refl, sym, ap, ◌∙◌}
use Rattle.std.specs.Prelude.{◌&&◌, ◌||◌, ◌↔◌, filter}
use Rattle.std.specs.FinMap.{IsAntisymmetric, nat_cmp-IsAntisymmetric}
use Rattle.std.specs.FinSet.{contains, from_list, retain, union, contains-union, contains-from_list, contains-retain, same_set}
use Rattle.std.specs.List.{list_any}
use Rattle.std.specs.declared.cmp.Ordering.{Ordering}
use Rattle.std.specs.declared.cmp.Ordering.TheVariants.{Less, Equal, Greater}
use Rattle.std.specs.Ordering.{nat_cmp, ordering_then, eq_by_cmp}
use Rattle.std.specs.Cmp.{IsTotalOrder, tied_itself, Equal-is}
use Rattle.std.proofs.lemmas.Bool.{and_parts, true≢false}
use Rattle.std.proofs.lemmas.Cmp.{then_total, on_total, nat_cmp_total}
use Rattle.machine_model.specs.State.{Kin, kin_cmp}
use Rattle.machine_model.proofs.Among.{Among, kept_by, keeps}

pub kin_cmp-total : IsTotalOrder kin_cmp
kin_cmp-total = then_total (on_total (λ k. k.0) nat_cmp_total) (then_total (on_total (λ k. k.1) nat_cmp_total) (on_total (λ k. k.2) nat_cmp_total))

both_tie : (r s : Ordering) → ordering_then r s ≡ Equal → (r ≡ Equal) × (s ≡ Equal)
both_tie Less s h = cc
both_tie Equal s h = (refl, h)
both_tie Greater s h = cc

pub kin_cmp-IsAntisymmetric : IsAntisymmetric kin_cmp
kin_cmp-IsAntisymmetric p q h =
    let first = both_tie (nat_cmp p.0 q.0) (ordering_then (nat_cmp p.1 q.1) (nat_cmp p.2 q.2)) h in
    let later = both_tie (nat_cmp p.1 q.1) (nat_cmp p.2 q.2) first.1 in
    λ i. (nat_cmp-IsAntisymmetric p.0 q.0 first.0 i, nat_cmp-IsAntisymmetric p.1 q.1 later.0 i, nat_cmp-IsAntisymmetric p.2 q.2 later.1 i)

-- ---- what a list of triples gives

abbrev pub holds : ℕ × ℕ × ℕ → List (ℕ × ℕ × ℕ) → Bool
holds kin all = list_any (eq_by_cmp kin_cmp kin) all

pub holds-among : (kin : ℕ × ℕ × ℕ) (all : List (ℕ × ℕ × ℕ)) → holds kin all ≡ true → Among kin all
holds-among kin [] h = absurd (true≢false (sym h))
holds-among kin (other ∷ all) h =
    elim (eq_by_cmp kin_cmp kin other) as (λ b. eq_by_cmp kin_cmp kin other ≡ b → (b || holds kin all) ≡ true → Among kin (other ∷ all)) [
      | true ↦ λ is _. inl (sym (kin_cmp-IsAntisymmetric kin other ((Equal-is (kin_cmp kin other)).0 is)))
      | false ↦ λ _ later. inr (holds-among kin all later)
    ] refl h

holds-first : (kin other : ℕ × ℕ × ℕ) (all : List (ℕ × ℕ × ℕ)) → other ≡ kin → holds kin (other ∷ all) ≡ true
holds-first kin other all is =
    let same : eq_by_cmp kin_cmp kin other ≡ true = ap (eq_by_cmp kin_cmp kin) is ∙ (Equal-is (kin_cmp kin kin)).1 (tied_itself kin_cmp-total kin) in
    ap (λ b. b || holds kin all) same

holds-later : (b c : Bool) → c ≡ true → (b || c) ≡ true
holds-later true c h = refl
holds-later false c h = h

pub among-holds : (kin : ℕ × ℕ × ℕ) (all : List (ℕ × ℕ × ℕ)) → Among kin all → holds kin all ≡ true
among-holds kin [] h = absurd h
among-holds kin (other ∷ all) (inl is) = holds-first kin other all is
among-holds kin (other ∷ all) (inr h) = holds-later (eq_by_cmp kin_cmp kin other) (holds kin all) (among-holds kin all h)

same_bool : (a b : Bool) → (a ≡ true → b ≡ true) → (b ≡ true → a ≡ true) → a ≡ b
same_bool true b h k = sym (h refl)
same_bool false true h k = k refl
same_bool false false h k = refl

-- lists have the same triples
abbrev pub SameKin : List (ℕ × ℕ × ℕ) → List (ℕ × ℕ × ℕ) → Type 0
SameKin ps qs = (kin : ℕ × ℕ × ℕ) → Among kin ps ↔ Among kin qs

pub same_kin : (ps qs : List (ℕ × ℕ × ℕ)) → SameKin ps qs → ◌≡◌ {A = Kin} (from_list ps) (from_list qs)
same_kin ps qs same =
    same_set kin_cmp-total kin_cmp-IsAntisymmetric (from_list ps) (from_list qs) (λ kin.
    contains-from_list kin_cmp-total ps kin
    ∙ same_bool (holds kin ps) (holds kin qs) (λ h. among-holds kin qs ((same kin).0 (holds-among kin ps h))) (λ h. among-holds kin ps ((same kin).1 (holds-among kin qs h)))
    ∙ sym (contains-from_list kin_cmp-total qs kin))

or_same : (a b : Bool) (ps qs : List (ℕ × ℕ × ℕ)) (kin : ℕ × ℕ × ℕ) → a ≡ holds kin ps → b ≡ holds kin qs → (a || b) ≡ holds kin (ps ++ qs)
or_same a b [] qs kin p q = ap (λ x. x || b) p ∙ q
or_same a b (other ∷ ps) qs kin p q =
    ap (λ x. x || b) p ∙ or_assoc (eq_by_cmp kin_cmp kin other) (holds kin ps) b ∙ ap (λ x. eq_by_cmp kin_cmp kin other || x) (or_same (holds kin ps) b ps qs kin refl q)
  where
    or_assoc : (a b c : Bool) → ((a || b) || c) ≡ (a || (b || c))
    or_assoc true b c = refl
    or_assoc false b c = refl

pub kin_joined : (ps qs : List (ℕ × ℕ × ℕ)) → ◌≡◌ {A = Kin} (union (from_list ps) (from_list qs)) (from_list (ps ++ qs))
kin_joined ps qs =
    same_set kin_cmp-total kin_cmp-IsAntisymmetric (union (from_list ps) (from_list qs)) (from_list (ps ++ qs)) (λ kin.
    contains-union kin_cmp-total (from_list ps) (from_list qs) kin
    ∙ or_same (contains (from_list ps) kin) (contains (from_list qs) kin) ps qs kin (contains-from_list kin_cmp-total ps kin) (contains-from_list kin_cmp-total qs kin)
    ∙ sym (contains-from_list kin_cmp-total (ps ++ qs) kin))

-- ---- some of the triples

holds_filter : (p : ℕ × ℕ × ℕ → Bool) (kin : ℕ × ℕ × ℕ) (all : List (ℕ × ℕ × ℕ)) → (holds kin all && p kin) ≡ holds kin (filter p all)
holds_filter p kin all =
    same_bool (holds kin all && p kin) (holds kin (filter p all))
    (λ h. let parts = and_parts (holds kin all) (p kin) h in among-holds kin (filter p all) (keeps p all kin (holds-among kin all parts.0) parts.1))
    (λ h. let kept = kept_by p all kin (holds-among kin (filter p all) h) in
    let there : holds kin all ≡ true = among-holds kin all kept.0 in
    rw (there, kept.1) refl)

pub kin_retained : (p : ℕ × ℕ × ℕ → Bool) (all : List (ℕ × ℕ × ℕ)) → ◌≡◌ {A = Kin} (retain (from_list all) p) (from_list (filter p all))
kin_retained p all =
    same_set kin_cmp-total kin_cmp-IsAntisymmetric (retain (from_list all) p) (from_list (filter p all)) (λ kin.
    contains-retain (from_list all) p kin (λ other tie. ap p (sym (kin_cmp-IsAntisymmetric kin other tie)))
    ∙ ap (λ b. b && p kin) (contains-from_list kin_cmp-total all kin)
    ∙ holds_filter p kin all
    ∙ sym (contains-from_list kin_cmp-total (filter p all) kin))
