-- Who came from whom in the events of a try.
use Rattle.std.proofs.Common.{◌≡◌, ◌⊎◌, inl, inr, ℕ, ◌<◌, List, refl, ap, subst, arith}
use Rattle.std.specs.List.{flat_map}
use Rattle.flowfile_record.specs.Kin.{pairs_named}
use Rattle.machine_model.specs.Lineage.{NamesParent, IsAncestor, IsDescendant}
use Rattle.machine_examples.specs.Families.{events, stranger, IsNoAncestorOf, IsNoDescendantOf, TellsNot}
use Rattle.machine_model.proofs.Among.{Among, contains_among, among_contained}

abbrev kin : List (ℕ × ℕ)
kin = flat_map pairs_named events

pub clone-names : NamesParent events 2 1
clone-names = contains_among (2, 1) kin (inl refl)

pub join-names : NamesParent events 4 2
join-names = contains_among (4, 2) kin (inr (inl refl))

pub join-names-other : NamesParent events 4 3
join-names-other = contains_among (4, 3) kin (inr (inr (inl refl)))

-- each pair of child and parent is one of three
pub record IsKin (child parent : ℕ) : Type 0 where
  pub each : ((child ≡ 2) × (parent ≡ 1)) ⊎ (((child ≡ 4) × (parent ≡ 2)) ⊎ ((child ≡ 4) × (parent ≡ 3)))

among_kin : (child parent : ℕ) → Among (child, parent) kin → IsKin child parent
among_kin child parent (inl is) = record { each = inl (omega (arith, ap (λ q. q.0) is), omega (arith, ap (λ q. q.1) is)) }
among_kin child parent (inr (inl is)) = record { each = inr (inl (omega (arith, ap (λ q. q.0) is), omega (arith, ap (λ q. q.1) is))) }
among_kin child parent (inr (inr (inl is))) = record { each = inr (inr (omega (arith, ap (λ q. q.0) is), omega (arith, ap (λ q. q.1) is))) }
among_kin child parent (inr (inr (inr h))) = absurd h

pub names-kin : (child parent : ℕ) → NamesParent events child parent → IsKin child parent
names-kin child parent names = among_kin child parent (among_contained (child, parent) kin names)

parent_of_2 : (parent : ℕ) → NamesParent events 2 parent → parent ≡ 1
parent_of_2 parent names = let is = (names-kin 2 parent names).each in omega (arith, is)

no_parent_of_1 : (parent : ℕ) → NamesParent events 1 parent → ⊥
no_parent_of_1 parent names = let is = (names-kin 1 parent names).each in omega (arith, is)

pub ancestor_of_2 : (ancestor : ℕ) → IsAncestor events 2 ancestor → ancestor ≡ 1
ancestor_of_2 ancestor (IsAncestor.parent _ names) = parent_of_2 ancestor names
ancestor_of_2 ancestor (IsAncestor.further member _ is names) =
    absurd (no_parent_of_1 ancestor (subst (λ (m : ℕ). NamesParent events m ancestor) (ancestor_of_2 member is) names))

child_of_3 : (child : ℕ) → NamesParent events child 3 → child ≡ 4
child_of_3 child names = let is = (names-kin child 3 names).each in omega (arith, is)

no_child_of_4 : (child : ℕ) → NamesParent events child 4 → ⊥
no_child_of_4 child names = let is = (names-kin child 4 names).each in omega (arith, is)

pub descendant_of_3 : (descendant : ℕ) → IsDescendant events 3 descendant → descendant ≡ 4
descendant_of_3 descendant (IsDescendant.child _ names) = child_of_3 descendant names
descendant_of_3 descendant (IsDescendant.further member _ is names) =
    absurd (no_child_of_4 descendant (subst (λ (m : ℕ). NamesParent events descendant m) (descendant_of_3 member is) names))

kin_below : (child parent : ℕ) → NamesParent events child parent → (child < 5) × (parent < 5)
kin_below child parent names = let is = (names-kin child parent names).each in (omega (arith, is), omega (arith, is))

ancestor_below : (file ancestor : ℕ) → IsAncestor events file ancestor → ancestor < 5
ancestor_below file ancestor (IsAncestor.parent _ names) = (kin_below file ancestor names).1
ancestor_below file ancestor (IsAncestor.further member _ is names) = (kin_below member ancestor names).1

descendant_below : (file descendant : ℕ) → IsDescendant events file descendant → descendant < 5
descendant_below file descendant (IsDescendant.child _ names) = (kin_below descendant file names).0
descendant_below file descendant (IsDescendant.further member _ is names) = (kin_below descendant member names).0

pub no-sibling : IsNoAncestorOf 2 3
no-sibling is = omega (arith, ancestor_of_2 3 is)

pub no-child : IsNoAncestorOf 2 4
no-child is = omega (arith, ancestor_of_2 4 is)

pub no-other : IsNoDescendantOf 3 2
no-other is = omega (arith, descendant_of_3 2 is)

pub tells-not : TellsNot 4 stranger
tells-not (inl is) = omega (arith, is)
tells-not (inr (inl is)) = omega (arith, ancestor_below 4 5 is)
tells-not (inr (inr is)) = omega (arith, descendant_below 4 5 is)
