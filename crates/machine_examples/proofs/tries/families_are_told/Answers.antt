use Rattle.machine_examples.proofs.TriedFamilies.{clone-names, join-names, join-names-other, no-sibling, no-child, no-other, tells-not}
use Rattle.machine_model.specs.Lineage.{IsAncestor, IsDescendant}
use Rattle.std.proofs.Common.{inl, inr, refl, arith}
use Rattle.machine_examples.proofs.tries.families_are_told.Goals as goal

pub returns : goal.returns
returns c = record {
  parent = IsAncestor.parent 2 join-names;
  other_parent = IsAncestor.parent 3 join-names-other;
  grandparent = IsAncestor.further 2 1 (IsAncestor.parent 2 join-names) clone-names;
  child = IsDescendant.child 2 clone-names;
  grandchild = IsDescendant.further 2 4 (IsDescendant.child 2 clone-names) join-names;
  no_sibling = no-sibling;
  no_child = no-child;
  no_other = no-other;
  tells_clone = inr (inl (IsAncestor.further 2 1 (IsAncestor.parent 2 join-names) clone-names));
  tells_join = inr (inr (IsDescendant.further 2 4 (IsDescendant.child 2 clone-names) join-names));
  tells_not = tells-not;
  names_own = refl;
  names_parent = refl;
  names_child = refl;
  names_not = refl;
  named = refl;
  not_named = refl;
  acked_before = refl;
  acked_first = refl;
  acked_between = refl;
  acked_second = refl;
  acked_never = refl;
  acked_in_order = (omega arith, omega arith, (omega arith, omega arith, tt));
  acked_too_early = λ is. omega (arith, is.0);
  acked_too_late = λ is. omega (arith, is.2.1);
  acked_falling = λ is. omega (arith, is.2.0);
  acked_gapped = λ is. cc;
}
