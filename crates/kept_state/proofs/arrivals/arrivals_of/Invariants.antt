use Rattle.std.proofs.Common.{◌≡◌, ℕ, ◌==◌, ◌||◌}
use Rattle.std.specs.List.{list_any}
use Rattle.std.specs.Ordering.{nat_cmp}
use Rattle.std.specs.BTreeSet.{contains, IsOrdered}
use Rattle.kept_state.specs.Arrivals.{arrival_of}
use Rattle.kept_state.proofs.arrivals.arrivals_of.Given as goal

abbrev pub invariant-loop-active : goal.invariant-loop-active
invariant-loop-active l = record {
  next : (goal.iterator-loop-active).can_next l.active-iterator;
  finite : (goal.iterator-loop-active).is_finite l.active-iterator;
  ordered : IsOrdered nat_cmp l.arrivals;
  members : (n : ℕ) → (contains nat_cmp l.arrivals n || list_any (λ a. arrival_of a == n) l.active-iterator) ≡ list_any (λ a. arrival_of a == n) l.fn.files.items;
}
