use Rattle.std.proofs.Common.{◌≡◌, ℕ, ◌&&◌, not, take}
use Rattle.std.specs.List.{list_any}
use Rattle.std.specs.Ordering.{nat_cmp}
use Rattle.std.specs.BTreeSet.{contains, IsOrdered}
use Rattle.kept_state.specs.Arrivals.{has_arrival}
use Rattle.kept_state.specs.Fits.{active_of}
use Rattle.kept_state.proofs.arrivals.remove_arrivals.Given as goal

abbrev pub invariant-loop-number : goal.invariant-loop-number
invariant-loop-number l = record {
  ordered : IsOrdered nat_cmp l.arrivals;
  members : (m : ℕ) → contains nat_cmp l.arrivals m ≡ (contains nat_cmp l.initial.arrivals m && not (list_any (λ n. has_arrival m (active_of n l.files.items)) (take l.number-index l.gone)));
}
