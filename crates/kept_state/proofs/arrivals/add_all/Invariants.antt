use Rattle.std.proofs.Common.{◌≡◌, ◌==◌, ◌||◌, ℕ, drop, take}
use Rattle.std.specs.List.{list_any}
use Rattle.std.specs.Ordering.{nat_cmp}
use Rattle.std.specs.BTreeSet.{contains, IsOrdered}
use Rattle.kept_state.specs.Arrivals.{are_fresh}
use Rattle.kept_state.proofs.arrivals.add_all.Given as goal

abbrev pub invariant-loop-number : goal.invariant-loop-number
invariant-loop-number l = record {
  ordered : IsOrdered nat_cmp l.set;
  fresh : are_fresh (contains nat_cmp l.set) (drop l.number-index l.numbers) ≡ are_fresh (contains nat_cmp l.initial.set) l.numbers;
  members : (n : ℕ) → contains nat_cmp l.set n ≡ (contains nat_cmp l.initial.set n || list_any (λ m. m == n) (take l.number-index l.numbers));
}
