use Rattle.std.proofs.Common.{◌≡◌, take}
use Rattle.std.specs.Prelude.{fold}
use Rattle.std.specs.List.{flat_map}
use Rattle.kept_state.specs.Applied.{batch_swapped_out}
use Rattle.store_core.specs.Kept.{with_least}
use Rattle.store_core.proofs.reading.least_swapped.Given as goal

abbrev pub invariant-loop-entry : goal.invariant-loop-entry
invariant-loop-entry l = l.least ≡ fold with_least l.fn.first (flat_map (λ e. batch_swapped_out e.1) (take l.entry-index l.entries))
