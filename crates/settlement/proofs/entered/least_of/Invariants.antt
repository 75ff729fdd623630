use Rattle.std.proofs.Common.{◌≡◌, map, drop}
use Rattle.std.specs.Prelude.{slice_index}
use Rattle.machine_model.specs.Placing.{least}
use Rattle.settlement.specs.Ending.{least_from}
use Rattle.settlement.proofs.entered.least_of.Given as goal

abbrev pub invariant-loop-place : goal.invariant-loop-place
invariant-loop-place l =
    least_from l.least (map (slice_index l.moments) (drop l.place-index l.places)) ≡ least (map (slice_index l.moments) l.places)
