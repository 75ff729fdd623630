use Rattle.std.proofs.Common.{◌≡◌, length}
use Rattle.checkpoint_store.specs.Reading.{are_distinct_names}
use Rattle.checkpoint_store.proofs.part.are_distinct.Given as goal

abbrev pub invariant-loop-name : goal.invariant-loop-name
invariant-loop-name l = are_distinct_names l.names ≡ are_distinct_names l.rest

abbrev pub decreases-loop-name : goal.decreases-loop-name
decreases-loop-name l = length l.rest
