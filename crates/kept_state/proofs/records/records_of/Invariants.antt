use Rattle.std.proofs.Common.{◌≡◌, map, take}
use Rattle.kept_state.specs.Changes.{record_of}
use Rattle.kept_state.proofs.records.records_of.Given as goal

abbrev pub invariant-loop-one : goal.invariant-loop-one
invariant-loop-one l = l.records.items ≡ map record_of (take l.one-index l.placed)
