use Rattle.std.proofs.Common.{◌≡◌, ◌+◌, map, take, sum_by}
use Rattle.flowfile_record.specs.Attributes.{pair_size}
use Rattle.flowfile_record.specs.declared.attributes.TheConstants.{COUNT_SIZE}
use Rattle.flowfile_record.specs.HeldPairs.{key_and_value}
use Rattle.flowfile_record.proofs.attributes.size_of_all.Given as goal

abbrev pub invariant-loop-pair : goal.invariant-loop-pair
invariant-loop-pair l = l.size ≡ sum_by pair_size (map key_and_value (take l.pair-index l.pairs)) + COUNT_SIZE
