use Rattle.std.proofs.Common.{◌≡◌, ◌+◌, length, drop}
use Rattle.settlement.specs.Placing.{wanted}
use Rattle.settlement.proofs.placing.count_clones.Given as goal

abbrev pub invariant-loop-file : goal.invariant-loop-file
invariant-loop-file l = l.count + length (wanted (drop l.file-index l.files)) ≡ length (wanted l.files)
