use Rattle.std.proofs.Common.{drop, map}
use Rattle.proc_text.specs.Parting.{pair_told}
use Rattle.proc_text.proofs.Telling.{Telling}
use Rattle.proc_text.proofs.parting.add_told_part.Given as goal

abbrev pub invariant-loop-attribute : goal.invariant-loop-attribute
invariant-loop-attribute l = Telling l.fn.session l.session l.offset l.size (map pair_told l.told) (map pair_told (drop l.attribute-index l.told))
