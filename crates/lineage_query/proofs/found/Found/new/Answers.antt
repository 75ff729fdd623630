use Rattle.std.proofs.Common.{arith, sym, subst}
use lib.Dec.{eqb}
use Rattle.std.specs.List.{IsDistinct}
use Rattle.std.proofs.lemmas.Grind.{common_steps}
use Rattle.lineage_query.proofs.Seen.{none-apart}
use Rattle.lineage_query.proofs.found.Found.new.Goals as goal

pub invariant_of-result : goal.invariant_of-result
invariant_of-result c = (subst (IsDistinct eqb) (sym c.new.ensures.items) none-apart, λ file. grind (arith, common_steps))
