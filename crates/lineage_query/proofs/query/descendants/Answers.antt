use Rattle.std.proofs.Common.{sym, subst}
use Rattle.machine_model.specs.Lineage.{IsDescendant, Lists}
use Rattle.lineage_query.proofs.Telling.{descendants-from, descendants-to}
use Rattle.lineage_query.proofs.query.descendants.Goals as goal

pub returns-clause-descendants : goal.returns-clause-descendants
returns-clause-descendants g c = subst (Lists (IsDescendant c.args.index.now c.args.number)) (sym c.from.ensures) (descendants-from c.args.index.now c.args.number c.in_ok-files.files.items c.in_ok-files.ensures.files)

pub returns-clause-steps : goal.returns-clause-steps
returns-clause-steps g c = λ list is. c.walk.ensures.steps list (descendants-to c.args.index.now c.args.number list is)

pub returns-in_err-files-clause-steps : goal.returns-in_err-files-clause-steps
returns-in_err-files-clause-steps g c = λ list is. c.walk.ensures.steps list (descendants-to c.args.index.now c.args.number list is)
