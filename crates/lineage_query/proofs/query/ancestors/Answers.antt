use Rattle.std.proofs.Common.{sym, subst}
use Rattle.machine_model.specs.Lineage.{IsAncestor, Lists}
use Rattle.lineage_query.proofs.Telling.{ancestors-from, ancestors-to}
use Rattle.lineage_query.proofs.query.ancestors.Goals as goal

pub returns-clause-ancestors : goal.returns-clause-ancestors
returns-clause-ancestors g c = subst (Lists (IsAncestor c.args.index.now c.args.number)) (sym c.from.ensures) (ancestors-from c.args.index.now c.args.number c.in_ok-files.files.items c.in_ok-files.ensures.files)

pub returns-clause-steps : goal.returns-clause-steps
returns-clause-steps g c = λ list is. c.walk.ensures.steps list (ancestors-to c.args.index.now c.args.number list is)

pub returns-in_err-files-clause-steps : goal.returns-in_err-files-clause-steps
returns-in_err-files-clause-steps g c = λ list is. c.walk.ensures.steps list (ancestors-to c.args.index.now c.args.number list is)
