use Rattle.std.proofs.Common.{◌∙◌, sym, subst}
use Rattle.std.specs.Prelude.{IfErr, Result}
use Rattle.flow_scheduler.specs.declared.run.Ran.{Ran}
use Rattle.run_top.specs.declared.answer.Answer.{Answer}
use Rattle.run_top.specs.Opening.{IsOfStore}
use Rattle.run_top.proofs.printing.show.Goals as goal

pub returns-in-Err-clause-faults : goal.returns-in-Err-clause-faults
returns-in-Err-clause-faults g c = record {
  never_falls = c.refuse.ensures.faults;
  rose = λ is. absurd (subst IsOfStore (sym c.refuse.ensures.same ∙ is) (subst (λ (r : Result Ran Answer). IfErr r IsOfStore) c.in-Err.is c.requires.refused));
}
