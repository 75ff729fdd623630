use Rattle.flow_report.proofs.Writing.{writes-failed, writes-then}
use Rattle.run_top.proofs.printing.write_closed.Goals as goal

pub returns-in-Ok-clause-written : goal.returns-in-Ok-clause-written
returns-in-Ok-clause-written g c told = writes-then _ _ _ _ _ _ (c.in-Ok.ensures.written told) (c.write_end.ensures.written told)

pub returns-in-Err-clause-written : goal.returns-in-Err-clause-written
returns-in-Err-clause-written g c told = writes-failed _ _ _ _ _ (c.in-Err.ensures.written told)
