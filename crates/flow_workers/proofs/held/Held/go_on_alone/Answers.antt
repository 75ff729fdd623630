use Rattle.flow_workers.proofs.held.Held.go_on_alone.Goals as goal

pub work_on-requires-clause-job : goal.work_on-requires-clause-job
work_on-requires-clause-job g c κs within = c.turn.ensures.job c.in-Job.job c.in-Job.is
