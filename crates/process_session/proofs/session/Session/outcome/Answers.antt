use Rattle.std.proofs.Common.{sym, subst}
use Rattle.flowfile_record.specs.Outcome.{IsOutcome}
use Rattle.process_session.specs.Bench.{Bench, sizes_of}
use Rattle.process_session.specs.Inside.{bench_in}
use Rattle.process_session.specs.Sound.{IsSoundBench}
use Rattle.process_session.proofs.FinishFiles.{outcome_from}
use Rattle.process_session.proofs.FinishLaws.{is_outcome}
use Rattle.process_session.proofs.session.Session.outcome.Goals as goal

pub returns-clause-outcome : goal.returns-clause-outcome
returns-clause-outcome c = outcome_from (bench_in c.self.inside) c.args.self c.args.plan.sent c.outcome_by-outcome.result c.self.view_is c.outcome_by-outcome.ensures.files c.outcome_by-outcome.ensures.sent c.requires.plan.sent

pub returns-clause-sound : goal.returns-clause-sound
returns-clause-sound c =
    let bench : Bench = c.args.self in
    let sound : IsSoundBench bench c.self.inside.counted = subst (λ (b : Bench). IsSoundBench b c.self.inside.counted) c.self.view_is c.self.invariant in
    subst (IsOutcome bench.relationships (sizes_of bench.sources)) (sym (returns-clause-outcome c)) (is_outcome bench c.self.inside.counted c.requires.ended sound)
