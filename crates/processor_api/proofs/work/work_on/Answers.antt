use Rattle.std.proofs.Common.{◌≡◌, ℕ, List, subst}
use Rattle.std.specs.Prelude.{IfOk}
use Rattle.flowfile_record.specs.Outcome.{IsOutcome}
use Rattle.process_session.specs.Bench.{sizes_of}
use Rattle.process_session.specs.declared.file.Source.{Source}
use Rattle.processor_api.proofs.Began.{work-relationships, work-sources}
use Rattle.processor_api.proofs.work.work_on.Goals as goal

pub returns-clause-sound : goal.returns-clause-sound
returns-clause-sound g c =
    let many = work-relationships c.args.relationships c.args.taken c.in_ok-session.session c.act.new.session c.in_ok-session.ensures c.in_ok-act.ensures.acts.kept in
    let sources = work-sources c.args.relationships c.args.taken c.in_ok-session.session c.act.new.session c.in_ok-session.ensures c.in_ok-act.ensures.acts.kept in
    let P : ℕ → List Source → Type 0 = λ n sources. IfOk c.finished.result (λ done. IsOutcome n (sizes_of sources) done.0) in
    subst (P c.args.relationships) sources (subst (λ (n : ℕ). P n c.act.new.session.sources) many c.finished.ensures.sound)

pub returns-clause-sources : goal.returns-clause-sources
returns-clause-sources g c =
    let P : List Source → Type 0 = λ sources. IfOk c.finished.result (λ done. done.1 ≡ sources) in
    subst P (work-sources c.args.relationships c.args.taken c.in_ok-session.session c.act.new.session c.in_ok-session.ensures c.in_ok-act.ensures.acts.kept) c.finished.ensures.sources
