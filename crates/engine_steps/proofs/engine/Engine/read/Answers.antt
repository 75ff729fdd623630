use Rattle.std.proofs.Common.{rules, ◌≡◌, ◌∙◌, inl, inr, Bor, ap, refl, true, false, not, sym}
use Rattle.std.specs.Prelude.{IsErrOf}
use Rattle.content_repo.specs.Claims.{content_in}
use Rattle.store_core.specs.Store.{kept_by}
use Rattle.engine_session.specs.Done.{MayWorkOn}
use Rattle.engine_steps.specs.Engine.{EngineState}
use Rattle.engine_steps.specs.Flights.{is_in_flight}
use Rattle.engine_steps.specs.OwnJob.{IsJobOf}
use Rattle.engine_steps.specs.declared.error.EngineError.{EngineError}
use Rattle.engine_steps.specs.declared.flight.InFlight.{InFlight}
use Rattle.engine_steps.proofs.OwnJob.{is_flying, is_not_flying, job_of_session}
use Rattle.engine_steps.proofs.ReadRefusal.{refuses_anew, refuses_read, refuses_unknown}
use Rattle.engine_steps.proofs.engine.Engine.read.Goals as goal

pub returns-then-is_none-clause-refusal : goal.returns-then-is_none-clause-refusal
returns-then-is_none-clause-refusal g c =
    refuses_unknown c.args.session g.D.Disk.tells g.D.Disk.faults g.I.Inbox.faults g.O.Outbox.faults c.args.self.now c.args.disk.now c.args.inbox.now c.args.outbox.now
    (is_not_flying c.args.session c.args.self.now.out (λ (f : Bor InFlight). f.now) c.flight.result c.flight.ensures (c.is_none.ensures ∙ ap not c.if-is_none.true))

pub returns-then-self-clause-refusal : goal.returns-then-self-clause-refusal
returns-then-self-clause-refusal g c =
    let flying : is_in_flight c.args.session c.args.self.now.out ≡ true =
    is_flying c.args.session c.args.self.now.out (λ (f : Bor InFlight). f.now) c.flight.result c.flight.ensures (c.is_none.ensures ∙ ap not c.if-is_none.false) in
    refuses_anew c.args.session g.D.Disk.tells g.D.Disk.faults g.I.Inbox.faults g.O.Outbox.faults c.args.self.now c.args.disk.now c.args.inbox.now c.args.outbox.now flying
    (sym (ap (λ (e : EngineState). e.failed) c.self.view_is) ∙ c.if-self.true)

pub read_job-job-requires-clause-flying : goal.read_job-job-requires-clause-flying
read_job-job-requires-clause-flying g c κs within =
    is_flying c.args.session c.args.self.now.out (λ (f : Bor InFlight). f.now) c.flight.result c.flight.ensures (c.is_none.ensures ∙ ap not c.if-is_none.false)

pub returns-in-Err-Disk-clause-refusal : goal.returns-in-Err-Disk-clause-refusal
returns-in-Err-Disk-clause-refusal g c =
    let D = g.D.Disk in
    let I = g.I.Inbox in
    let O = g.O.Outbox in
    let flying : is_in_flight c.args.session c.args.self.now.out ≡ true =
    is_flying c.args.session c.args.self.now.out (λ (f : Bor InFlight). f.now) c.flight.result c.flight.ensures (c.is_none.ensures ∙ ap not c.if-is_none.false) in
    let works : c.args.self.now.failed ≡ false = sym (ap (λ (e : EngineState). e.failed) c.self.view_is) ∙ c.if-self.false in
    let disk : IsErrOf c.read_job-job.result EngineError.Disk = search rules in
    refuses_read c.read_job-job.result c.args.session D.tells D.held D.moment D.images D.faults I.left I.faults O.standing O.puts O.faults c.args.self.now _ c.args.self.now.store c.read_job-job.new.self.store
    c.args.disk.now c.read_job-job.new.disk c.args.inbox.now c.read_job-job.new.inbox c.args.outbox.now c.read_job-job.new.outbox flying works c.read_job-job.ensures.leaves
    (λ is. refl) (λ failed. inr (inl disk))

pub returns-else-self : goal.returns-else-self
returns-else-self g c =
    let D = g.D.Disk in
    let I = g.I.Inbox in
    let O = g.O.Outbox in
    let flying : is_in_flight c.args.session c.args.self.now.out ≡ true =
    is_flying c.args.session c.args.self.now.out (λ (f : Bor InFlight). f.now) c.flight.result c.flight.ensures (c.is_none.ensures ∙ ap not c.if-is_none.false) in
    let works : c.args.self.now.failed ≡ false = sym (ap (λ (e : EngineState). e.failed) c.self.view_is) ∙ c.if-self.false in
    let from : IsErrOf c.read_job-job.result EngineError.Disk → c.read_job-job.new.self.failed ≡ true = search rules in
    let job = job_of_session c.read_job-job.result
    (λ flight job. IsJobOf D.tells I.tells O.tells c.args.self.now (content_in (D.held c.args.disk.now)) (I.left c.args.inbox.now) (O.standing c.args.outbox.now) flight job)
    (MayWorkOn c.args.self.now.flow (kept_by c.args.self.now.store).store) c.args.session c.args.self.now.out flying c.read_job-job.ensures.job c.read_job-job.ensures.may in
    let refusal = refuses_read c.read_job-job.result c.args.session D.tells D.held D.moment D.images D.faults I.left I.faults O.standing O.puts O.faults c.args.self.now c.read_job-job.new.self c.args.self.now.store c.read_job-job.new.self.store
    c.args.disk.now c.read_job-job.new.disk c.args.inbox.now c.read_job-job.new.inbox c.args.outbox.now c.read_job-job.new.outbox flying works c.read_job-job.ensures.leaves from
    (λ failed. inl (sym (ap (λ (e : EngineState). e.failed) c.read_job-job.ensures.rest) ∙ failed)) in
    record { job = job; engine = search rules; world = search rules; usable = search rules; uncalled = c.read_job-job.ensures.uncalled; refusal = refusal }

pub returns-else-self-2-clause-job : goal.returns-else-self-2-clause-job
returns-else-self-2-clause-job g c =
    let D = g.D.Disk in
    let I = g.I.Inbox in
    let O = g.O.Outbox in
    let flying : is_in_flight c.args.session c.args.self.now.out ≡ true =
    is_flying c.args.session c.args.self.now.out (λ (f : Bor InFlight). f.now) c.flight.result c.flight.ensures (c.is_none.ensures ∙ ap not c.if-is_none.false) in
    job_of_session c.read_job-job.result
    (λ flight job. IsJobOf D.tells I.tells O.tells c.args.self.now (content_in (D.held c.args.disk.now)) (I.left c.args.inbox.now) (O.standing c.args.outbox.now) flight job)
    (MayWorkOn c.args.self.now.flow (kept_by c.args.self.now.store).store) c.args.session c.args.self.now.out flying c.read_job-job.ensures.job c.read_job-job.ensures.may

pub returns-else-self-2-clause-refusal : goal.returns-else-self-2-clause-refusal
returns-else-self-2-clause-refusal g c =
    let D = g.D.Disk in
    let I = g.I.Inbox in
    let O = g.O.Outbox in
    let flying : is_in_flight c.args.session c.args.self.now.out ≡ true =
    is_flying c.args.session c.args.self.now.out (λ (f : Bor InFlight). f.now) c.flight.result c.flight.ensures (c.is_none.ensures ∙ ap not c.if-is_none.false) in
    let works : c.args.self.now.failed ≡ false = sym (ap (λ (e : EngineState). e.failed) c.self.view_is) ∙ c.if-self.false in
    let from : IsErrOf c.read_job-job.result EngineError.Disk → c.read_job-job.new.self.failed ≡ true = search rules in
    refuses_read c.read_job-job.result c.args.session D.tells D.held D.moment D.images D.faults I.left I.faults O.standing O.puts O.faults c.args.self.now c.read_job-job.new.self c.args.self.now.store c.read_job-job.new.self.store
    c.args.disk.now c.read_job-job.new.disk c.args.inbox.now c.read_job-job.new.inbox c.args.outbox.now c.read_job-job.new.outbox flying works c.read_job-job.ensures.leaves from
    (λ failed. inl (sym (ap (λ (e : EngineState). e.failed) c.read_job-job.ensures.rest) ∙ failed))
