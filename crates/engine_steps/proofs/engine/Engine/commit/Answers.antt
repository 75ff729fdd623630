use Rattle.std.proofs.Common.{◌≡◌, ◌∙◌, ap, not, refl, rules, subst, sym, true, true≢false}
use Rattle.std.specs.Prelude.{Err, None, Some}
use Rattle.engine_steps.specs.Engine.{EngineState}
use Rattle.engine_session.specs.Done.{step_done}
use Rattle.engine_steps.specs.Running.{Stops, undone_step}
use Rattle.engine_steps.specs.declared.error.EngineError.{EngineError}
use Rattle.run_law.specs.Puts.{outgoing}
use Rattle.engine_steps.proofs.OwnJob.{is_flying, is_not_flying}
use Rattle.engine_steps.proofs.engine.Engine.commit.Goals as goal

pub returns-in-Err-Disk-clause-run : goal.returns-in-Err-Disk-clause-run
returns-in-Err-Disk-clause-run g c telling in_telling out_telling =
    let D = g.D.Disk in
    let new = c.commit_job-committed.new.disk in
    let left = g.I.Inbox.left c.commit_job-committed.new.inbox in
    let out = outgoing g.O.Outbox.standing g.O.Outbox.puts c.commit_job-committed.new.outbox in
    let i = c.self-2.inside in
    let e : EngineState = record { flow = i.flow.now; store = i.store; queues = i.queues; listing = i.listing; last = i.last; journal = i.journal.items; most = i.most; checkpoint = i.checkpoint; since_reclaim = i.since_reclaim; failed = i.has_failed; tended = i.tended; out = i.out.items; next_session = i.next_session } in
    record {
      goes_on = λ works. absurd cc;
      stopped = λ error is works opened first start time within run.
          let told : error ≡ EngineError.Disk = cc (is, c.in-Err-Disk.field-0-is) in
          subst (λ (er : EngineError). Stops er D.tells D.held D.moment D.images (record e { failed = true }) opened first start time new left out (undone_step er (Some (step_done c.args.done)))) (sym told)
          (subst (λ (u : EngineState). Stops EngineError.Disk D.tells D.held D.moment D.images u opened first start time new left out None) (sym c.self-2.view_is)
          ((c.commit_job-committed.ensures.run telling in_telling out_telling).stopped EngineError.Disk (is ∙ ap Err told) opened first start time within run));
    }

pub returns-else-self-clause-run : goal.returns-else-self-clause-run
returns-else-self-clause-run g c telling in_telling out_telling =
    let other : c.commit_job-committed.result ≡ Err EngineError.Disk → ⊥ = λ is. search rules in
    record {
      goes_on = λ works unmoved. (c.commit_job-committed.ensures.run telling in_telling out_telling).goes_on other works unmoved;
      stopped = λ error is works. (c.commit_job-committed.ensures.run telling in_telling out_telling).stopped error is;
    }

pub returns-else-self-2-clause-run : goal.returns-else-self-2-clause-run
returns-else-self-2-clause-run g c telling in_telling out_telling =
    let other : c.commit_job-committed.result ≡ Err EngineError.Disk → ⊥ = λ is. search rules in
    record {
      goes_on = λ works unmoved. (c.commit_job-committed.ensures.run telling in_telling out_telling).goes_on other works unmoved;
      stopped = λ error is works. (c.commit_job-committed.ensures.run telling in_telling out_telling).stopped error is;
    }

pub returns-then-is_none-clause-refusal : goal.returns-then-is_none-clause-refusal
returns-then-is_none-clause-refusal g c =
    let none = is_not_flying c.args.done.session c.args.self.now.out _ c.flight.result c.flight.ensures (c.is_none.ensures ∙ ap not c.if-is_none.true) in
    record {
      asks = record {
        exactly = (λ is. none, λ is. refl);
        untouched = λ is. (refl, refl);
        reopen = λ flying. absurd (true≢false (sym flying ∙ none));
      };
      known = search rules;
      why = search rules;
      devices = search rules;
    }

pub returns-then-self-clause-refusal : goal.returns-then-self-clause-refusal
returns-then-self-clause-refusal g c =
    let flying = is_flying c.args.done.session c.args.self.now.out _ c.flight.result c.flight.ensures (c.is_none.ensures ∙ ap not c.if-is_none.false) in
    record {
      asks = record {
        exactly = (λ is. absurd cc, λ none. absurd (true≢false (sym flying ∙ none)));
        untouched = λ is. absurd cc;
        reopen = λ flies. record { exactly = search rules; untouched = search rules; from = search rules; from_put = search rules; only = search rules };
      };
      known = search rules;
      why = search rules;
      devices = search rules;
    }

pub commit_job-committed-requires-clause-flying : goal.commit_job-committed-requires-clause-flying
commit_job-committed-requires-clause-flying g c κs within = is_flying c.args.done.session c.args.self.now.out _ c.flight.result c.flight.ensures (c.is_none.ensures ∙ ap not c.if-is_none.false)

pub returns-in-Err-Disk-clause-refusal : goal.returns-in-Err-Disk-clause-refusal
returns-in-Err-Disk-clause-refusal g c =
    let flying = is_flying c.args.done.session c.args.self.now.out _ c.flight.result c.flight.ensures (c.is_none.ensures ∙ ap not c.if-is_none.false) in
    record {
      asks = record {
        exactly = (λ is. absurd (c.commit_job-committed.ensures.flying is), λ none. absurd (true≢false (sym flying ∙ none)));
        untouched = λ is. absurd (c.commit_job-committed.ensures.flying is);
        reopen = λ flies. record { exactly = search rules; untouched = search rules; from = search rules; from_put = search rules; only = search rules };
      };
      known = search rules;
      why = search rules;
      devices = search rules;
    }

pub returns-else-self-clause-refusal : goal.returns-else-self-clause-refusal
returns-else-self-clause-refusal g c =
    let flying = is_flying c.args.done.session c.args.self.now.out _ c.flight.result c.flight.ensures (c.is_none.ensures ∙ ap not c.if-is_none.false) in
    record {
      asks = record {
        exactly = (λ is. absurd (c.commit_job-committed.ensures.flying is), λ none. absurd (true≢false (sym flying ∙ none)));
        untouched = λ is. absurd (c.commit_job-committed.ensures.flying is);
        reopen = λ flies. record { exactly = search rules; untouched = search rules; from = search rules; from_put = search rules; only = search rules };
      };
      known = search rules;
      why = search rules;
      devices = search rules;
    }

pub returns-else-self-2-clause-refusal : goal.returns-else-self-2-clause-refusal
returns-else-self-2-clause-refusal g c =
    let flying = is_flying c.args.done.session c.args.self.now.out _ c.flight.result c.flight.ensures (c.is_none.ensures ∙ ap not c.if-is_none.false) in
    record {
      asks = record {
        exactly = (λ is. absurd (c.commit_job-committed.ensures.flying is), λ none. absurd (true≢false (sym flying ∙ none)));
        untouched = λ is. absurd (c.commit_job-committed.ensures.flying is);
        reopen = λ flies. record { exactly = search rules; untouched = search rules; from = search rules; from_put = search rules; only = search rules };
      };
      known = search rules;
      why = search rules;
      devices = search rules;
    }
