use Rattle.std.proofs.Common.{◌≡◌, ◌∙◌, ap, rules, subst, sym, true}
use Rattle.std.specs.Prelude.{Err, None}
use Rattle.engine_steps.specs.Engine.{EngineState}
use Rattle.engine_steps.specs.Ready.{expiry_in}
use Rattle.engine_steps.specs.Running.{Stops, undone_step}
use Rattle.engine_steps.specs.declared.error.EngineError.{EngineError}
use Rattle.engine_steps.proofs.engine.Engine.tend.Goals as goal

pub returns-in-Err-Disk-clause-run : goal.returns-in-Err-Disk-clause-run
returns-in-Err-Disk-clause-run g c telling =
    let tells = g.D.Disk.tells in
    let held = g.D.Disk.held in
    let moment = g.D.Disk.moment in
    let images = g.D.Disk.images in
    let new = c.tend_first-tended.new.disk in
    let i = c.self-2.inside in
    let e : EngineState = record { flow = i.flow.now; store = i.store; queues = i.queues; listing = i.listing; last = i.last; journal = i.journal.items; most = i.most; checkpoint = i.checkpoint; since_reclaim = i.since_reclaim; failed = i.has_failed; tended = i.tended; out = i.out.items; next_session = i.next_session } in
    record {
      goes_on = λ works. absurd cc;
      idle = λ works. absurd cc;
      stopped = λ error is works opened first start time left out by run.
          let told : error ≡ EngineError.Disk = cc (is, c.in-Err-Disk.field-0-is) in
          subst (λ (er : EngineError). Stops er tells held moment images (record e { failed = true }) opened first start c.args.moment new left out (undone_step er (expiry_in c.args.self.now c.args.moment))) (sym told)
          (subst (λ (u : EngineState). Stops EngineError.Disk tells held moment images u opened first start c.args.moment new left out None) (sym c.self-2.view_is)
          ((c.tend_first-tended.ensures.run telling).stopped EngineError.Disk (is ∙ ap Err told) opened first start time left out by run));
    }

pub returns-else-self-clause-run : goal.returns-else-self-clause-run
returns-else-self-clause-run g c telling =
    let other : c.tend_first-tended.result ≡ Err EngineError.Disk → ⊥ = λ is. search rules in
    record {
      goes_on = λ works opened first start time left out by run. (c.tend_first-tended.ensures.run telling).goes_on other opened first start time left out by run;
      idle = λ works none opened first start time left out run. (c.tend_first-tended.ensures.run telling).idle other none opened first start time left out run;
      stopped = λ error is works opened first start time left out by run. (c.tend_first-tended.ensures.run telling).stopped error is opened first start time left out by run;
    }

pub returns-else-self-2-clause-run : goal.returns-else-self-2-clause-run
returns-else-self-2-clause-run g c telling =
    let other : c.tend_first-tended.result ≡ Err EngineError.Disk → ⊥ = λ is. cc in
    record {
      goes_on = λ works opened first start time left out by run. (c.tend_first-tended.ensures.run telling).goes_on other opened first start time left out by run;
      idle = λ works none opened first start time left out run. (c.tend_first-tended.ensures.run telling).idle other none opened first start time left out run;
      stopped = λ error is works opened first start time left out by run. (c.tend_first-tended.ensures.run telling).stopped error is opened first start time left out by run;
    }
