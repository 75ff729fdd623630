use Rattle.std.proofs.Common.{◌≡◌, ap, ◌∙◌, sym, subst, refl, inl, inr, false}
use Rattle.std.specs.Prelude.{Err}
use Rattle.std.proofs.lemmas.Result.{err_from_is_err_and}
use Rattle.flowfile_record.specs.Stored.{Kept}
use Rattle.store_core.specs.Flow.{flow_in}
use Rattle.store_core.specs.Store.{StoreState, kept_by}
use Rattle.engine_change.specs.Committing.{identity_of}
use Rattle.engine_queues.specs.Beside.{out_without}
use Rattle.engine_queues.specs.Queues.{AreQueuesOf}
use Rattle.engine_queues.specs.Settling.{IsKeptAfter}
use Rattle.engine_queues.proofs.ForCallers.{are_same_queues, may_still_settle}
use Rattle.run_law.proofs.Writing.{touches_log}
use Rattle.engine_steps.specs.declared.error.EngineError.{EngineError}
use Rattle.engine_steps.proofs.Commits.{committed, committed_between, flow_after, id_after, kept_after, limit_of, settles_over, still_works}
use Rattle.engine_steps.proofs.Staying.{live_behind, others_stay}
use Rattle.engine_steps.proofs.Written.{IsBefore, cut_off_by, lot_after, refused_before, refused_by_disk, refused_unput, unwritten_by, works_roomy}
use Rattle.run_law.specs.Puts.{outgoing}
use Rattle.engine_steps.proofs.sending.commit.Goals as goal

pub returns-in_err-moment-clause-alone : goal.returns-in_err-moment-clause-alone
returns-in_err-moment-clause-alone g c =
    touches_log g.D.Disk.moment g.D.Disk.images c.args.store.now.log.number c.prepare.new.self.log.number c.args.disk.now c.commit.new.disk (ap (λ (s : StoreState). s.log.number) c.prepare.ensures.same)
    c.commit.ensures.touched.alone

pub returns-clause-alone : goal.returns-clause-alone
returns-clause-alone g c =
    touches_log g.D.Disk.moment g.D.Disk.images c.args.store.now.log.number c.prepare.new.self.log.number c.args.disk.now c.commit.new.disk (ap (λ (s : StoreState). s.log.number) c.prepare.ensures.same)
    c.commit.ensures.touched.alone

pub settle-requires-clause-kept : goal.settle-requires-clause-kept
settle-requires-clause-kept g c =
    let D = g.D.Disk in
    let s = c.args.store.now in
    let t = c.prepare.new.self in
    let flow = c.requires.work.0 in
    let taken = c.requires.work.1 in
    let queued = c.requires.work.2 in
    let works : t.failed ≡ false = works_roomy s t t.memory.room c.prepare.ensures.same queued.work.works in
    let over = settles_over D.tells D.held D.moment D.images flow s taken c.args.queues.now c.args.disk.now c.args.changed.settled queued c.holds_its_state.ensures.kept.0 c.holds_its_state.ensures.kept.1 c.requires.change.may.settles in (
      flow,
      kept_by s,
      taken,
      may_still_settle c.args.queues.now c.reserve.new.self c.reserve.ensures.same flow (kept_by s) taken c.args.changed.settled over,
      subst (λ (k : Kept). IsKeptAfter (kept_by s) c.args.connection c.args.changed.settled k) (sym c.state.ensures.kept)
          (kept_after c.in_ok-prepared.prepared s t c.commit.new.self t.memory.room c.args.changed.settled c.args.connection c.prepare.ensures.same (c.commit.ensures.changed works).change
          c.in_ok-prepared.ensures.entry c.requires.change.gone),
    )

pub returns-in_err-prepared-clause-written : goal.returns-in_err-prepared-clause-written
returns-in_err-prepared-clause-written g c =
    let D = g.D.Disk in
    let out = outgoing g.O.Outbox.standing g.O.Outbox.puts c.args.outbox.now in
    let p = err_from_is_err_and c.from_residual.result c.from_residual.ensures.1 in
    let refusal = c.in_err-prepared.field-0.0 in
    unwritten_by D.tells D.held D.moment D.images g.O.Outbox.tells c.args.store.now c.prepare.new.self c.args.queues.now c.args.queues.now c.args.changed out out c.args.disk.now c.args.disk.now
    p.0 (subst IsBefore (sym p.2) (refused_before refusal c.in_err-prepared.ensures.others)) refl c.prepare.ensures.same (λ flow taken are. are)
    (λ not. refl) (λ put. absurd (refused_unput refusal c.in_err-prepared.ensures.others (sym p.2 ∙ put)))
    (λ limit limited. c.prepare.ensures.limit limit (c.in_err-prepared.was ∙ ap Err (limit_of refusal limit (sym p.2 ∙ limited))))
    c.from_residual.result p.1

pub returns-in_err-reserve-clause-written : goal.returns-in_err-reserve-clause-written
returns-in_err-reserve-clause-written g c =
    let D = g.D.Disk in
    let out = outgoing g.O.Outbox.standing g.O.Outbox.puts c.args.outbox.now in
    let p = err_from_is_err_and c.from_residual-in_err-reserve.result c.from_residual-in_err-reserve.ensures.1 in
    unwritten_by D.tells D.held D.moment D.images g.O.Outbox.tells c.args.store.now c.prepare.new.self c.args.queues.now c.reserve.new.self c.args.changed out out c.args.disk.now c.args.disk.now
    p.0 (inl p.2) refl c.prepare.ensures.same (λ flow taken. are_same_queues c.args.queues.now c.reserve.new.self c.reserve.ensures.same flow (kept_by c.args.store.now) taken)
    (λ not. refl) (λ outbox. absurd (cc (p.2, outbox))) (λ limit limited. absurd (cc (p.2, limited)))
    c.from_residual-in_err-reserve.result p.1

pub returns-in_err-send-clause-written : goal.returns-in_err-send-clause-written
returns-in_err-send-clause-written g c =
    let D = g.D.Disk in
    let out = outgoing g.O.Outbox.standing g.O.Outbox.puts c.args.outbox.now in
    let p = err_from_is_err_and c.from_residual-in_err-send.result c.from_residual-in_err-send.ensures.1 in
    let failed = c.in_err-send.ensures.failed in
    let outbox : p.0 ≡ EngineError.Put = p.2 ∙ failed.0 in
    unwritten_by D.tells D.held D.moment D.images g.O.Outbox.tells c.args.store.now c.prepare.new.self c.args.queues.now c.reserve.new.self c.args.changed out (outgoing g.O.Outbox.standing g.O.Outbox.puts c.send.new.outbox) c.args.disk.now c.args.disk.now
    p.0 (inr (inl outbox)) refl c.prepare.ensures.same (λ flow taken. are_same_queues c.args.queues.now c.reserve.new.self c.reserve.ensures.same flow (kept_by c.args.store.now) taken)
    (λ not. absurd (not outbox)) (λ is. failed.1) (λ limit limited. absurd (cc (outbox, limited)))
    c.from_residual-in_err-send.result p.1

pub returns-in_err-moment-clause-written : goal.returns-in_err-moment-clause-written
returns-in_err-moment-clause-written g c =
    let D = g.D.Disk in
    let s = c.args.store.now in
    let t = c.prepare.new.self in
    let p = err_from_is_err_and c.from_residual-in_err-moment.result c.from_residual-in_err-moment.ensures.1 in
    let change = (c.commit.ensures.changed (works_roomy s t t.memory.room c.prepare.ensures.same c.requires.work.2.work.works)).change in
    cut_off_by D.tells D.held D.moment D.images g.O.Outbox.tells s c.commit.new.self c.args.queues.now c.reserve.new.self c.args.changed (outgoing g.O.Outbox.standing g.O.Outbox.puts c.args.outbox.now) (outgoing g.O.Outbox.standing g.O.Outbox.puts c.send.new.outbox) c.args.disk.now c.commit.new.disk
    p.0 (p.2 ∙ refused_by_disk c.in_err-moment.field-0.0 c.in_err-moment.ensures.refusal.kinds)
    (λ flow before after work stands makes. committed_between D.held D.moment D.images flow s t t.memory.room c.args.changed.settled c.in_ok-prepared.prepared.settled c.args.disk.now c.commit.new.disk before after
    c.prepare.ensures.same c.in_ok-prepared.ensures.prepared.0 work.flow_is stands makes work.works (λ works. (c.commit.ensures.changed works).states))
    c.in_ok-send.ensures.sent (lot_after c.in_ok-prepared.prepared s t c.commit.new.self t.memory.room c.prepare.ensures.same change)
    (id_after c.in_ok-prepared.prepared t c.commit.new.self change ∙ ap (λ (u : StoreState). (kept_by u).store) c.prepare.ensures.same)
    c.from_residual-in_err-moment.result p.1

pub returns-clause-written : goal.returns-clause-written
returns-clause-written g c =
    let D = g.D.Disk in
    let s = c.args.store.now in
    let t = c.prepare.new.self in
    let same = c.prepare.ensures.same in
    let gone = c.args.changed.settled.gone in
    let change = (c.commit.ensures.changed (works_roomy s t t.memory.room same c.requires.work.2.work.works)).change in
    let after : IsKeptAfter (kept_by s) c.args.connection c.args.changed.settled (kept_by c.commit.new.self) =
    kept_after c.in_ok-prepared.prepared s t c.commit.new.self t.memory.room c.args.changed.settled c.args.connection same change c.in_ok-prepared.ensures.entry c.requires.change.gone in
    let stay = others_stay (kept_by s) (kept_by c.commit.new.self) c.args.connection c.args.changed.settled c.holds_its_state.ensures.kept.1 c.requires.change.may.settles after in
    record {
      stepped = λ flow before after work stands makes.
          committed D.held D.moment D.images flow s t t.memory.room c.args.changed.settled c.in_ok-prepared.prepared.settled c.args.disk.now c.commit.new.disk before after
          same c.in_ok-prepared.ensures.prepared.0 work.flow_is stands makes work.works (λ works. (c.commit.ensures.changed works).states) c.in_ok-moment.ensures.acknowledged.states;
      cut_off = λ is. absurd cc;
      moment_is = c.in_ok-moment.ensures.acknowledged.moment;
      sent = c.in_ok-send.ensures.sent;
      sent_before = λ is. absurd cc;
      unwritten = λ error is. absurd cc;
      unsent = λ error is. absurd cc;
      put = λ is. absurd cc;
      passes = λ limit is. absurd cc;
      kinds = tt;
      work = λ not flow taken queued.
          let works : t.failed ≡ false = works_roomy s t t.memory.room same queued.work.works in
          let over = settles_over D.tells D.held D.moment D.images flow s taken c.args.queues.now c.args.disk.now c.args.changed.settled queued c.holds_its_state.ensures.kept.0 c.holds_its_state.ensures.kept.1 c.requires.change.may.settles in
          record {
            work = record {
              works = still_works c.commit.result t c.commit.new.self c.in_ok-moment.moment c.in_ok-moment.was works c.commit.ensures.refusal.failed;
              flow_is = flow_after c.in_ok-prepared.prepared t c.commit.new.self (identity_of flow) (c.commit.ensures.changed works).change (ap (λ (u : StoreState). flow_in (kept_by u)) same ∙ queued.work.flow_is);
              kept = c.commit.ensures.kept;
            };
            are = subst (λ (k : Kept). AreQueuesOf flow k (out_without gone taken) c.settle.new.self) c.state.ensures.kept
                (c.settle.ensures flow (kept_by s) taken (may_still_settle c.args.queues.now c.reserve.new.self c.reserve.ensures.same flow (kept_by s) taken c.args.changed.settled over)
                (subst (λ (k : Kept). IsKeptAfter (kept_by s) c.args.connection c.args.changed.settled k) (sym c.state.ensures.kept) after));
            live = live_behind gone taken (kept_by s).files (kept_by c.commit.new.self).files stay queued.live;
          };
      stay = λ not. stay;
      lot = lot_after c.in_ok-prepared.prepared s t c.commit.new.self t.memory.room same change;
      id = id_after c.in_ok-prepared.prepared t c.commit.new.self change ∙ ap (λ (u : StoreState). (kept_by u).store) same;
    }
