use Rattle.std.proofs.Common.{arith, rules, ◌≡◌, false, IsTrue, List, [], sym, ◌∙◌, ap, subst}
use Rattle.std.specs.Prelude.{Err, None}
use Rattle.std.proofs.lemmas.Result.{IfOk-weaker}
use Rattle.flowfile_record.specs.NamedFile.{NamedFile}
use Rattle.machine_model.specs.declared.flow.Flow.{Flow}
use Rattle.store_core.specs.Store.{StoreState}
use Rattle.engine_choice.specs.declared.choice.Ending.{Ending}
use Rattle.run_law.specs.Run.{HasRun, IsTidied, machine_at}
use Rattle.run_law.specs.declared.ended.Ended.{Ended}
use Rattle.run_law.specs.declared.ended.Ended.TheVariants as ended
use Rattle.flow_scheduler.specs.Driving.{IsEnded, StopsInTurn}
use Rattle.engine_steps.specs.Engine.{EngineState}
use Rattle.engine_steps.specs.Errors.{ended_by}
use Rattle.engine_steps.specs.declared.error.EngineError.{EngineError}
use Rattle.flow_scheduler.proofs.Closing.{IsNoLimit, begun, by_damage, closes_blocked, closes_limited, closes_quiet, closes_so, ends_on_faults, has_ended, limit_met, limit_of, no_limit_faults, not_opened, run_of, wanted_or_disk, works_at_limit}
use Rattle.flow_scheduler.proofs.Growing.{none_made}
use Rattle.flow_scheduler.proofs.Opened.{opened_may_turn}
use Rattle.flow_scheduler.proofs.InTurn.{in_turn_of, none_stopped, turns_of}
use Rattle.machine_model.specs.Acknowledged.{steps}
use Rattle.flow_scheduler.proofs.Turning.{each_counts_after}
use Rattle.engine_steps.proofs.Short.{ends_by_error, ends_short, no_rest}
use Rattle.run_law.proofs.Writing.{same_log, writes_in_turn, writes_none, writes_on}
use Rattle.flow_scheduler.proofs.Shown.{closes_or_fails, fails_to_open, fails_to_run, none_shown, run_shows}
use Rattle.flow_scheduler.proofs.Writes.{writes_by_close}
use Rattle.run_law.specs.Puts.{outgoing}
use Rattle.flow_scheduler.proofs.run.run_flow.Goals as goal

pub returns-in-Err-clause-headline : goal.returns-in-Err-clause-headline
returns-in-Err-clause-headline g c telling in_telling out_telling state first start run =
    let D = g.D.Disk in
    let left : List NamedFile = g.I.Inbox.left c.args.inbox.now in
    let standing = g.O.Outbox.standing c.args.outbox.now in
    let out = outgoing g.O.Outbox.standing g.O.Outbox.puts c.args.outbox.now in (
      [],
      None,
      not_opened D.tells D.held D.moment D.images c.faults_end_a_run.ensures.between c.args.flow.now c.args.store.lot start (g.C.Clock.time c.args.clock.now) (machine_at state left standing) first c.args.disk.now left
          (g.I.Inbox.left c.new.new.inbox) out c.in-Err.error c.fail.result.ended c.in-Err.ensures.kinds c.fail.ensures.ended c.new.ensures.left run,
      none_stopped c.args.flow.now start.time (g.C.Clock.time c.args.clock.now) (machine_at state left standing) [] run.within,
      tt,
      none_shown c.args.flow.now c.fail.result.closed _ _ c.fail.ensures.closed,
    )

pub returns-in-Err-clause-closed : goal.returns-in-Err-clause-closed
returns-in-Err-clause-closed g c = fails_to_open c.fail.result.closed c.fail.result.ended c.in-Err.error c.fail.ensures.closed c.fail.ensures.ended c.in-Err.ensures.kinds

pub drive-requires-clause-may : goal.drive-requires-clause-may
drive-requires-clause-may g c κs within =
    let D = g.D.Disk in
    opened_may_turn c.args.flow.now c.args.store c.args.most c.args.checkpoint c.in-Ok.engine c.in-Ok.ensures.opened D.tells D.held D.moment D.images g.I.Inbox.tells (g.I.Inbox.left c.args.inbox.now) (g.I.Inbox.left c.new.new.inbox) c.args.disk.now
    c.requires.sound c.requires.most c.requires.work c.in-Ok.ensures.listed

pub returns-in-Ok-Blocked-clause-headline : goal.returns-in-Ok-Blocked-clause-headline
returns-in-Ok-Blocked-clause-headline g c telling in_telling out_telling state first start run =
    let D = g.D.Disk in
    let left : List NamedFile = g.I.Inbox.left c.args.inbox.now in
    let standing = g.O.Outbox.standing c.args.outbox.now in
    let out = outgoing g.O.Outbox.standing g.O.Outbox.puts c.args.outbox.now in
    let now_left : List NamedFile = g.I.Inbox.left c.drive.new.inbox in
    let now_out = outgoing g.O.Outbox.standing g.O.Outbox.puts c.drive.new.outbox in
    let time = g.C.Clock.time c.drive.new.clock in
    let opened = machine_at state left standing in
    let flow : Flow = c.args.flow.now in
    let is = c.in-Ok.ensures.opened in
    let e : EngineState = c.drive.new.engine in
    let laws = g.met.D.Disk g.world.𝓛 g.world.𝓜 g.world.𝓡 ((λ s x. x), (λ x. x), (λ x. x), λ x. x) in
    let works : e.failed ≡ false = c.in-Ok-Blocked.ensures.leaves.may.may.works in
    let begins = begun D.moment D.images flow c.args.store c.args.most c.args.checkpoint c.in-Ok.engine is opened first c.args.disk.now start (g.C.Clock.time c.args.clock.now) left (g.I.Inbox.left c.new.new.inbox) out c.new.ensures.left
    (c.in-Ok.ensures.listed.coming in_telling state standing) run in
    let end = subst (λ (a : Ending). IsEnded a D.moment D.images e opened first start time c.drive.new.disk now_left now_out) c.in-Ok-Blocked.field-0-is
    (c.in-Ok-Blocked.ensures.run telling in_telling out_telling opened first start (g.C.Clock.time c.args.clock.now) (omega arith) begins) in
    let closes = closes_so c.close.result e.failed c.leave.result.ended (ended.Blocked c.in-Ok-Blocked.connection) (IsTrue D.tells → IsTidied e.flow e.store.lot (D.held c.close.new.disk)) works c.leave.ensures.ok c.leave.ensures.err (IfOk-weaker c.close.result _ _ (λ closed is_closed. is_closed.tidied) c.close.ensures.closed)
    c.close.ensures.refusal.reopen c.close.ensures.refusal.kinds in
    let ran =
    closes_blocked D.tells D.held D.moment D.images c.faults_end_a_run.ensures.between e flow c.args.store.lot (c.drive.ensures.leaves.same.flow ∙ is.flow_is) (c.drive.ensures.leaves.same.lot ∙ ap (λ (t : StoreState). t.lot) is.store_is)
    c.in-Ok-Blocked.ensures.leaves.may.may.ready.work.flow_is opened first c.drive.new.disk c.close.new.disk now_left now_out start time c.leave.result.ended (c.close.ensures.states works)
    (laws.held_is_left c.close.new.disk telling) c.close.result c.run_ends.ensures.blocked c.in-Ok-Blocked.connection end closes telling in (
      e.journal,
      None,
      ran,
      none_stopped flow start.time time opened e.journal (turns_of e.flow flow start.time time opened (steps e.journal) (sym (c.drive.ensures.leaves.same.flow ∙ is.flow_is)) end.turns),
      c.drive.ensures.clock.moments (none_made g.C.Clock.given c.in-Ok.engine.journal c.in-Ok.ensures.opened.journal),
      run_shows c.names_are_lost_by_taking.ensures.one_step D.tells D.held D.moment D.images flow c.in-Ok.engine e state left now_left standing now_out first c.drive.new.disk c.close.new.disk start time end.reached ran.reached
          c.close.result c.leave.result.closed (c.drive.ensures.leaves.same.flow ∙ is.flow_is) c.drive.ensures.leaves.same.too_large (c.in-Ok.ensures.listed.coming in_telling state standing) (c.in-Ok.ensures.listed.counted in_telling) end.to ran.ran.replays
          c.leave.ensures.closed c.close.ensures.closed c.close.ensures.shows telling,
    )

pub returns-in-Ok-Blocked-clause-closed : goal.returns-in-Ok-Blocked-clause-closed
returns-in-Ok-Blocked-clause-closed g c =
    closes_or_fails c.close.result c.leave.result.ended (ended.Blocked c.in-Ok-Blocked.connection) c.leave.result.closed c.leave.ensures.closed c.leave.ensures.ok c.leave.ensures.err c.close.ensures.refusal.kinds (λ fault. fault)

pub returns-in-Ok-Blocked-clause-checkpointed : goal.returns-in-Ok-Blocked-clause-checkpointed
returns-in-Ok-Blocked-clause-checkpointed g c =
    let e : EngineState = c.drive.new.engine in
    let works : e.failed ≡ false = c.in-Ok-Blocked.ensures.leaves.may.may.works in
    ends_short g.D.Disk.moment g.D.Disk.images c.args.checkpoint e.checkpoint c.leave.result.ended c.drive.new.disk c.close.new.disk (c.drive.ensures.leaves.same.checkpoint ∙ c.in-Ok.ensures.opened.checkpoint_is)
    c.in-Ok-Blocked.ensures.short (c.close.ensures.short works)

pub returns-in-Ok-Blocked-clause-alone : goal.returns-in-Ok-Blocked-clause-alone
returns-in-Ok-Blocked-clause-alone g c =
    let D = g.D.Disk in
    let log = c.args.store.log.number in
    let drives = writes_on D.moment D.images log c.in-Ok.engine.store.log.number c.args.disk.now c.args.disk.now c.drive.new.disk (same_log log c.in-Ok.engine.store.log.number (ap (λ (t : StoreState). t.log.number) c.in-Ok.ensures.opened.store_is)) (writes_none D.moment D.images log c.args.disk.now) c.drive.ensures.leaves.alone in
    writes_in_turn D.moment D.images log c.args.disk.now c.drive.new.disk c.close.new.disk drives (writes_by_close D.moment D.images log c.drive.new.engine.store c.drive.new.disk c.close.new.disk c.close.ensures.alone)

pub returns-in-Ok-Quiet-clause-headline : goal.returns-in-Ok-Quiet-clause-headline
returns-in-Ok-Quiet-clause-headline g c telling in_telling out_telling state first start run =
    let D = g.D.Disk in
    let left : List NamedFile = g.I.Inbox.left c.args.inbox.now in
    let standing = g.O.Outbox.standing c.args.outbox.now in
    let out = outgoing g.O.Outbox.standing g.O.Outbox.puts c.args.outbox.now in
    let now_left : List NamedFile = g.I.Inbox.left c.drive.new.inbox in
    let now_out = outgoing g.O.Outbox.standing g.O.Outbox.puts c.drive.new.outbox in
    let time = g.C.Clock.time c.drive.new.clock in
    let opened = machine_at state left standing in
    let flow : Flow = c.args.flow.now in
    let is = c.in-Ok.ensures.opened in
    let e : EngineState = c.drive.new.engine in
    let laws = g.met.D.Disk g.world.𝓛 g.world.𝓜 g.world.𝓡 ((λ s x. x), (λ x. x), (λ x. x), λ x. x) in
    let works : e.failed ≡ false = c.in-Ok-Quiet.ensures.leaves.may.may.works in
    let begins = begun D.moment D.images flow c.args.store c.args.most c.args.checkpoint c.in-Ok.engine is opened first c.args.disk.now start (g.C.Clock.time c.args.clock.now) left (g.I.Inbox.left c.new.new.inbox) out c.new.ensures.left
    (c.in-Ok.ensures.listed.coming in_telling state standing) run in
    let end = subst (λ (a : Ending). IsEnded a D.moment D.images e opened first start time c.drive.new.disk now_left now_out) c.in-Ok-Quiet.field-0-is
    (c.in-Ok-Quiet.ensures.run telling in_telling out_telling opened first start (g.C.Clock.time c.args.clock.now) (omega arith) begins) in
    let closes = closes_so c.close-in-Ok-Quiet.result e.failed c.leave-in-Ok-Quiet.result.ended ended.Quiet (IsTrue D.tells → IsTidied e.flow e.store.lot (D.held c.close-in-Ok-Quiet.new.disk)) works c.leave-in-Ok-Quiet.ensures.ok c.leave-in-Ok-Quiet.ensures.err (IfOk-weaker c.close-in-Ok-Quiet.result _ _ (λ closed is_closed. is_closed.tidied) c.close-in-Ok-Quiet.ensures.closed)
    c.close-in-Ok-Quiet.ensures.refusal.reopen c.close-in-Ok-Quiet.ensures.refusal.kinds in
    let ran =
    closes_quiet D.tells D.held D.moment D.images c.faults_end_a_run.ensures.between e flow c.args.store.lot (c.drive.ensures.leaves.same.flow ∙ is.flow_is) (c.drive.ensures.leaves.same.lot ∙ ap (λ (t : StoreState). t.lot) is.store_is)
    c.in-Ok-Quiet.ensures.leaves.may.may.ready.work.flow_is opened first c.drive.new.disk c.close-in-Ok-Quiet.new.disk now_left now_out start time c.leave-in-Ok-Quiet.result.ended (c.close-in-Ok-Quiet.ensures.states works)
    (laws.held_is_left c.close-in-Ok-Quiet.new.disk telling) c.close-in-Ok-Quiet.result c.run_ends.ensures.quiet end closes telling in (
      e.journal,
      None,
      ran,
      none_stopped flow start.time time opened e.journal (turns_of e.flow flow start.time time opened (steps e.journal) (sym (c.drive.ensures.leaves.same.flow ∙ is.flow_is)) end.turns),
      c.drive.ensures.clock.moments (none_made g.C.Clock.given c.in-Ok.engine.journal c.in-Ok.ensures.opened.journal),
      run_shows c.names_are_lost_by_taking.ensures.one_step D.tells D.held D.moment D.images flow c.in-Ok.engine e state left now_left standing now_out first c.drive.new.disk c.close-in-Ok-Quiet.new.disk start time end.reached ran.reached
          c.close-in-Ok-Quiet.result c.leave-in-Ok-Quiet.result.closed (c.drive.ensures.leaves.same.flow ∙ is.flow_is) c.drive.ensures.leaves.same.too_large (c.in-Ok.ensures.listed.coming in_telling state standing) (c.in-Ok.ensures.listed.counted in_telling) end.to ran.ran.replays
          c.leave-in-Ok-Quiet.ensures.closed c.close-in-Ok-Quiet.ensures.closed c.close-in-Ok-Quiet.ensures.shows telling,
    )

pub returns-in-Ok-Quiet-clause-closed : goal.returns-in-Ok-Quiet-clause-closed
returns-in-Ok-Quiet-clause-closed g c =
    closes_or_fails c.close-in-Ok-Quiet.result c.leave-in-Ok-Quiet.result.ended (ended.Quiet) c.leave-in-Ok-Quiet.result.closed c.leave-in-Ok-Quiet.ensures.closed c.leave-in-Ok-Quiet.ensures.ok c.leave-in-Ok-Quiet.ensures.err c.close-in-Ok-Quiet.ensures.refusal.kinds (λ fault. fault)

pub returns-in-Ok-Quiet-clause-checkpointed : goal.returns-in-Ok-Quiet-clause-checkpointed
returns-in-Ok-Quiet-clause-checkpointed g c =
    let e : EngineState = c.drive.new.engine in
    let works : e.failed ≡ false = c.in-Ok-Quiet.ensures.leaves.may.may.works in
    ends_short g.D.Disk.moment g.D.Disk.images c.args.checkpoint e.checkpoint c.leave-in-Ok-Quiet.result.ended c.drive.new.disk c.close-in-Ok-Quiet.new.disk (c.drive.ensures.leaves.same.checkpoint ∙ c.in-Ok.ensures.opened.checkpoint_is)
    c.in-Ok-Quiet.ensures.short (c.close-in-Ok-Quiet.ensures.short works)

pub returns-in-Ok-Quiet-clause-alone : goal.returns-in-Ok-Quiet-clause-alone
returns-in-Ok-Quiet-clause-alone g c =
    let D = g.D.Disk in
    let log = c.args.store.log.number in
    let drives = writes_on D.moment D.images log c.in-Ok.engine.store.log.number c.args.disk.now c.args.disk.now c.drive.new.disk (same_log log c.in-Ok.engine.store.log.number (ap (λ (t : StoreState). t.log.number) c.in-Ok.ensures.opened.store_is)) (writes_none D.moment D.images log c.args.disk.now) c.drive.ensures.leaves.alone in
    writes_in_turn D.moment D.images log c.args.disk.now c.drive.new.disk c.close-in-Ok-Quiet.new.disk drives (writes_by_close D.moment D.images log c.drive.new.engine.store c.drive.new.disk c.close-in-Ok-Quiet.new.disk c.close-in-Ok-Quiet.ensures.alone)

pub returns-in-Limit-clause-headline : goal.returns-in-Limit-clause-headline
returns-in-Limit-clause-headline g c telling in_telling out_telling state first start run =
    let D = g.D.Disk in
    let left : List NamedFile = g.I.Inbox.left c.args.inbox.now in
    let standing = g.O.Outbox.standing c.args.outbox.now in
    let out = outgoing g.O.Outbox.standing g.O.Outbox.puts c.args.outbox.now in
    let now_left : List NamedFile = g.I.Inbox.left c.drive.new.inbox in
    let now_out = outgoing g.O.Outbox.standing g.O.Outbox.puts c.drive.new.outbox in
    let time = g.C.Clock.time c.drive.new.clock in
    let opened = machine_at state left standing in
    let flow : Flow = c.args.flow.now in
    let is = c.in-Ok.ensures.opened in
    let e : EngineState = c.drive.new.engine in
    let laws = g.met.D.Disk g.world.𝓛 g.world.𝓜 g.world.𝓡 ((λ s x. x), (λ x. x), (λ x. x), λ x. x) in
    let limit = c.in-Limit.limit in
    let was = c.in-Err-drive.is ∙ ap Err c.in-Limit.is in
    let works : e.failed ≡ false = works_at_limit c.drive.result e.failed limit was c.drive.ensures.leaves.failed in
    let begins = begun D.moment D.images flow c.args.store c.args.most c.args.checkpoint c.in-Ok.engine is opened first c.args.disk.now start (g.C.Clock.time c.args.clock.now) left (g.I.Inbox.left c.new.new.inbox) out c.new.ensures.left
    (c.in-Ok.ensures.listed.coming in_telling state standing) run in
    let work = (c.drive.ensures.leaves.usable works).work in
    let stopped = subst (λ (x : EngineError). StopsInTurn x D.tells D.held D.moment D.images e opened first start time c.drive.new.disk now_left now_out) c.in-Limit.is
    (c.in-Err-drive.ensures.run telling in_telling out_telling opened first start (g.C.Clock.time c.args.clock.now) (omega arith) begins) in
    let stop = stopped.stops in
    let closes = closes_so c.close-in-Err-drive.result e.failed c.leave-in-Err-drive.result.ended (ended.Limit limit) (IsTrue D.tells → IsTidied e.flow e.store.lot (D.held c.close-in-Err-drive.new.disk)) works c.leave-in-Err-drive.ensures.ok c.leave-in-Err-drive.ensures.err (IfOk-weaker c.close-in-Err-drive.result _ _ (λ closed is_closed. is_closed.tidied) c.close-in-Err-drive.ensures.closed)
    c.close-in-Err-drive.ensures.refusal.reopen c.close-in-Err-drive.ensures.refusal.kinds in
    let ran =
    closes_limited D.tells D.held D.moment D.images c.faults_end_a_run.ensures.between e flow c.args.store.lot (c.drive.ensures.leaves.same.flow ∙ is.flow_is) (c.drive.ensures.leaves.same.lot ∙ ap (λ (t : StoreState). t.lot) is.store_is)
    work.flow_is opened first c.drive.new.disk c.close-in-Err-drive.new.disk now_left now_out start time c.leave-in-Err-drive.result.ended (c.close-in-Err-drive.ensures.states works)
    (laws.held_is_left c.close-in-Err-drive.new.disk telling) c.close-in-Err-drive.result c.run_ends.ensures.limited limit stopped.next stop closes telling in (
      e.journal,
      stopped.next,
      ran,
      in_turn_of e.flow flow start.time time opened e.journal stopped.next (sym (c.drive.ensures.leaves.same.flow ∙ is.flow_is)) stopped.turns,
      c.drive.ensures.clock.moments (none_made g.C.Clock.given c.in-Ok.engine.journal c.in-Ok.ensures.opened.journal),
      run_shows c.names_are_lost_by_taking.ensures.one_step D.tells D.held D.moment D.images flow c.in-Ok.engine e state left now_left standing now_out first c.drive.new.disk c.close-in-Err-drive.new.disk start time stop.reached ran.reached
          c.close-in-Err-drive.result c.leave-in-Err-drive.result.closed (c.drive.ensures.leaves.same.flow ∙ is.flow_is) c.drive.ensures.leaves.same.too_large (c.in-Ok.ensures.listed.coming in_telling state standing) (c.in-Ok.ensures.listed.counted in_telling) stop.to ran.ran.replays
          c.leave-in-Err-drive.ensures.closed c.close-in-Err-drive.ensures.closed c.close-in-Err-drive.ensures.shows telling,
    )

pub returns-in-Limit-clause-closed : goal.returns-in-Limit-clause-closed
returns-in-Limit-clause-closed g c =
    closes_or_fails c.close-in-Err-drive.result c.leave-in-Err-drive.result.ended (ended.Limit c.in-Limit.limit) c.leave-in-Err-drive.result.closed c.leave-in-Err-drive.ensures.closed c.leave-in-Err-drive.ensures.ok c.leave-in-Err-drive.ensures.err c.close-in-Err-drive.ensures.refusal.kinds (λ fault. fault)

pub returns-in-Limit-clause-alone : goal.returns-in-Limit-clause-alone
returns-in-Limit-clause-alone g c =
    let D = g.D.Disk in
    let log = c.args.store.log.number in
    let drives = writes_on D.moment D.images log c.in-Ok.engine.store.log.number c.args.disk.now c.args.disk.now c.drive.new.disk (same_log log c.in-Ok.engine.store.log.number (ap (λ (t : StoreState). t.log.number) c.in-Ok.ensures.opened.store_is)) (writes_none D.moment D.images log c.args.disk.now) c.drive.ensures.leaves.alone in
    writes_in_turn D.moment D.images log c.args.disk.now c.drive.new.disk c.close-in-Err-drive.new.disk drives (writes_by_close D.moment D.images log c.drive.new.engine.store c.drive.new.disk c.close-in-Err-drive.new.disk c.close-in-Err-drive.ensures.alone)

pub returns-in-Limit-clause-why : goal.returns-in-Limit-clause-why
returns-in-Limit-clause-why g c =
    let D = g.D.Disk in
    let e0 : EngineState = c.in-Ok.engine in
    let e : EngineState = c.drive.new.engine in
    let is = c.in-Ok.ensures.opened in
    let was = c.in-Err-drive.is ∙ ap Err c.in-Limit.is in
    let works : e.failed ≡ false = works_at_limit c.drive.result e.failed c.in-Limit.limit was c.drive.ensures.leaves.failed in
    let closes = closes_so c.close-in-Err-drive.result e.failed c.leave-in-Err-drive.result.ended (ended.Limit c.in-Limit.limit) (IsTrue D.tells → IsTidied e.flow e.store.lot (D.held c.close-in-Err-drive.new.disk)) works c.leave-in-Err-drive.ensures.ok c.leave-in-Err-drive.ensures.err
    (IfOk-weaker c.close-in-Err-drive.result _ _ (λ closed is_closed. is_closed.tidied) c.close-in-Err-drive.ensures.closed) c.close-in-Err-drive.ensures.refusal.reopen c.close-in-Err-drive.ensures.refusal.kinds in
    record {
      limited = λ limit so.
          limit_met D.tells D.held D.moment D.images c.args.flow.now e0.flow c.args.store.lot (D.moment c.args.disk.now) c.args.most e0.most e.journal c.in-Limit.limit limit e.store c.drive.new.disk c.close-in-Err-drive.new.disk
          (limit_of c.leave-in-Err-drive.result.ended c.in-Limit.limit limit (wanted_or_disk c.close-in-Err-drive.result c.leave-in-Err-drive.result.ended (ended.Limit c.in-Limit.limit) (IsTrue D.tells → IsTidied e.flow e.store.lot (D.held c.close-in-Err-drive.new.disk)) closes) so) is.flow_is is.most_is
          (c.drive.ensures.leaves.same.lot ∙ ap (λ (t : StoreState). t.lot) is.store_is) c.drive.ensures.leaves.alone.later (c.drive.ensures.leaves.why.limited c.in-Limit.limit was) c.close-in-Err-drive.ensures.alone;
      damaged = search rules;
      faults_counted = search rules;
    }

pub returns-in_default : goal.returns-in_default
returns-in_default g c =
    let D = g.D.Disk in
    let is = c.in-Ok.ensures.opened in
    let e0 : EngineState = c.in-Ok.engine in
    let e : EngineState = c.drive.new.engine in
    let error : EngineError = c.in-Err-drive.error in
    let none : IsNoLimit error = λ limit is_limit. c.in_default.not-Limit limit is_limit in
    let end : Ended = c.fail-in_default.result.ended in
    let so : end ≡ ended_by error = c.fail-in_default.ensures.ended in
    record {
      headline = λ telling in_telling out_telling state first start run.
          let left : List NamedFile = g.I.Inbox.left c.args.inbox.now in
          let standing = g.O.Outbox.standing c.args.outbox.now in
          let out = outgoing g.O.Outbox.standing g.O.Outbox.puts c.args.outbox.now in
          let opened = machine_at state left standing in
          let now_left : List NamedFile = g.I.Inbox.left c.drive.new.inbox in
          let now_out = outgoing g.O.Outbox.standing g.O.Outbox.puts c.drive.new.outbox in
          let time = g.C.Clock.time c.drive.new.clock in
          let begins = begun D.moment D.images c.args.flow.now c.args.store c.args.most c.args.checkpoint e0 is opened first c.args.disk.now start (g.C.Clock.time c.args.clock.now) left (g.I.Inbox.left c.new.new.inbox) out c.new.ensures.left
          (c.in-Ok.ensures.listed.coming in_telling state standing) run in
          let stop = c.in-Err-drive.ensures.run telling in_telling out_telling opened first start (g.C.Clock.time c.args.clock.now) (omega arith) begins in (
            e.journal,
            stop.next,
            subst (λ (r : Ended). HasRun c.args.flow.now r start time D.tells D.held D.moment D.images c.args.store.lot opened first c.drive.new.disk now_left now_out e.journal stop.next) (sym so)
                (run_of c.args.flow.now e.flow (ended_by error) start time D.tells D.held D.moment D.images c.args.store.lot e.store.lot opened first c.drive.new.disk now_left now_out e.journal stop.next
                (c.drive.ensures.leaves.same.flow ∙ is.flow_is) (c.drive.ensures.leaves.same.lot ∙ ap (λ (t : StoreState). t.lot) is.store_is)
                (has_ended D.tells D.held D.moment D.images e opened first c.drive.new.disk now_left now_out start time error stop.next none stop.stops)),
            in_turn_of e.flow c.args.flow.now start.time time opened e.journal stop.next (sym (c.drive.ensures.leaves.same.flow ∙ is.flow_is)) stop.turns,
            c.drive.ensures.clock.moments (none_made g.C.Clock.given c.in-Ok.engine.journal c.in-Ok.ensures.opened.journal),
            none_shown c.args.flow.now c.fail-in_default.result.closed _ _ c.fail-in_default.ensures.closed,
          );
      given = λ rest. absurd (no_rest error end so rest);
      closed = fails_to_run c.fail-in_default.result.closed end error c.fail-in_default.ensures.closed so none;
      checkpointed = ends_by_error D.moment D.images c.args.checkpoint error end c.drive.new.disk so;
      alone =
          writes_on D.moment D.images c.args.store.log.number e0.store.log.number c.args.disk.now c.args.disk.now c.drive.new.disk (same_log c.args.store.log.number e0.store.log.number (ap (λ (t : StoreState). t.log.number) is.store_is))
          (writes_none D.moment D.images c.args.store.log.number c.args.disk.now) c.drive.ensures.leaves.alone;
      why = record {
        limited = λ limit ends. absurd (no_limit_faults error none limit (sym so ∙ ends));
        damaged = λ damage ends. c.drive.ensures.leaves.why.damaged damage (c.in-Err-drive.is ∙ ap Err (by_damage error damage (sym so ∙ ends)));
        faults_counted =
            ends_on_faults c.drive.result error end (D.faults c.args.disk.now) (D.faults c.drive.new.disk) (g.I.Inbox.faults c.args.inbox.now) (g.I.Inbox.faults c.drive.new.inbox) (g.O.Outbox.faults c.args.outbox.now) (g.O.Outbox.faults c.drive.new.outbox)
            c.in-Err-drive.is (λ reopen. c.drive.ensures.leaves.works (c.in-Err-drive.is ∙ ap Err reopen)) (λ unknown. c.drive.ensures.leaves.known (c.in-Err-drive.is ∙ ap Err unknown)) so
            (each_counts_after c.drive.result (D.faults c.args.disk.now) (D.faults c.args.disk.now) (D.faults c.drive.new.disk) (g.I.Inbox.faults c.args.inbox.now) (g.I.Inbox.faults c.new.new.inbox) (g.I.Inbox.faults c.drive.new.inbox)
            (g.O.Outbox.faults c.args.outbox.now) (g.O.Outbox.faults c.args.outbox.now) (g.O.Outbox.faults c.drive.new.outbox) (omega arith) c.new.ensures.cause.never_falls (omega arith) c.drive.ensures.cause);
      };
    }

pub returns-in-Err-clause-given : goal.returns-in-Err-clause-given
returns-in-Err-clause-given g c rest = absurd (no_rest c.in-Err.error c.fail.result.ended c.fail.ensures.ended rest)
