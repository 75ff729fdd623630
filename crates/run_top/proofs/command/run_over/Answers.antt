use Rattle.std.proofs.Common.{◌∙◌, ⊎_elim, List, refl, ap, arith}
use Rattle.std.specs.Prelude.{Err}
use Rattle.flowfile_record.specs.NamedFile.{NamedFile}
use Rattle.run_law.specs.Puts.{outgoing}
use Rattle.run_law.specs.Run.{machine_at}
use Rattle.run_top.proofs.Over.{left_shut, ran_ends, ran_why, refused_alone, refused_counts, refused_ends, refused_why, run_counts}
use Rattle.run_top.proofs.Short.{has_ended}
use Rattle.run_top.proofs.Started.{starts}
use Rattle.run_top.proofs.Writing.{runs_alone}
use Rattle.run_top.proofs.command.run_over.Goals as goal

pub returns-in-Err-clause-refused : goal.returns-in-Err-clause-refused
returns-in-Err-clause-refused g c =
    let D = g.D.Disk in
    record {
      refused = c.in-Err.ensures.refusal.kinds;
      failed = λ disk_told state of.
          refused_ends D.tells D.held D.moment D.images c.args.flow.now c.args.lot c.args.disk.now c.open.new.disk c.args.inbox.now c.args.outbox.now c.open.result c.in-Err.answer c.in-Err.is c.in-Err.ensures.refusal.kinds c.open.ensures.images
          c.failed_openings_end_a_run.ensures g.C.Clock.given (record { time = g.C.Clock.time c.args.clock.now; puts = g.O.Outbox.puts c.args.outbox.now }) (g.C.Clock.time c.args.clock.now) c.args.most c.args.checkpoint (omega arith) state (g.I.Inbox.left c.args.inbox.now) (g.O.Outbox.standing c.args.outbox.now)
          (λ other. (c.open.ensures.refusal.other_flow (c.in-Err.is ∙ ap Err other)).found disk_told) of;
      barely =
          refused_alone D.tells D.held D.moment D.images c.args.flow.now c.args.lot c.args.disk.now c.open.new.disk c.args.inbox.now c.args.outbox.now c.open.result c.in-Err.answer c.in-Err.is c.in-Err.ensures.refusal.kinds c.open.ensures.images
          c.args.checkpoint c.open.ensures.alone;
    }

pub returns-in-Err-clause-shut : goal.returns-in-Err-clause-shut
returns-in-Err-clause-shut g c disk_told shut =
    let D = g.D.Disk in (
      c.in-Err.answer,
      refl,
      left_shut D.tells D.held D.moment D.images c.args.flow.now c.args.lot c.args.disk.now c.open.new.disk c.args.inbox.now c.args.outbox.now c.open.result c.in-Err.answer c.in-Err.is c.in-Err.ensures.refusal.kinds c.open.ensures.images
          (λ damage is. (c.open.ensures.refusal.damaged damage (c.in-Err.is ∙ ap Err is)).found disk_told) (λ other. (c.open.ensures.refusal.other_flow (c.in-Err.is ∙ ap Err other)).found disk_told) (c.open.ensures.shut disk_told shut),
    )

pub returns-in-Err-clause-why : goal.returns-in-Err-clause-why
returns-in-Err-clause-why g c =
    let D = g.D.Disk in
    refused_why D.tells D.held D.moment D.images c.args.flow.now c.args.lot c.args.disk.now c.open.new.disk c.args.inbox.now c.args.outbox.now c.open.result c.in-Err.answer c.in-Err.is c.in-Err.ensures.refusal.kinds c.open.ensures.images c.args.most
    c.open.ensures.refusal.damaged c.open.ensures.refusal.other_flow

pub returns-in-Err-clause-faults : goal.returns-in-Err-clause-faults
returns-in-Err-clause-faults g c =
    let D = g.D.Disk in
    refused_counts D.tells D.held D.moment D.images c.args.flow.now c.args.lot c.args.disk.now c.open.new.disk c.args.inbox.now c.args.outbox.now c.open.result c.in-Err.answer c.in-Err.is c.in-Err.ensures.refusal.kinds c.open.ensures.images
    (D.faults c.args.disk.now) (D.faults c.open.new.disk) (g.I.Inbox.faults c.args.inbox.now) (g.O.Outbox.faults c.args.outbox.now) c.open.ensures.refusal.cause

pub returns-clause-ran : goal.returns-clause-ran
returns-clause-ran g c =
    let D = g.D.Disk in
    let disk_laws = g.met.D.Disk g.world.𝓛 g.world.𝓜 g.world.𝓡 ((λ s x. x), (λ x. x), (λ x. x), λ x. x) in
    record {
      ended = λ disk_told in_told out_told state of.
          let left : List NamedFile = g.I.Inbox.left c.args.inbox.now in
          let standing = g.O.Outbox.standing c.args.outbox.now in
          let s = c.in-Ok.store in
          let opened = c.in-Ok.ensures.opened in
          ⊎_elim
          (λ since.
          let ends = c.run_flow.ensures.headline disk_told in_told out_told state c.args.disk.now (record { time = g.C.Clock.time c.args.clock.now; puts = g.O.Outbox.puts c.args.outbox.now })
          (starts D.moment D.images c.run_begins.ensures.opened c.what_is_kept_is_a_state.ensures.stands c.what_is_kept_is_a_state.ensures.valid c.events_up_to_the_last_are_in_a_row.ensures.numbered
          c.args.flow.now D.tells D.held s c.args.lot c.args.disk.now c.open.new.disk state (record { time = g.C.Clock.time c.args.clock.now; puts = g.O.Outbox.puts c.args.outbox.now }) (g.C.Clock.time c.args.clock.now) (omega arith) left standing opened.work opened.lot_is
          c.state-stored.ensures.consistent c.state-stored.ensures.no_batches (c.state-stored.ensures.last_event opened.work.works) (disk_laws.held_is_left c.open.new.disk disk_told) since of.stands) in
          ran_ends D.tells D.held D.moment D.images c.args.flow.now c.args.lot s.lot opened.lot_is c.run_flow.result g.C.Clock.given (record { time = g.C.Clock.time c.args.clock.now; puts = g.O.Outbox.puts c.args.outbox.now }) (g.C.Clock.time c.run_flow.new.clock) c.args.most c.args.checkpoint (machine_at state left standing) c.args.disk.now
          c.open.new.disk c.run_flow.new.disk (g.I.Inbox.left c.run_flow.new.inbox) (outgoing g.O.Outbox.standing g.O.Outbox.puts c.run_flow.new.outbox) since.begun c.run_flow.ensures.why.limited
          ends.0 ends.1 ends.2 ends.3 ends.4 ends.5 c.run_flow.ensures.given c.run_flow.ensures.checkpointed)
          (λ failed. absurd (⊎_elim (λ disk. cc (disk, c.in-Ok.is)) (λ memory. cc (memory.0, c.in-Ok.is)) failed.told))
          c.open.ensures.images;
      closed = c.run_flow.ensures.closed;
      alone =
          ⊎_elim
          (λ since. record {
            alone = runs_alone g.D.Disk.moment g.D.Disk.images (g.D.Disk.held c.args.disk.now) g.D.Disk.tells c.in-Ok.store.log.number c.args.disk.now c.open.new.disk c.run_flow.new.disk
                (λ disk k e left. disk_laws.left_is_told disk k e left) c.in-Ok.ensures.opened.log since c.run_flow.ensures.alone;
            short = has_ended g.D.Disk.moment g.D.Disk.images c.args.checkpoint c.run_flow.new.disk c.run_flow.result.ended c.run_flow.ensures.checkpointed;
          })
          (λ failed. absurd (⊎_elim (λ disk. cc (disk, c.in-Ok.is)) (λ memory. cc (memory.0, c.in-Ok.is)) failed.told))
          c.open.ensures.alone;
    }

pub returns-clause-shut : goal.returns-clause-shut
returns-clause-shut g c told shut = absurd (c.in-Ok.ensures.opened.may told shut)

pub returns-clause-why : goal.returns-clause-why
returns-clause-why g c =
    let D = g.D.Disk in
    ⊎_elim
    (λ since. ran_why D.tells D.held D.moment D.images c.args.flow.now c.args.lot c.in-Ok.store.lot c.in-Ok.ensures.opened.lot_is c.run_flow.result.ended c.args.most c.args.disk.now c.open.new.disk c.run_flow.new.disk c.args.inbox.now c.run_flow.new.inbox
    c.args.outbox.now c.run_flow.new.outbox since.begun c.run_flow.ensures.alone.later c.run_flow.ensures.why.limited c.run_flow.ensures.why.damaged)
    (λ failed. absurd (⊎_elim (λ disk. cc (disk, c.in-Ok.is)) (λ memory. cc (memory.0, c.in-Ok.is)) failed.told))
    c.open.ensures.alone

pub returns-clause-faults : goal.returns-clause-faults
returns-clause-faults g c = run_counts c.run_flow.result.ended _ (g.D.Disk.faults c.open.new.disk) _ _ _ _ _ c.open.ensures.refusal.cause.never_falls c.run_flow.ensures.why.faults_counted
