use Rattle.std.proofs.Common.{rules, ◌≡◌, sym, subst, refl, false}
use Rattle.std.specs.Prelude.{None, Some}
use Rattle.content_repo.specs.Claims.{content_in}
use Rattle.store_core.specs.Store.{kept_by}
use Rattle.engine_choice.specs.declared.choice.Taking.{Taking}
use Rattle.engine_session.specs.declared.job.Job.{Job}
use Rattle.engine_steps.specs.Handing.{HasBytesOf}
use Rattle.engine_steps.proofs.Files.{handed_index, handed_name, if_ok, told_without_files}
use Rattle.engine_steps.proofs.handing_out.hand.Goals as goal

pub returns-in-Files-clause-told : goal.returns-in-Files-clause-told
returns-in-Files-clause-told g c =
    if_ok c.hand_files.result _ _ (λ (job : Job) told. told g.I.Inbox.tells (g.I.Inbox.left c.args.inbox.now)) c.hand_files.ensures.told

pub returns-in-Generate-clause-handed : goal.returns-in-Generate-clause-handed
returns-in-Generate-clause-handed g c =
    handed_index (kept_by c.args.store.now) c.in-Generate.index c.args.flight.now c.without_files.result c.in-Generate.is c.without_files.ensures

pub returns-in-Generate-clause-told : goal.returns-in-Generate-clause-told
returns-in-Generate-clause-told g c =
    let left = g.I.Inbox.left c.args.inbox.now in
    told_without_files g.D.Disk.tells g.I.Inbox.tells g.O.Outbox.tells c.args.flow.now (kept_by c.args.store.now) (content_in (g.D.Disk.held c.args.disk.now)) left (g.O.Outbox.standing c.args.outbox.now)
    c.args.flight.now (record { moment = c.args.flight.now.moment; index = c.in-Generate.index; there = false; file = None; bytes = None }) c.without_files.result c.without_files.ensures refl
    (λ telling. subst (λ (t : Taking). HasBytesOf left t None) (sym c.in-Generate.is) tt)

pub returns-in_ok-bytes-in-Receive-clause-handed : goal.returns-in_ok-bytes-in-Receive-clause-handed
returns-in_ok-bytes-in-Receive-clause-handed g c =
    let same : c.in_ok-file-in-Receive.file ≡ c.in-Receive.name = search rules in
    handed_name (kept_by c.args.store.now) c.in-Receive.name c.in_ok-file-in-Receive.file c.in_ok-bytes-in-Receive.bytes c.args.flight.now c.without_files-in-Receive.result c.in-Receive.is same c.in_ok-bytes-in-Receive.ensures.most
    c.without_files-in-Receive.ensures

pub returns-in_ok-bytes-in-Receive-clause-told : goal.returns-in_ok-bytes-in-Receive-clause-told
returns-in_ok-bytes-in-Receive-clause-told g c =
    let left = g.I.Inbox.left c.args.inbox.now in
    let bytes = c.in_ok-bytes-in-Receive.bytes in
    told_without_files g.D.Disk.tells g.I.Inbox.tells g.O.Outbox.tells c.args.flow.now (kept_by c.args.store.now) (content_in (g.D.Disk.held c.args.disk.now)) left (g.O.Outbox.standing c.args.outbox.now)
    c.args.flight.now (record { moment = c.args.flight.now.moment; index = 0; there = false; file = Some c.in_ok-file-in-Receive.file; bytes = Some bytes }) c.without_files-in-Receive.result
    c.without_files-in-Receive.ensures refl
    (λ telling. subst (λ (t : Taking). HasBytesOf left t (Some bytes)) (sym c.in-Receive.is) (c.in_ok-bytes-in-Receive.ensures.bytes telling))
