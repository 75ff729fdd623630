use Rattle.std.proofs.Common.{sym, ◌∙◌, ap}
use Rattle.std.proofs.lemmas.Result.{IfOk-at_ok}
use Rattle.disk_trait.proofs.DiskCalls.{overwritten}
use Rattle.disk_trait.proofs.DiskStops.{write_inside, held_write, held_write_other, held_cut, held_cut_other, held_sync}
use Rattle.disk_trait.proofs.memory.replay.apply.Goals as goal

pub overwrite-requires : goal.overwrite-requires
overwrite-requires c =
    write_inside c.args.name c.in-Write.file c.in-Write.at _ c.args.bytes.now.items c.args.call.now c.in-Write.is (sym c.eq.ensures ∙ c.if-eq.true) c.requires

pub returns-in_ok-overwrite-in-Write : goal.returns-in_ok-overwrite-in-Write
returns-in_ok-overwrite-in-Write c =
    IfOk-at_ok _ c.in_ok-overwrite-in-Write.was c.overwrite.ensures.ok ∙ ap (λ bytes. overwritten c.in-Write.at bytes c.args.bytes.now.items) c.as_slice.ensures
    ∙ sym (held_write c.args.name c.in-Write.file c.in-Write.at c.in-Write.written c.args.bytes.now.items c.args.call.now c.in-Write.is (sym c.eq.ensures ∙ c.if-eq.true))

pub returns-else-eq : goal.returns-else-eq
returns-else-eq c =
    sym (held_write_other c.args.name c.in-Write.file c.in-Write.at _ c.args.bytes.now.items c.args.call.now c.in-Write.is (sym c.eq.ensures ∙ c.if-eq.false))

pub returns-then-eq-2 : goal.returns-then-eq-2
returns-then-eq-2 c =
    c.truncate.ensures.items
    ∙ sym (held_cut c.args.name c.in-Cut.file c.in-Cut.size c.args.bytes.now.items c.args.call.now c.in-Cut.is (sym c.eq-in-Cut.ensures ∙ c.if-eq-2.true))

pub returns-else-eq-2 : goal.returns-else-eq-2
returns-else-eq-2 c =
    sym (held_cut_other c.args.name c.in-Cut.file c.in-Cut.size c.args.bytes.now.items c.args.call.now c.in-Cut.is (sym c.eq-in-Cut.ensures ∙ c.if-eq-2.false))

pub returns-in-Sync : goal.returns-in-Sync
returns-in-Sync c = sym (held_sync c.args.name c.args.bytes.now.items c.args.call.now c.in-Sync.is)
