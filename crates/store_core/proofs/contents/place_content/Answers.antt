use Rattle.std.proofs.Common.{ap, sym, ◌∙◌}
use Rattle.flowfile_record.specs.Shared.{own_bytes}
use Rattle.flowfile_record.specs.declared.stored.Fresh.TheVariants.{Bytes}
use Rattle.store_core.proofs.PlacingOne.{none_written, old_placed, stored_of, stored_own}
use Rattle.store_core.proofs.Referring.{held_more}
use Rattle.store_core.proofs.contents.place_content.Goals as goal

pub write_content-requires-clause-new : goal.write_content-requires-clause-new
write_content-requires-clause-new g c κs within = c.in-Bytes.is ∙ ap Bytes (sym c.as_slice.ensures)

pub share_content-requires-clause-may : goal.share_content-requires-clause-may
share_content-requires-clause-may g c = c.requires.shared _ c.in-As.is

pub returns-in-As-clause-placed : goal.returns-in-As-clause-placed
returns-in-As-clause-placed g c = c.share_content.ensures.placed g.D.Disk.tells (g.D.Disk.held c.args.disk.now)

pub returns-in-As-clause-written : goal.returns-in-As-clause-written
returns-in-As-clause-written g c = record {
  sizes = λ told k. c.requires.sizes told k ∙ sym (c.share_content.ensures.sizes k);
  calls = none_written c.args.one.now (g.D.Disk.moment c.args.disk.now) (ap own_bytes c.in-As.is);
}

pub returns-in-No-clause-placed : goal.returns-in-No-clause-placed
returns-in-No-clause-placed g c =
    let stored = stored_of c.args.one.now.fresh c.in-No.is in
    old_placed g.D.Disk.tells (g.D.Disk.held c.args.disk.now) c.args.place c.args.one.now c.args.contents.now c.hold.new.self c.args.entry.now
    stored (c.requires.may.old stored) c.hold.ensures.value c.hold.ensures.held

pub returns-in-No-clause-written : goal.returns-in-No-clause-written
returns-in-No-clause-written g c =
    let stored = stored_of c.args.one.now.fresh c.in-No.is in
    let held = (c.requires.may.old stored).held in
    record {
      sizes = λ told k. c.requires.sizes told k ∙ sym (held_more c.args.contents.now c.hold.new.self c.args.one.now.file.content k held c.hold.ensures.value).1;
      calls = none_written c.args.one.now (g.D.Disk.moment c.args.disk.now) (stored_own c.args.one.now.fresh stored);
    }
