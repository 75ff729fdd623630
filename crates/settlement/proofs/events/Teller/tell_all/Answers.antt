use Rattle.std.proofs.Common.{[]}
use Rattle.settlement.specs.Placing.{wanted}
use Rattle.settlement.specs.Telling.{changed_rows, clone_events, made_rows, row_drafts, send_drafts, told_by}
use Rattle.settlement.specs.declared.rows.Row.TheVariants as row
use Rattle.settlement.proofs.AddedEvents.{adds-both}
use Rattle.settlement.proofs.events.Teller.tell_all.Goals as goal

pub returns : goal.returns
returns c =
    let told = told_by c.args.self.now in
    let first = c.args.self.now.first in
    let none = c.new-events.ensures.items in
    let made = rw none at c.in_ok-tell_made.ensures in
    let two = adds-both first [] c.tell_made.new.events.items c.tell_changed.new.events.items (made_rows told) (changed_rows told) made c.in_ok-tell_changed.ensures in
    let three = adds-both first [] c.tell_changed.new.events.items c.tell_sent.new.events.items _ (send_drafts told c.args.sent.now) two c.in_ok-tell_sent.ensures in
    let four = adds-both first [] c.tell_sent.new.events.items c.tell_clones.new.events.items _ (clone_events told c.args.first_clone (wanted c.args.self.now.files.now)) three c.in_ok-tell_clones.ensures in
    adds-both first [] c.tell_clones.new.events.items c.tell_row.new.events.items _ (row_drafts told row.Dropped) four c.in_ok-tell_row.ensures
