use Rattle.settlement.specs.Telling.{row_drafts, told_by}
use Rattle.settlement.specs.declared.rows.Row.TheVariants as row
use Rattle.settlement.proofs.AddedEvents.{adds-both}
use Rattle.settlement.proofs.events.Teller.tell_changed.Goals as goal

pub returns : goal.returns
returns c =
    let told = told_by c.args.self.now in
    let first = c.args.self.now.first in
    let start = c.args.events.now.items in
    adds-both first start c.tell_row-2.new.events.items c.tell_row-3.new.events.items _ (row_drafts told row.Routed)
    (adds-both first start c.tell_row.new.events.items c.tell_row-2.new.events.items (row_drafts told row.ContentModified) (row_drafts told row.AttributesModified) c.in_ok-tell_row.ensures c.in_ok-tell_row-2.ensures)
    c.in_ok-tell_row-3.ensures
