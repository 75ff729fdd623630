use Rattle.std.proofs.Common.{arith}
use Rattle.settlement.specs.Telling.{row_at, told_by}
use Rattle.settlement.proofs.Steps.{row_more}
use Rattle.settlement.proofs.events.Teller.tell_row.Goals as goal

pub loop-place-preserved : goal.loop-place-preserved
loop-place-preserved c =
    row_more c.args.self.now.first c.loop-place.events.items c.tell_at.new.events.items _ (row_at (told_by c.args.self.now) c.args.row) c.args.self.now.files.now c.loop-place.place c.file-item.result (omega arith) c.file-item.is
    c.in_ok-tell_at.ensures c.loop-place.invariant
