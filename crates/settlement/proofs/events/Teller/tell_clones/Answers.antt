use Rattle.std.proofs.Common.{arith}
use Rattle.settlement.specs.Telling.{told_by}
use Rattle.settlement.proofs.Steps.{clones_more, wanted_left}
use Rattle.settlement.proofs.events.Teller.tell_clones.Goals as goal

pub loop-file-preserved : goal.loop-file-preserved
loop-file-preserved c =
    let left = wanted_left c.args.self.now.files.now c.loop-file.file-index c.file-item.result (omega arith) c.file-item.is in
    record {
      room = omega (arith, left, c.loop-file.invariant.room, c.in_ok-next.ensures.next);
      whole = clones_more c.args.self.now.first c.loop-file.events.items c.tell_clones_of.new.events.items _ (told_by c.args.self.now) c.args.self.now.files.now c.loop-file.file-index c.loop-file.next c.in_ok-next.next
          c.file-item.result (omega arith) c.file-item.is c.in_ok-next.ensures.next c.in_ok-next.ensures.adds c.loop-file.invariant.whole;
    }
