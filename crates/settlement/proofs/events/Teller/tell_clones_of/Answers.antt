use Rattle.std.proofs.Common.{arith, ap, length}
use Rattle.settlement.specs.Placing.{further}
use Rattle.settlement.specs.Telling.{told_by}
use Rattle.settlement.proofs.Steps.{clone_more}
use Rattle.settlement.proofs.events.Teller.tell_clones_of.Goals as goal

pub loop-connection-preserved : goal.loop-connection-preserved
loop-connection-preserved c = record {
  next = omega (arith, c.loop-connection.invariant.next);
  whole = clone_more c.args.self.now.first c.loop-connection.events.items c.tell_clone.new.events.items _ (told_by c.args.self.now) c.args.file.now (further c.args.file.now.goes) c.loop-connection._connection-index c.loop-connection.next
      (omega (arith, ap length c.further-connection-items.ensures)) c.in_ok-tell_clone.ensures c.loop-connection.invariant.whole;
}
