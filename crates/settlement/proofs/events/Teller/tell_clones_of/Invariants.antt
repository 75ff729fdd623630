use Rattle.std.proofs.Common.{◌≡◌, ◌+◌, ◌++◌, length, drop, map}
use Rattle.settlement.specs.Placing.{further}
use Rattle.settlement.specs.Telling.{clone_events, numbered_wrapping, told_by}
use Rattle.settlement.proofs.events.Teller.tell_clones_of.Given as goal

abbrev pub invariant-loop-connection : goal.invariant-loop-connection
invariant-loop-connection l = record {
  next : l.next ≡ l.first + l._connection-index;
  whole : l.events.items ++ numbered_wrapping (l.self.first + length l.events.items)
      (clone_events (told_by l.self) l.next (map (λ connection. (l.file, connection)) (drop l._connection-index (further l.file.goes))))
      ≡ l.initial.events.items ++ numbered_wrapping (l.self.first + length l.initial.events.items)
      (clone_events (told_by l.self) l.first (map (λ connection. (l.file, connection)) (further l.file.goes)));
}
