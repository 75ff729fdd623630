use Rattle.std.proofs.Common.{◌≡◌, ◌+◌, ◌++◌, length, drop}
use Rattle.settlement.specs.Placing.{wanted}
use Rattle.settlement.specs.Telling.{clone_events, numbered_wrapping, told_by}
use Rattle.settlement.proofs.events.Teller.tell_clones.Given as goal

abbrev pub invariant-loop-file : goal.invariant-loop-file
invariant-loop-file l = record {
  room : l.next + length (wanted (drop l.file-index l.self.files.now)) ≡ l.first + length (wanted l.self.files.now);
  whole : l.events.items ++ numbered_wrapping (l.self.first + length l.events.items) (clone_events (told_by l.self) l.next (wanted (drop l.file-index l.self.files.now)))
      ≡ l.initial.events.items ++ numbered_wrapping (l.self.first + length l.initial.events.items) (clone_events (told_by l.self) l.first (wanted l.self.files.now));
}
