use Rattle.std.proofs.Common.{◌≡◌, ◌+◌, ◌++◌, length, drop, map}
use Rattle.settlement.specs.Telling.{clone_draft, numbered_wrapping, told_by}
use Rattle.settlement.proofs.events.Teller.tell_cloned.Given as goal

abbrev pub invariant-loop-copy : goal.invariant-loop-copy
invariant-loop-copy l =
    l.events.items ++ numbered_wrapping (l.self.first + length l.events.items) (map (clone_draft (told_by l.self) l.original) (drop l.copy-index l.copies))
    ≡ l.initial.events.items ++ numbered_wrapping (l.self.first + length l.initial.events.items) (map (clone_draft (told_by l.self) l.original) l.copies)
