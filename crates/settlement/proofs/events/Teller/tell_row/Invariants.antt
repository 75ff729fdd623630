use Rattle.std.proofs.Common.{◌≡◌, ◌+◌, ◌++◌, length, drop}
use Rattle.std.specs.List.{flat_map, enumerate_from}
use Rattle.settlement.specs.Telling.{numbered_wrapping, row_at, row_drafts, told_by}
use Rattle.settlement.proofs.events.Teller.tell_row.Given as goal

abbrev pub invariant-loop-place : goal.invariant-loop-place
invariant-loop-place l =
    l.events.items ++ numbered_wrapping (l.self.first + length l.events.items) (flat_map (row_at (told_by l.self) l.row) (enumerate_from l.place (drop l.place l.file-items)))
    ≡ l.initial.events.items ++ numbered_wrapping (l.self.first + length l.initial.events.items) (row_drafts (told_by l.self) l.row)
