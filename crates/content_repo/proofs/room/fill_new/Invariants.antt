use Rattle.std.proofs.Common.{◌≡◌, ◌≤◌, length, drop}
use Rattle.content_repo.specs.Room.{left_by_new}
use Rattle.content_repo.proofs.room.fill_new.Given as goal

abbrev pub invariant-loop-number : goal.invariant-loop-number
invariant-loop-number l = record { within : l.next ≤ length l.sizes; left : drop l.next l.sizes ≡ left_by_new l.number (drop l.fn.from l.sizes) }
