use Rattle.std.proofs.Common.{◌≡◌, drop}
use Rattle.content_repo.specs.Room.{left_behind}
use Rattle.content_repo.proofs.room.fill.Given as goal

abbrev pub invariant-loop-next : goal.invariant-loop-next
invariant-loop-next l = left_behind l.filled (drop l.next l.sizes) ≡ left_behind l.fn.size (drop l.fn.from l.sizes)
