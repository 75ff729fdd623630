use Rattle.std.proofs.Common.{◌≡◌, ◌≤◌, length, take, drop, count_by}
use Rattle.content_repo.specs.Room.{left_by_live}
use Rattle.content_repo.specs.Slots.{is_free}
use Rattle.content_repo.proofs.content.Content.fill_live.Given as goal

abbrev pub invariant-loop-number : goal.invariant-loop-number
invariant-loop-number l = record {
  within : l.next ≤ length l.sizes;
  left : drop l.next l.sizes ≡ left_by_live (take l.number l.self) l.sizes;
  free : l.free ≡ count_by is_free (take l.number l.self);
}
