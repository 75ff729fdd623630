use Rattle.std.proofs.Common.{◌≡◌, ◌+◌, ◌≤◌, length}
use Rattle.std.specs.Vec.Iter.{into_iter_items}
use Rattle.kept_state.specs.Applied.{with_files}
use Rattle.kept_state.specs.Moves.{AreAbsent}
use Rattle.kept_state.proofs.files.put_all.Given as goal

abbrev pub invariant-loop-active : goal.invariant-loop-active
invariant-loop-active l = record {
  items : with_files (into_iter_items l.active-iterator) l.files.items ≡ with_files l.fn.placed.items l.initial.files.items;
  absent : AreAbsent (into_iter_items l.active-iterator) l.files.items;
  room : length (into_iter_items l.active-iterator) ≤ l.files.room;
  left : l.initial.files.room + length (into_iter_items l.active-iterator) ≤ l.files.room + length l.fn.placed.items;
}
