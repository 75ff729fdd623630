use Rattle.std.proofs.Common.{◌≡◌, ◌++◌, map, take}
use Rattle.std.specs.VecDeque.{deque_capacity}
use Rattle.flow_queue.specs.Ranked.{noted_file}
use Rattle.flow_queue.proofs.queue.entering.note_all.Given as goal

-- the notes of the files so far stand at the end
abbrev pub invariant-loop-file : goal.invariant-loop-file
invariant-loop-file l = record {
  notes : l.notes.items ≡ l.initial.notes.items ++ map noted_file (take l.file-index l.files);
  capacity : deque_capacity l.notes ≡ deque_capacity l.initial.notes;
}
