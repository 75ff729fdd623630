use Rattle.std.proofs.Common.{◌≡◌, ◌+◌, length}
use Rattle.std.specs.Vec.Iter.{into_iter_items}
use Rattle.flow_queue.specs.Entering.{AreKept, MayComeTogether, files_with}
use Rattle.flow_queue.proofs.queue.entering.put_files.Given as goal

-- the files that are left may come, and make the files what they have to be
abbrev pub invariant-loop-file : goal.invariant-loop-file
invariant-loop-file l = record {
  kept : AreKept l.files.items l.files.room l.counts l.bytes;
  may : MayComeTogether l.files.items (into_iter_items l.file-iterator);
  files : files_with (into_iter_items l.file-iterator) l.files.items ≡ files_with l.fn.coming.items l.initial.files.items;
  room : l.files.room + length l.fn.coming.items ≡ l.initial.files.room + length (into_iter_items l.file-iterator);
}
