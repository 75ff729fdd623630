use Rattle.std.proofs.Common.{◌≡◌, ◌+◌, drop, length}
use Rattle.std.specs.Prelude.{sum_by}
use Rattle.flow_queue.specs.Counts.{AreCountsOf, count_places}
use Rattle.flow_queue.specs.Leaving.{files_staying, MayLeaveTogether}
use Rattle.flow_queue.specs.Queue.{held_bytes}
use Rattle.flow_queue.proofs.queue.leaving.take_files.Given as goal

-- the files that are left, without those of the numbers that are left
abbrev pub invariant-loop-number : goal.invariant-loop-number
invariant-loop-number l = record {
  may : MayLeaveTogether l.files.items (drop l.number-index l.numbers);
  files : files_staying (drop l.number-index l.numbers) l.files.items ≡ files_staying l.numbers l.initial.files.items;
  room : l.files.room + length (drop l.number-index l.numbers) ≡ l.initial.files.room + length l.numbers;
  count : length l.files.items + length l.numbers ≡ length l.initial.files.items + length (drop l.number-index l.numbers);
  counted : AreCountsOf l.counts l.files.items;
  places : count_places l.counts ≡ count_places l.initial.counts;
  bytes : l.bytes + sum_by held_bytes l.files.items ≡ sum_by held_bytes l.initial.files.items;
}
