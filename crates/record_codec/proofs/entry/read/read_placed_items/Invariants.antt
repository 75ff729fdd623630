use Rattle.std.proofs.Common.{◌≡◌, ◌-◌, ◌<◌, ◌||◌, IsTrue, is_ok}
use Rattle.flowfile_record.specs.Reading.{items_at}
use Rattle.flowfile_record.proofs.Items.{with_front}
use Rattle.record_codec.specs.ActiveFile.{active_file_at, active_front_at}
use Rattle.record_codec.proofs.entry.read.read_placed_items.Given as goal

abbrev pub invariant-loop : goal.invariant-loop
invariant-loop l = record {
  reads : with_front l.items.items (items_at active_file_at (l.count - l.counter) l.rest) ≡ items_at active_file_at l.count l.bytes;
  none : l.counter ≡ 0 → l.rest ≡ l.bytes;
  some : 0 < l.counter → IsTrue (is_ok (active_front_at l.bytes) || is_ok (active_file_at l.bytes));
}
