use Rattle.std.proofs.Common.{◌≡◌, ◌-◌, ◌<◌, IsTrue, is_ok}
use Rattle.flowfile_record.specs.Reading.{items_at}
use Rattle.flowfile_record.proofs.Items.{with_front}
use Rattle.record_codec.specs.GroupReading.{item_at}
use Rattle.record_codec.proofs.group.read_items.Given as goal

abbrev pub invariant-loop : goal.invariant-loop
invariant-loop l = record {
  reads : with_front l.items.items (items_at item_at (l.count - l.counter) l.rest) ≡ items_at item_at l.count l.bytes;
  none : l.counter ≡ 0 → l.rest ≡ l.bytes;
  some : 0 < l.counter → IsTrue (is_ok (item_at l.bytes));
}
