use Rattle.std.proofs.Common.{◌≡◌, ◌-◌, ◌<◌, IsTrue, is_ok}
use Rattle.flowfile_record.specs.Reading.{text_at, items_at}
use Rattle.flowfile_record.proofs.Items.{with_front}
use Rattle.record_codec.proofs.texts.read_items.Given as goal

abbrev pub invariant-loop : goal.invariant-loop
invariant-loop l = record {
  reads : with_front l.texts.items (items_at text_at (l.count - l.counter) l.rest) ≡ items_at text_at l.count l.bytes;
  none : l.counter ≡ 0 → l.rest ≡ l.bytes;
  some : 0 < l.counter → IsTrue (is_ok (text_at l.bytes));
}
