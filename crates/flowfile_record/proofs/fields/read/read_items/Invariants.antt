use Rattle.std.proofs.Common.{◌≡◌, ◌-◌, ◌<◌, IsTrue, is_ok}
use Rattle.flowfile_record.specs.Reading.{number_at, items_at}
use Rattle.flowfile_record.proofs.Items.{with_front}
use Rattle.flowfile_record.proofs.fields.read.read_items.Given as goal

abbrev pub invariant-loop : goal.invariant-loop
invariant-loop l = record {
  reads : with_front l.items.items (items_at number_at (l.count - l.counter) l.rest) ≡ items_at number_at l.count l.bytes;
  none : l.counter ≡ 0 → l.rest ≡ l.bytes;
  some : 0 < l.counter → IsTrue (is_ok (number_at l.bytes));
}
