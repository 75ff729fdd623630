use Rattle.std.proofs.Common.{◌≡◌, ◌-◌, ◌<◌, IsTrue, is_ok}
use Rattle.std.specs.FinMap.{empty}
use Rattle.record_codec.specs.FileReading.{pair_at, attribute_pairs_at}
use Rattle.record_codec.proofs.attributes.read_pairs.Given as goal

abbrev pub invariant-loop : goal.invariant-loop
invariant-loop l = record {
  reads : attribute_pairs_at (l.count - l.counter) l.attributes l.rest ≡ attribute_pairs_at l.count empty l.bytes;
  none : l.counter ≡ 0 → (l.attributes ≡ empty) × (l.rest ≡ l.bytes);
  some : 0 < l.counter → IsTrue (is_ok (pair_at empty l.bytes));
}
