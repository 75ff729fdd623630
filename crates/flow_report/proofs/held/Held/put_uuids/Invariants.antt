use Rattle.std.proofs.Common.{◌≡◌, ℕ, ◌≤◌, List, ◌++◌, Ok, drop, IsTrue}
use Rattle.serde_json.specs.Data.{array}
use Rattle.serde_json.specs.Written.{compact_text, items_text}
use Rattle.flow_report.specs.Events.{file_items}
use Rattle.flow_report.specs.Writing.{Puts}
use Rattle.flow_report.proofs.held.Held.put_uuids.Given as goal

abbrev pub invariant-loop-number : goal.invariant-loop-number
invariant-loop-number g l = record {
  text : List ℕ;
  whole : text ++ items_text l.is_later (file_items l.store (drop l.number-index l.numbers)) ≡ compact_text (array (file_items l.store l.numbers));
  put : IsTrue g.S.Sink.tells → Puts text (g.S.Sink.written l.fn.sink) l.fn.self.bytes.items (g.S.Sink.written l.sink) l.self.bytes.items (Ok tt);
  faults : g.S.Sink.faults l.fn.sink ≤ g.S.Sink.faults l.sink;
}
