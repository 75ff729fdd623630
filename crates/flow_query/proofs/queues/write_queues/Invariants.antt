use Rattle.std.proofs.Common.{◌≡◌, ℕ, ◌<◌, ◌≤◌, IsTrue, length, vec_len}
use Rattle.flowfile_record.specs.Stored.{kept_of}
use Rattle.flow_query.specs.Parts.{lines_text, listed_waiting, waiting_in}
use Rattle.flow_query.proofs.Queued.{lines_from}
use Rattle.flow_query.proofs.Written.{Leaves}
use Rattle.flow_query.proofs.queues.write_queues.Given as goal

abbrev pub invariant-loop-place : goal.invariant-loop-place
invariant-loop-place g l = record {
  left : IsTrue g.S.Sink.tells
      → Leaves (lines_text (kept_of l.stored)) (lines_from (kept_of l.stored) l.place) (g.S.Sink.written l.fn.sink) (g.S.Sink.written l.sink);
  len : vec_len l.lists ≡ length l.ids;
  lists : (at : ℕ) → l.place ≤ at → at < length l.ids → listed_waiting l.lists.items at ≡ waiting_in (kept_of l.stored).files at;
  faults : g.S.Sink.faults l.fn.sink ≤ g.S.Sink.faults l.sink;
}
