use Rattle.std.proofs.Common.{◌≡◌, ◌++◌}
use Rattle.std.specs.Vec.Iter.{into_iter_items}
use Rattle.record_codec.specs.LogEntries.{gated}
use Rattle.flowfile_wal.proofs.read.push_all.Given as goal

abbrev pub invariant-loop-entry : goal.invariant-loop-entry
invariant-loop-entry l = l.all.items ++ gated l.gate (into_iter_items l.entry-iterator) ≡ l.initial.all.items ++ gated l.gate l.fn.entries.items
