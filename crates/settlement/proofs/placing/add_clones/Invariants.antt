use Rattle.std.proofs.Common.{◌≡◌, ◌+◌, ◌++◌, length, drop}
use Rattle.settlement.specs.Placing.{clones_of, further}
use Rattle.settlement.proofs.placing.add_clones.Given as goal

abbrev pub invariant-loop-connection : goal.invariant-loop-connection
invariant-loop-connection l = record {
  count : length l.clones.items ≡ length l.initial.clones.items + l.connection-index;
  whole : l.clones.items ++ clones_of l.place (l.number + length l.clones.items) (l.arrival + length l.clones.items) l.file (drop l.connection-index (further l.file.goes))
      ≡ l.initial.clones.items ++ clones_of l.place (l.number + length l.initial.clones.items) (l.arrival + length l.initial.clones.items) l.file (further l.file.goes);
}
