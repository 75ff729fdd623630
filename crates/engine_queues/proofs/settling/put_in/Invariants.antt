use Rattle.std.proofs.Common.{◌≡◌, map}
use Rattle.std.specs.Vec.Iter.{into_iter_items}
use Rattle.engine_queues.specs.Settling.{as_kept, queues_with, MayAllJoin}
use Rattle.engine_queues.specs.Waiting.{has_files}
use Rattle.engine_queues.proofs.settling.put_in.Given as goal

abbrev pub invariant-loop-one : goal.invariant-loop-one
invariant-loop-one l = record {
  put : queues_with (map (as_kept l.files.items) (into_iter_items l.one-iterator)) l.queues.items
      ≡ queues_with (map (as_kept l.files.items) l.fn.placed.items) l.initial.queues.items;
  marks : l.occupied.items ≡ map has_files l.queues.items;
  join : MayAllJoin (map (as_kept l.files.items) (into_iter_items l.one-iterator)) l.queues.items;
}
