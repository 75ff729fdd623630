use Rattle.std.proofs.Common.{◌≡◌, ◌++◌}
use Rattle.std.specs.Vec.Iter.{into_iter_items}
use Rattle.flow_query.proofs.told.add_events.Given as goal

abbrev pub invariant-loop-event : goal.invariant-loop-event
invariant-loop-event l = record {
  next : goal.iterator-loop-event.can_next l.event-iterator;
  finite : goal.iterator-loop-event.is_finite l.event-iterator;
  index : l.index ≡ l.initial.index ++ l.yielded;
  left : l.yielded ++ into_iter_items l.event-iterator ≡ l.fn.events.items;
}
