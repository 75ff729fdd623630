use Rattle.std.proofs.Common.{◌≡◌, ◌-◌, length}
use Rattle.std.specs.Prelude.{filter}
use Rattle.flow_queue.specs.declared.held.Held.{Held}
use Rattle.flow_queue.proofs.queue.swapping.count_resting.Given as goal

-- what is left, without those that fly of the files that are left
abbrev pub invariant-loop-held : goal.invariant-loop-held
invariant-loop-held l = record {
  next : (goal.iterator-loop-held).can_next l.held-iterator;
  finite : (goal.iterator-loop-held).is_finite l.held-iterator;
  left : l.resting - length (filter (λ (held : Held). held.in_flight) l.held-iterator) ≡ length l.files.items - length (filter (λ (held : Held). held.in_flight) l.files.items);
}
