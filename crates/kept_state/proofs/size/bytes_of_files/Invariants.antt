use Rattle.std.proofs.Common.{◌≡◌, ◌+◌, map}
use Rattle.std.specs.List.{sum}
use Rattle.checkpoint_store.specs.Consistent.{record_size}
use Rattle.kept_state.proofs.size.bytes_of_files.Given as goal

abbrev pub invariant-loop-active : goal.invariant-loop-active
invariant-loop-active l = record {
  next : (goal.iterator-loop-active).can_next l.active-iterator;
  finite : (goal.iterator-loop-active).is_finite l.active-iterator;
  bytes : l.bytes + sum (map record_size l.active-iterator) ≡ sum (map record_size l.fn.files.items);
}
