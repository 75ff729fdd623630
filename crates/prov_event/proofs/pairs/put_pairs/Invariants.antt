use Rattle.std.proofs.Common.{◌≡◌, ◌+◌, ◌≤◌, ◌++◌, take}
use Rattle.std.specs.Prelude.{map, vec_len, vec_capacity}
use Rattle.prov_event.proofs.pairs.put_pairs.Given as goal

abbrev pub invariant-loop-parent : goal.invariant-loop-parent
invariant-loop-parent l = record {
  items : l.list.items ≡ l.fn.list.items ++ map (λ parent. (l.child, parent)) (take l.parent-index l.parents);
  len : vec_len l.list ≡ vec_len l.fn.list + l.parent-index;
  capacity : vec_capacity l.fn.list ≤ vec_capacity l.list;
}
