use Rattle.std.proofs.Common.{◌≡◌, ◌+◌, ◌≤◌, ◌++◌, length, take}
use Rattle.std.specs.Prelude.{vec_len, vec_capacity}
use Rattle.flowfile_record.specs.Kin.{pairs_of}
use Rattle.prov_event.proofs.pairs.add_pairs.Given as goal

abbrev pub invariant-loop-child : goal.invariant-loop-child
invariant-loop-child l = record {
  items : l.list.items ≡ l.fn.list.items ++ pairs_of l.parents (take l.child-index l.children);
  len : vec_len l.list ≡ vec_len l.fn.list + length (pairs_of l.parents (take l.child-index l.children));
  room : vec_len l.fn.list + length (pairs_of l.parents l.children) ≤ vec_capacity l.list;
  capacity : vec_capacity l.fn.list ≤ vec_capacity l.list;
}
