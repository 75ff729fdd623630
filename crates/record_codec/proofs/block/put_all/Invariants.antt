use Rattle.std.proofs.Common.{◌≡◌, ◌+◌, ◌≤◌, length, take, ◌++◌}
use Rattle.std.specs.Prelude.{vec_len, vec_capacity}
use Rattle.std.specs.List.{flat_map}
use Rattle.record_codec.proofs.block.put_all.Given as goal

abbrev pub invariant-loop-part : goal.invariant-loop-part
invariant-loop-part l =
    (l.out.items ≡ l.fn.out.items ++ flat_map (λ part. part.now) (take l.part-index l.parts))
    × (vec_len l.out ≡ vec_len l.fn.out + length (flat_map (λ part. part.now) (take l.part-index l.parts)))
    × (vec_capacity l.fn.out ≤ vec_capacity l.out)
