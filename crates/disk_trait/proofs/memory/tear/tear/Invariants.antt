use Rattle.std.proofs.Common.{◌≡◌, ◌++◌, false, take, drop, slice_index_or}
use Rattle.disk_trait.specs.MemoryStop.{drawn, seed_after}
use Rattle.disk_trait.proofs.memory.tear.tear.Given as goal

abbrev pub invariant-loop-i : goal.invariant-loop-i
invariant-loop-i l = record {
  rest : take l.i l.bytes ++ drawn (λ i. slice_index_or l.marks i false) l.i l.x (drop l.i l.bytes) ≡ drawn (λ i. slice_index_or l.marks i false) 0 l.seed l.initial.bytes;
  seed : seed_after (λ i. slice_index_or l.marks i false) l.i l.x (drop l.i l.bytes) ≡ seed_after (λ i. slice_index_or l.marks i false) 0 l.seed l.initial.bytes;
}
