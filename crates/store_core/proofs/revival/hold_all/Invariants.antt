use Rattle.std.proofs.Common.{◌≡◌, ℕ, ◌+◌, take}
use Rattle.content_repo.specs.Slots.{count_of, size_of, held_in, references_to}
use Rattle.store_core.proofs.revival.hold_all.Given as goal

abbrev pub invariant-loop-at : goal.invariant-loop-at
invariant-loop-at l = record {
  counts : (k : ℕ) → count_of l.contents k ≡ count_of l.fn.contents k + references_to k (take l.at-index l.refs);
  held : held_in l.contents ≡ held_in l.fn.contents + l.at-index;
  sizes : (k : ℕ) → size_of l.contents k ≡ size_of l.fn.contents k;
}
