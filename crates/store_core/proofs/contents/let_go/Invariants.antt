use Rattle.std.proofs.Common.{◌≡◌, ℕ, ◌+◌, take}
use Rattle.content_repo.specs.Slots.{count_of, size_of, held_in, references_to}
use Rattle.store_core.proofs.contents.let_go.Given as goal

abbrev pub invariant-loop-at : goal.invariant-loop-at
invariant-loop-at l = record {
  counts : (k : ℕ) → count_of l.contents k + references_to k (take l.at-index l.refs) ≡ count_of l.fn.contents k;
  held : held_in l.contents + l.at-index ≡ held_in l.fn.contents;
  sizes : (k : ℕ) → size_of l.contents k ≡ size_of l.fn.contents k;
}
