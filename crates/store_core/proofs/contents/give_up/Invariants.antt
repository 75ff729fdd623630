use Rattle.std.proofs.Common.{◌≡◌, ℕ, ◌+◌, length, take}
use Rattle.content_repo.specs.Slots.{count_of, size_of, held_in, references_to}
use Rattle.store_core.specs.Placing.{contents_of}
use Rattle.store_core.proofs.contents.give_up.Given as goal

abbrev pub invariant-loop-number : goal.invariant-loop-number
invariant-loop-number l = record {
  counts : (k : ℕ) → count_of l.contents k + references_to k (contents_of l.files.items (take l.number-index l.gone)) ≡ count_of l.fn.contents k;
  held : held_in l.contents + length (contents_of l.files.items (take l.number-index l.gone)) ≡ held_in l.fn.contents;
  sizes : (k : ℕ) → size_of l.contents k ≡ size_of l.fn.contents k;
}
