use Rattle.std.proofs.Common.{ℕ, ◌<◌, slice_index}
use Rattle.store_core.proofs.reading.find_from.Given as goal

abbrev pub invariant-loop-number : goal.invariant-loop-number
invariant-loop-number g l = (j : ℕ) → j < l.number-index → slice_index l.number-items j < l.from
