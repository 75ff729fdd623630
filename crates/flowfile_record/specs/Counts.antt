-- How many files each processor has generated.
use Rattle.std.specs.Prelude.{ℕ, List, Option, Some, None, slice_set}
use Rattle.flowfile_record.specs.declared.stored.Counted.{Counted}

-- the counts, that of a generator being set
abbrev pub with_count : Option Counted → List ℕ → List ℕ
with_count None counts = counts
with_count (Some g) counts = slice_set counts g.processor g.count
