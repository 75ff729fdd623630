-- What a pair of attributes takes.
use Rattle.std.specs.Prelude.{ℕ, List}
use Rattle.std.specs.Option.{option_map_or}
use Rattle.std.specs.FinMap.{get}
use Rattle.flowfile_record.specs.Attributes.{AttributeMap, pair_size}

-- what the pair takes that has the key, where there is one
abbrev pub held_size : AttributeMap → List ℕ → ℕ
held_size attributes key = option_map_or (λ value. pair_size (key, value)) (get attributes key) 0
