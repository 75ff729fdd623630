-- Which fragment a file is, as its attributes are read.
use Rattle.std.proofs.Common.{◌≡◌, ℕ, List, Option, codes}
use Rattle.std.specs.Prelude.{option_and_then}
use Rattle.std.specs.FinMap.{get}
use Rattle.flowfile_record.specs.Attributes.{AttributeMap}
use Rattle.machine_model.specs.Taking.{number_under, within_count, fragment_of}

pub fragment-by : (attributes : AttributeMap) (identifier : Option (List ℕ)) (index count : Option ℕ) → identifier ≡ get attributes (codes "fragment.identifier")
    → index ≡ number_under attributes (codes "fragment.index") → count ≡ number_under attributes (codes "fragment.count")
    → option_and_then (λ identifier. option_and_then (λ index. option_and_then (λ count. within_count (record { identifier = identifier; index = index; count = count })) count) index) identifier
    ≡ fragment_of attributes
fragment-by attributes identifier index count a b c =
    λ j. option_and_then (λ identifier. option_and_then (λ index. option_and_then (λ count. within_count (record { identifier = identifier; index = index; count = count })) (c j)) (b j)) (a j)
