-- How a vector of pairs holds attributes.
use Rattle.std.specs.Prelude.{◌≡◌, ℕ, ◌+◌, ◌≤◌, List, map, sum_by, IsTrue, All}
use Rattle.std.specs.Ordering.{nat_cmp}
use Rattle.std.specs.Cmp.Lexicographic.{slice_cmp}
use Rattle.std.specs.FinMap.{from_sorted, is_sorted}
use Rattle.flowfile_record.specs.Attributes.{AttributeMap, IsPair, pair_size}
use Rattle.flowfile_record.specs.declared.attributes.TheConstants.{ATTRIBUTES_MAX, COUNT_SIZE}
use Rattle.flowfile_record.specs.declared.attributes.Pair.{Pair}

abbrev pub key_and_value : Pair → List ℕ × List ℕ
key_and_value pair = (pair.key, pair.value)

abbrev pub map_of : List Pair → AttributeMap
map_of pairs = from_sorted (map key_and_value pairs)

-- the keys ascend, each pair is one of attributes, and the size is theirs
pub record IsHeld (pairs : List Pair) (size : ℕ) : Type 0 where
  pub ascending : IsTrue (is_sorted (slice_cmp nat_cmp) (map key_and_value pairs))
  pub each : All IsPair (map key_and_value pairs)
  pub size_is : size ≡ sum_by pair_size (map key_and_value pairs) + COUNT_SIZE
  pub within : size ≤ ATTRIBUTES_MAX
