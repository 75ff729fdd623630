-- The attributes of a flow file: a finite map from texts to texts.
use Rattle.std.specs.Prelude.{◌≡◌, ℕ, ◌+◌, ◌≤◌, ◌&&◌, nat_lt, nat_le, Bool, not, List, length, sum_by, IsTrue, codes, bytes_eq, All, Result, Ok, Err, if◌then◌else◌}
use Rattle.std.specs.Ordering.{nat_cmp}
use Rattle.std.specs.Cmp.Lexicographic.{slice_cmp}
use Rattle.std.specs.Str.{IsUtf8}
use Rattle.std.specs.FinMap.{FinMap, entries, get, insert, retain_keys}
use Rattle.flowfile_record.specs.OptionalText.{same_text}
use Rattle.flowfile_record.specs.declared.attributes.TheConstants.{ATTRIBUTES_MAX, KEY_MAX, COUNT_SIZE, PAIR_SIZE}
use Rattle.flowfile_record.specs.declared.attributes.Put.{Put}
use Rattle.flowfile_record.specs.declared.attributes.Put.TheVariants.{Stored, Ignored}
use Rattle.flowfile_record.specs.declared.attributes.AttrError.{AttrError}
use Rattle.flowfile_record.specs.declared.attributes.AttrError.TheVariants.{BadKey, TooLarge}

-- by the bytes of the keys
abbrev pub AttributeMap : Type 0
AttributeMap = FinMap (slice_cmp nat_cmp) (List ℕ)

-- the key's length in two bytes, the key, the value's length in four bytes, and the value
abbrev pub pair_size : List ℕ × List ℕ → ℕ
pair_size pair = length pair.0 + length pair.1 + PAIR_SIZE

-- the count of the pairs in two bytes, and the pairs
unfoldable pub encoded_size : AttributeMap → ℕ
encoded_size attributes = sum_by pair_size (entries attributes) + COUNT_SIZE

-- `uuid` is no attribute of its own: it follows from the flow file's number
abbrev pub is_uuid : List ℕ → Bool
is_uuid key = bytes_eq key (codes "uuid")

abbrev pub has_key_length : List ℕ → Bool
has_key_length key = nat_lt 0 (length key) && nat_le (length key) KEY_MAX

-- a key and a value that stand in attributes
pub record IsPair (pair : List ℕ × List ℕ) : Type 0 where
  pub key : IsTrue (has_key_length pair.0 && not (is_uuid pair.0))
  pub key_text : IsUtf8 pair.0
  pub value_text : IsUtf8 pair.1

-- what holds of all attributes
pub record IsWithinLimits (attributes : AttributeMap) : Type 0 where
  pub pairs : All IsPair (entries attributes)
  pub size : encoded_size attributes ≤ ATTRIBUTES_MAX

-- what putting a value under a key answers, where there is memory for it
abbrev pub put_answer : AttributeMap → List ℕ → List ℕ → Result Put AttrError
put_answer attributes key value =
    let size = encoded_size (insert attributes key value) in
    if is_uuid key then Ok Ignored
    else if not (has_key_length key) then Err BadKey
    else if nat_lt ATTRIBUTES_MAX size then Err (TooLarge size)
    else Ok Stored

-- what is left where a put was answered so
abbrev pub after_put : Result Put AttrError → AttributeMap → List ℕ → List ℕ → AttributeMap
after_put (Ok Stored) attributes key value = insert attributes key value
after_put (Ok Ignored) attributes key value = attributes
after_put (Err error) attributes key value = attributes

-- A put's answer is this one. Only where it is to store may memory run out.
abbrev pub IsPutAnswer : Result Put AttrError → Result Put AttrError → Type 0
IsPutAnswer (Err AttrError.Memory) answer = answer ≡ Ok Stored
IsPutAnswer result answer = result ≡ answer

-- the pairs of both
unfoldable pub shared : AttributeMap → AttributeMap → AttributeMap
shared these others = retain_keys these (λ key. same_text (get these key) (get others key))
