-- Reading a flow file from left to right, up to the first field that can't be read.
use Rattle.std.specs.Prelude.{ℕ, zero, suc, ◌+◌, ◌&&◌, ◌==◌, nat_lt, nat_le, Bool, not, List, length, Ok, Err, if◌then◌else◌}
use Rattle.std.specs.List.{list_all}
use Rattle.std.specs.Int.{w16, w32, w64}
use Rattle.std.specs.Ordering.{nat_cmp, is_lt}
use Rattle.std.specs.Cmp.Lexicographic.{slice_cmp}
use Rattle.std.specs.FinMap.{empty, entries, insert}
use Rattle.flowfile_record.specs.Attributes.{AttributeMap, encoded_size, has_key_length, is_uuid}
use Rattle.flowfile_record.specs.Reading.{Reading, ◌>>=◌, ◌then◌, made, such, uint_at, number_at, raw_at, text_at, long_at}
use Rattle.flowfile_record.specs.declared.TheConstants.{CONTENT_MAX}
use Rattle.flowfile_record.specs.declared.attributes.TheConstants.{ATTRIBUTES_MAX}
use Rattle.flowfile_record.specs.declared.content.ContentRef.{ContentRef}
use Rattle.flowfile_record.specs.declared.flow_file.FlowFile.{FlowFile}
use Rattle.record_codec.specs.declared.content.TheConstants.{SLOT_LIMIT}
use Rattle.flowfile_record.specs.declared.limits.TheConstants.{DIGEST_SIZE, NUMBER_LIMIT}

-- ---- attributes

-- a key that may stand behind these: it keeps the rule of keys, and each of theirs comes before it
unfoldable pub may_follow : AttributeMap → List ℕ → Bool
may_follow m key = has_key_length key && not (is_uuid key)
    && list_all (λ pair. is_lt (slice_cmp nat_cmp pair.0 key)) (entries m)

-- a value that there is room for
unfoldable pub may_hold : AttributeMap → List ℕ → List ℕ → Bool
may_hold m key value = nat_le (encoded_size (insert m key value)) ATTRIBUTES_MAX

-- a pair behind these
unfoldable pub pair_at : AttributeMap → Reading AttributeMap
pair_at m bytes = do
  key ← such (may_follow m) text_at bytes
  value ← such (may_hold m key.0) long_at key.1
  Ok (insert m key.0 value.0, value.1)

-- so many pairs behind these
unfoldable pub attribute_pairs_at : ℕ → AttributeMap → Reading AttributeMap
attribute_pairs_at zero m bytes = Ok (m, bytes)
attribute_pairs_at (suc n) m bytes = do
  more ← pair_at m bytes
  attribute_pairs_at n more.0 more.1

unfoldable pub attributes_at : Reading AttributeMap
attributes_at bytes = do
  count ← uint_at w16 bytes
  attribute_pairs_at count.0 empty count.1

-- the first pair behind the count
abbrev pub first_pair_at : Reading AttributeMap
first_pair_at bytes = do
  count ← uint_at w16 bytes
  if count.0 == 0 then Err (length count.1) else pair_at empty count.1

-- ---- content reference

unfoldable pub slot_at : Reading ℕ
slot_at = such (λ slot. nat_lt slot SLOT_LIMIT) (uint_at w32)

unfoldable pub size_at : Reading ℕ
size_at = such (λ size. nat_le size CONTENT_MAX) (uint_at w64)

-- an offset and a size: where the content ends is a number too
unfoldable pub range_at : Reading (ℕ × ℕ)
range_at = such (λ range. nat_lt (range.0 + range.1) NUMBER_LIMIT) (number_at then size_at)

unfoldable pub content_ref_at : Reading ContentRef
content_ref_at = made (λ c. record { slot = c.0; offset = c.1.0.0; size = c.1.0.1; digest = c.1.1 })
    (slot_at then range_at then raw_at DIGEST_SIZE)

-- ---- flow file

-- flow files are counted from 1
unfoldable pub file_number_at : Reading ℕ
file_number_at = such (λ number. nat_le 1 number) number_at

-- a flow file up to its first pair of attributes
abbrev pub file_front_at : Reading (ℕ × AttributeMap)
file_front_at = file_number_at then first_pair_at

unfoldable pub flow_file_at : Reading FlowFile
flow_file_at = made (λ f. record {
  number = f.0;
  attributes = f.1.0;
  content = f.1.1.0;
  entered = f.1.1.1.0;
  penalty_end = f.1.1.1.1.0;
  arrival = f.1.1.1.1.1;
})
    (file_number_at then attributes_at then content_ref_at then uint_at w64 then uint_at w64 then number_at)
