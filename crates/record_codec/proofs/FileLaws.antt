-- Flow files: what is read is encoded so, and what is encoded so is read again.
use Rattle.std.proofs.Common.{ℕ, ◌+◌, ◌^◌, ◌<◌, ◌≤◌, nat_lt, nat_le, List, ◌++◌, IsTrue, refl, append_assoc, arith}
use Rattle.std.specs.Int.{w32, w64, to_be_bytes}
use Rattle.std.proofs.lemmas.Bool.{ltb-true, lt-ltb, leb-true, le-leb}
use Rattle.flowfile_record.specs.Attributes.{AttributeMap, IsWithinLimits}
use Rattle.flowfile_record.specs.Field.{IsField}
use Rattle.flowfile_record.specs.Reading.{◌then◌, uint_at, number_at, raw_at}
use Rattle.flowfile_record.specs.Encoding.{IsNumber, IsDigest}
use Rattle.flowfile_record.specs.declared.TheConstants.{CONTENT_MAX}
use Rattle.flowfile_record.specs.declared.content.ContentRef.{ContentRef}
use Rattle.flowfile_record.specs.declared.flow_file.FlowFile.{FlowFile}
use Rattle.flowfile_record.proofs.FieldLaws.{pair_is, made_is, such_is, said_is, u32_is, u64_is, number_is, digest_is}
use Rattle.record_codec.specs.declared.content.TheConstants.{SLOT_LIMIT}
use Rattle.flowfile_record.specs.declared.limits.TheConstants.{DIGEST_SIZE, NUMBER_LIMIT}
use Rattle.record_codec.specs.FileReading.{attributes_at, slot_at, range_at, size_at, content_ref_at, file_number_at, flow_file_at}
use Rattle.record_codec.specs.FileEncoding.{attributes, content_ref, IsContentRef, flow_file, IsFlowFile}
use Rattle.record_codec.proofs.AttributeLaws.{attributes_is}

abbrev IsSlot : ℕ → Type 0
IsSlot slot = slot < SLOT_LIMIT

abbrev IsSize : ℕ → Type 0
IsSize size = size ≤ CONTENT_MAX

abbrev IsRange : ℕ × ℕ → Type 0
IsRange range = IsSize range.1 × IsNumber (range.0 + range.1)

abbrev IsWord : ℕ → Type 0
IsWord n = n < 2 ^ 64

abbrev IsFileNumber : ℕ → Type 0
IsFileNumber n = IsNumber n × (1 ≤ n)

abbrev raw : List ℕ → List ℕ
raw digest = digest

slot_is : IsField slot_at (to_be_bytes w32) IsSlot
unfolding slot_at
slot_is = said_is slot_at (to_be_bytes w32) (λ n. (n < 2 ^ 32) × IsTrue (nat_lt n SLOT_LIMIT)) IsSlot (such_is (λ n. nat_lt n SLOT_LIMIT) (uint_at w32) (to_be_bytes w32) (λ n. n < 2 ^ 32) u32_is)
    (λ n h. ltb-true n SLOT_LIMIT h.1) (λ n h. (omega arith, lt-ltb n SLOT_LIMIT h))

size_is : IsField size_at (to_be_bytes w64) IsSize
unfolding size_at
size_is = said_is size_at (to_be_bytes w64) (λ n. (n < 2 ^ 64) × IsTrue (nat_le n CONTENT_MAX)) IsSize (such_is (λ n. nat_le n CONTENT_MAX) (uint_at w64) (to_be_bytes w64) IsWord u64_is)
    (λ n h. leb-true n CONTENT_MAX h.1) (λ n h. (omega arith, le-leb n CONTENT_MAX h))

abbrev offset_and_size : ℕ × ℕ → List ℕ
offset_and_size range = to_be_bytes w64 range.0 ++ to_be_bytes w64 range.1

range_is : IsField range_at offset_and_size IsRange
unfolding range_at
range_is = said_is range_at offset_and_size (λ range. (IsNumber range.0 × IsSize range.1) × IsTrue (nat_lt (range.0 + range.1) NUMBER_LIMIT)) IsRange
    (such_is (λ range. nat_lt (range.0 + range.1) NUMBER_LIMIT) (number_at then size_at) offset_and_size (λ range. IsNumber range.0 × IsSize range.1)
    (pair_is number_at size_at (to_be_bytes w64) (to_be_bytes w64) IsNumber IsSize number_is size_is))
    (λ range h. (h.0.1, ltb-true (range.0 + range.1) NUMBER_LIMIT h.1)) (λ range h. ((omega (arith, h.1), h.0), lt-ltb (range.0 + range.1) NUMBER_LIMIT h.1))

file_number_is : IsField file_number_at (to_be_bytes w64) IsFileNumber
unfolding file_number_at
file_number_is = said_is file_number_at (to_be_bytes w64) (λ n. IsNumber n × IsTrue (nat_le 1 n)) IsFileNumber (such_is (λ n. nat_le 1 n) number_at (to_be_bytes w64) IsNumber number_is)
    (λ n h. (h.0, leb-true 1 n h.1)) (λ n h. (h.0, le-leb 1 n h.1))

-- ---- content references

abbrev ContentParts : Type 0
ContentParts = ℕ × ((ℕ × ℕ) × List ℕ)

content_parts : ContentRef → ContentParts
content_parts c = (c.slot, ((c.offset, c.size), c.digest))

pub content_ref_is : IsField content_ref_at content_ref IsContentRef
unfolding content_ref_at content_ref content_parts
content_ref_is =
    let two = pair_is range_at (raw_at DIGEST_SIZE) offset_and_size raw IsRange IsDigest range_is digest_is in
    let one = pair_is slot_at (range_at then raw_at DIGEST_SIZE) (to_be_bytes w32) _ IsSlot _ slot_is two in
    made_is (λ c. record { slot = c.0; offset = c.1.0.0; size = c.1.0.1; digest = c.1.1 }) content_parts (slot_at then range_at then raw_at DIGEST_SIZE) _ content_ref _ IsContentRef one
    (λ c. refl)
    (λ c. simp append_assoc)
    (λ c h. record { slot = h.0; size = h.1.0.0; ends = h.1.0.1; digest = h.1.1 })
    (λ c h. (h.slot, ((h.size, h.ends), h.digest)))

-- ---- flow files

abbrev FileParts : Type 0
FileParts = ℕ × (AttributeMap × (ContentRef × (ℕ × (ℕ × ℕ))))

file_parts : FlowFile → FileParts
file_parts f = (f.number, (f.attributes, (f.content, (f.entered, (f.penalty_end, f.arrival)))))

pub flow_file_is : IsField flow_file_at flow_file IsFlowFile
unfolding flow_file_at flow_file file_parts
flow_file_is =
    let five = pair_is (uint_at w64) number_at (to_be_bytes w64) (to_be_bytes w64) IsWord IsNumber u64_is number_is in
    let four = pair_is (uint_at w64) (uint_at w64 then number_at) (to_be_bytes w64) _ IsWord _ u64_is five in
    let three = pair_is content_ref_at (uint_at w64 then uint_at w64 then number_at) content_ref _ IsContentRef _ content_ref_is four in
    let two = pair_is attributes_at (content_ref_at then uint_at w64 then uint_at w64 then number_at) attributes _ IsWithinLimits _ attributes_is three in
    let one = pair_is file_number_at (attributes_at then content_ref_at then uint_at w64 then uint_at w64 then number_at) (to_be_bytes w64) _ IsFileNumber _ file_number_is two in
    made_is (λ f. record { number = f.0; attributes = f.1.0; content = f.1.1.0; entered = f.1.1.1.0; penalty_end = f.1.1.1.1.0; arrival = f.1.1.1.1.1 }) file_parts
    (file_number_at then attributes_at then content_ref_at then uint_at w64 then uint_at w64 then number_at) _ flow_file _ IsFlowFile one
    (λ f. refl)
    (λ f. simp append_assoc)
    (λ f h. record { first_number = h.0.1; number = h.0.0; attributes = h.1.0; content = h.1.1.0; entered = h.1.1.1.0; penalty_end = h.1.1.1.1.0; arrival = h.1.1.1.1.1 })
    (λ f h. ((h.number, h.first_number), (h.attributes, (h.content, (h.entered, (h.penalty_end, h.arrival))))))
