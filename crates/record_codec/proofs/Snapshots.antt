-- What is read of a batch is encoded so, and what is encoded so is read again.
use Rattle.std.proofs.Common.{ℕ, ◌^◌, ◌<◌, List, ◌++◌, refl}
use Rattle.std.specs.Int.{w16, w64, to_be_bytes}
use Rattle.flowfile_record.specs.Field.{IsField}
use Rattle.flowfile_record.specs.Reading.{Reading, ◌then◌, uint_at, number_at}
use Rattle.flowfile_record.specs.Encoding.{IsNumber}
use Rattle.flowfile_record.specs.declared.stored.SwapBatch.{SwapBatch}
use Rattle.flowfile_record.proofs.FieldLaws.{pair_is, made_from, u16_is, u64_is, number_is}
use Rattle.record_codec.specs.Snapshot.{swap_batch, IsBatch, ending, IsEnding}
use Rattle.record_codec.specs.SnapshotReading.{batch_at, ending_at}

-- the fields, one behind the other
abbrev Fields : Type 0
Fields = ℕ × (ℕ × (ℕ × (ℕ × ℕ)))

abbrev batch_of : Fields → SwapBatch
batch_of b = record { connection = b.0; batch = b.1.0; files = b.1.1.0; bytes = b.1.1.1.0; encoded = b.1.1.1.1 }

abbrev fields_at : Reading Fields
fields_at = uint_at w16 then number_at then number_at then uint_at w64 then uint_at w64

abbrev encoded : Fields → List ℕ
encoded b = to_be_bytes w16 b.0 ++ to_be_bytes w64 b.1.0 ++ to_be_bytes w64 b.1.1.0 ++ to_be_bytes w64 b.1.1.1.0 ++ to_be_bytes w64 b.1.1.1.1

abbrev AreFields : Fields → Type 0
AreFields b = (b.0 < 2 ^ 16) × (IsNumber b.1.0 × (IsNumber b.1.1.0 × ((b.1.1.1.0 < 2 ^ 64) × (b.1.1.1.1 < 2 ^ 64))))

fields_are : IsField fields_at encoded AreFields
fields_are = pair_is _ _ _ _ _ _ u16_is (pair_is _ _ _ _ _ _ number_is (pair_is _ _ _ _ _ _ number_is (pair_is _ _ _ _ _ _ u64_is u64_is)))

pub batch_is : IsField batch_at swap_batch IsBatch
unfolding batch_at swap_batch
batch_is = made_from batch_of fields_at encoded swap_batch AreFields IsBatch fields_are
    (λ a has. (refl, record { connection = has.0; batch = has.1.0; files = has.1.1.0; bytes = has.1.1.1.0; encoded = has.1.1.1.1 }))
    (λ b has. ((b.connection, (b.batch, (b.files, (b.bytes, b.encoded)))), (has.connection, (has.batch, (has.files, (has.bytes, has.encoded)))), refl))

pub ending_is : IsField ending_at ending IsEnding
ending_is = u64_is
