-- Reading the other blocks of a snapshot from left to right, up to the first field that can't be read.
use Rattle.std.specs.Prelude.{ℕ}
use Rattle.std.specs.Int.{w16, w64}
use Rattle.flowfile_record.specs.Reading.{Reading, ◌then◌, made, uint_at, number_at}
use Rattle.flowfile_record.specs.declared.stored.SwapBatch.{SwapBatch}

unfoldable pub batch_at : Reading SwapBatch
batch_at = made (λ b. record {
  connection = b.0;
  batch = b.1.0;
  files = b.1.1.0;
  bytes = b.1.1.1.0;
  encoded = b.1.1.1.1;
})
    (uint_at w16 then number_at then number_at then uint_at w64 then uint_at w64)

abbrev pub ending_at : Reading ℕ
ending_at = uint_at w64
