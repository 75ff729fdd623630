-- The log of a case.
use Rattle.std.proofs.Common.{◌≡◌, ℕ, [], length, refl, ap, inl, arith}
use Rattle.disk_trait.specs.Files.{Files}
use Rattle.disk_trait.specs.declared.file_name.FileName.{FileName}
use Rattle.checkpoint_store.specs.Begun.{MayBegin, log_file}
use Rattle.record_codec.specs.EntryEncoding.{entry as encoding}
use Rattle.record_codec.specs.declared.entry.LogEntry.TheVariants.{SwapIn}

-- a payload of a swap-in
pub swap_in_length : (connection batch : ℕ) → length (encoding (SwapIn connection batch)) ≡ 10
unfolding encoding
swap_in_length connection batch = refl

-- where a disk is empty, a log may be begun
pub may_begin : (number : ℕ) (files : Files) → ((f : FileName) → files f ≡ []) → MayBegin number files
may_begin number files empty = record {
  empty = empty (log_file number);
  greater = λ n up. inl (omega (arith, ap length (empty (log_file n))));
}
