-- The versions of the format: what is read is encoded so, and what is encoded so is read again.
use Rattle.std.proofs.Common.{ℕ, ◌^◌, ◌<◌, IsTrue}
use Rattle.flowfile_record.specs.Field.{IsField}
use Rattle.flowfile_record.specs.Reading.{byte_at}
use Rattle.flowfile_record.specs.Encoding.{byte}
use Rattle.flowfile_record.proofs.FieldLaws.{such_is, byte_is}
use Rattle.record_codec.specs.Version.{is_version, version_at}

abbrev pub IsVersion : ℕ → Type 0
IsVersion version = (version < 2 ^ 8) × IsTrue (is_version version)

pub version_is : IsField version_at byte IsVersion
unfolding version_at
version_is = such_is is_version byte_at byte (λ n. n < 2 ^ 8) byte_is
