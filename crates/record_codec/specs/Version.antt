-- The versions of the store's format, with which a log and a snapshot begin.
use Rattle.std.specs.Prelude.{ℕ, ◌==◌, ◌||◌, Bool}
use Rattle.flowfile_record.specs.Reading.{Reading, such, byte_at}
use Rattle.record_codec.specs.declared.TheConstants.{FIRST_VERSION, SECOND_VERSION, FORMAT_VERSION}

-- a version that has an encoding
abbrev pub is_version : ℕ → Bool
is_version version = (version == FIRST_VERSION) || (version == SECOND_VERSION)

-- the version that counts
abbrev pub is_known : ℕ → Bool
is_known version = version == FORMAT_VERSION

unfoldable pub version_at : Reading ℕ
version_at = such is_version byte_at
