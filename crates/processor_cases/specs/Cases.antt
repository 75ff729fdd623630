-- What a case says.
use Rattle.std.specs.Prelude.{◌≡◌, ◌≤◌, true, is_some, None}
use Rattle.flowfile_record.specs.declared.TheConstants.{CONTENT_MAX}
use Rattle.process_session.specs.Bench.{IsWhole}
use Rattle.process_session.specs.declared.file.Taken.{Taken}

-- a file whose content was read whole, and is no longer than one may be
pub record IsReadFile (file : Taken) : Type 0 where
  pub small : file.size ≤ CONTENT_MAX
  pub whole : IsWhole file
  pub filled : is_some file.bytes ≡ true

abbrev pub taken_without_bytes : Taken → Taken
taken_without_bytes file = record file { bytes = None }
