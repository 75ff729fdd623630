-- A session that passes on all files that it took.
use Rattle.std.specs.Prelude.{ℕ, List, ◌++◌, length, map, take, drop, Some}
use Rattle.flowfile_record.specs.declared.worked.End.TheVariants.{To}
use Rattle.process_session.specs.Bench.{Bench}
use Rattle.process_session.specs.declared.file.File.{File}

abbrev pub file_passed_to : (relationship : ℕ) → File → File
file_passed_to relationship file = record file { «end» = Some (To relationship) }

-- the first so many of them
abbrev pub passed_first : (count relationship : ℕ) → List File → List File
passed_first count relationship files = map (file_passed_to relationship) (take count files) ++ drop count files

abbrev pub with_all_passed : Bench → (relationship : ℕ) → Bench
with_all_passed bench relationship =
    record bench { files = passed_first (length bench.sources) relationship bench.files }
