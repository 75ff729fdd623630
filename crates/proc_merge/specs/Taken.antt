-- The files that a session took, as a processor that joins them sees them.
use Rattle.std.specs.Prelude.{◌≡◌, ℕ, ◌≤◌, ◌++◌, List, [], ◌∷◌, length, map, Option, Some, option_and_then}
use Rattle.std.specs.Option.{option_map}
use Rattle.flowfile_record.specs.declared.attributes.TheConstants.{ATTRIBUTES_MAX}
use Rattle.flowfile_record.specs.declared.limits.TheConstants.{TAKEN_MAX}
use Rattle.machine_model.specs.Making.{TakenFile}
use Rattle.process_session.specs.Bench.{Bench, bench_of, file_size}
use Rattle.process_session.specs.declared.file.File.{File}
use Rattle.process_session.specs.declared.file.Source.{Source}
use Rattle.process_session.specs.declared.file.Taken.{Taken}
use Rattle.processor_api.specs.Acts.{AreRead}

-- it took some files and did nothing yet
pub record TookSome (bench : Bench) : Type 0 where
  pub taken : List Taken
  pub some : 1 ≤ length taken
  pub few : length taken ≤ TAKEN_MAX
  pub begun : bench ≡ bench_of bench.relationships taken
  pub read : AreRead taken

-- a file by its attributes
abbrev pub file_seen : File → TakenFile
file_seen file = record { attributes = file.attributes; uuid = []; bytes = [] }

abbrev pub files_seen : Bench → List TakenFile
files_seen bench = map file_seen bench.files

abbrev pub IsSmall : File → Type 0
IsSmall file = file_size file ≤ ATTRIBUTES_MAX

-- the contents of all of them, one behind another, where the session was given them
abbrev pub bytes_read : List Source → Option (List ℕ)
bytes_read [] = Some []
bytes_read (source ∷ sources) =
    option_and_then (λ bytes. option_map (λ more. bytes ++ more) (bytes_read sources)) source.bytes
