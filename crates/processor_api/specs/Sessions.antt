-- A session that took one file: as it begins, as it stands under way, and as it ends.
use Rattle.std.specs.Prelude.{◌≡◌, List, [], ◌∷◌, None}
use Rattle.flowfile_record.specs.declared.worked.Origin.TheVariants.{Taken as FromQueue}
use Rattle.flowfile_record.specs.declared.worked.Outcome.{Outcome}
use Rattle.process_session.specs.Bench.{Bench, bench_of, taken_file}
use Rattle.process_session.specs.Finish.{outcome_of}
use Rattle.process_session.specs.Refusals.{refusal_of_finish}
use Rattle.process_session.specs.declared.file.File.{File}
use Rattle.process_session.specs.declared.file.Taken.{Taken}
use Rattle.processor_api.specs.Acts.{KeepsTaken}

-- ---- as it begins

-- it took one file and did nothing yet, whatever relationships it has
pub record BeganWithOne (bench : Bench) : Type 0 where
  pub taken : Taken
  pub begun : bench ≡ bench_of bench.relationships (taken ∷ [])

-- the same, with two relationships
pub record TookOne (bench : Bench) : Type 0 where
  pub taken : Taken
  pub begun : bench ≡ bench_of 2 (taken ∷ [])

-- ---- under way

-- its first file is as it was taken
pub record HasFirstTaken (bench : Bench) : Type 0 where
  pub taken : Taken
  pub more : List File
  pub files : bench.files ≡ taken_file 0 taken ∷ more

-- it has two relationships and a taken file that hasn't ended, and no other
pub record HasOneOpen (bench : Bench) : Type 0 where
  pub file : File
  pub relationships : bench.relationships ≡ 2
  pub only : bench.files ≡ file ∷ []
  pub taken : file.origin ≡ FromQueue 0
  pub opened : file.«end» ≡ None
  pub unsent : bench.sent ≡ None

-- ---- as it ends

-- it can be finished with what it took, and has this outcome
pub record EndsWith (before after : Bench) (wanted : Outcome) : Type 0 where
  pub finished : refusal_of_finish after ≡ None
  pub kept : KeepsTaken before after
  pub outcome : outcome_of after ≡ wanted
