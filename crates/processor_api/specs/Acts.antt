-- What a processor is handed, and what it owes: the outcome that the machine gives.
use Rattle.std.specs.Prelude.{◌≡◌, ◌⊎◌, ◌≤◌, nat_le, Bool, List, [], ◌∷◌, length, sum_by, All, None, Some, is_some, IsSome, IsSomeAnd, IfSome}
use Rattle.flowfile_record.specs.declared.TheConstants.{CONTENT_MAX}
use Rattle.flowfile_record.specs.declared.worked.Outcome.{Outcome}
use Rattle.machine_model.specs.Acting.{act}
use Rattle.machine_model.specs.Making.{TakenFile}
use Rattle.machine_model.specs.Kinds.{take_rule_of, relationships_of}
use Rattle.machine_model.specs.Laws.{MayTake}
use Rattle.machine_model.specs.Sound.{IsSoundKind}
use Rattle.machine_model.specs.declared.given.Given.{Given}
use Rattle.machine_model.specs.declared.kind.Kind.{Kind}
use Rattle.machine_model.specs.declared.kind.Kind.TheVariants.{GetFile}
use Rattle.process_session.specs.Bench.{Bench, bench_of, IsWhole}
use Rattle.process_session.specs.Finish.{outcome_of}
use Rattle.process_session.specs.Refusals.{refusal_of_finish}
use Rattle.process_session.specs.declared.file.Taken.{Taken}

-- ---- what a processor is handed

-- all of them have contents no longer than one may have
abbrev pub fit_a_content : List Taken → Bool
fit_a_content taken = nat_le (sum_by (λ file. file.size) taken) CONTENT_MAX

-- No content is longer than one may be. They were read, each whole, or none was, where together they are too long.
pub record AreRead (taken : List Taken) : Type 0 where
  pub small : All (λ file. file.size ≤ CONTENT_MAX) taken
  pub whole : All IsWhole taken
  pub filled : All (λ file. is_some file.bytes ≡ fit_a_content taken) taken

-- a GetFile is given the name and the bytes of a file of the inbox
abbrev pub IsGivenTo : Kind → Given → Type 0
IsGivenTo (GetFile filter) given = IsSome given.file × IsSomeAnd given.bytes (λ bytes. length bytes ≤ CONTENT_MAX)
IsGivenTo _ given = Unit {0}

-- What a processor of this kind may be handed: as many files as its rule takes, and what it is given.
pub record MayBeHandedTo (kind : Kind) (taken : List Taken) (given : Given) : Type 0 where
  pub sound : IsSoundKind kind
  pub count : MayTake (take_rule_of kind) (length taken)
  pub read : AreRead taken
  pub is_given : IsGivenTo kind given

-- A session as it begins, for a processor of this kind, with as many relationships as it names.
pub record Begins (kind : Kind) (bench : Bench) (given : Given) : Type 0 where
  pub taken : List Taken
  pub begun : bench ≡ bench_of (length (relationships_of kind)) taken
  pub handed : MayBeHandedTo kind taken given

-- ---- what it owes

-- A file of the machine as a session took it. Its content is of that size, and where the session was given bytes it is
-- these.
pub record IsTakenAs (file : TakenFile) (taken : Taken) : Type 0 where
  pub attributes : file.attributes ≡ taken.attributes
  pub uuid : file.uuid ≡ taken.uuid
  pub size : length file.bytes ≡ taken.size
  pub bytes : IfSome taken.bytes (λ bytes. bytes ≡ file.bytes)

abbrev pub AreTakenAs : List TakenFile → List Taken → Type 0
AreTakenAs [] [] = Unit {0}
AreTakenAs (file ∷ files) (one ∷ taken) = IsTakenAs file one × AreTakenAs files taken
AreTakenAs _ _ = ⊥

-- a session that began with these files
abbrev pub BeganWith : Bench → List TakenFile → Type 0
BeganWith bench files = (taken : List Taken) × (bench ≡ bench_of bench.relationships taken) × AreTakenAs files taken

-- The relationships and what stays of the taken files are as they were.
pub record KeepsTaken (before after : Bench) : Type 0 where
  pub relationships : after.relationships ≡ before.relationships
  pub sources : after.sources ≡ before.sources

-- What it is given is as it was, but for the bytes, which it may take out.
pub record KeepsGiven (before after : Given) : Type 0 where
  pub but_bytes : after ≡ record before { bytes = after.bytes }
  pub taken_out : (after.bytes ≡ before.bytes) ⊎ (after.bytes ≡ None)

-- The session can be finished with what it took, and its outcome is the one that the machine gives.
pub record EndsAs (kind : Kind) (before : Bench) (given : Given) (after : Bench) : Type 0 where
  pub finished : refusal_of_finish after ≡ None
  pub kept : KeepsTaken before after
  pub outcome : (files : List TakenFile) → BeganWith before files → act kind files given ≡ Some (outcome_of after)

-- The outcome is the one that the machine gives of these files.
abbrev pub IsOutcomeOf : Kind → List Taken → Given → Outcome → Type 0
IsOutcomeOf kind taken given outcome =
    (files : List TakenFile) → AreTakenAs files taken → act kind files given ≡ Some outcome
