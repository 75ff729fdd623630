-- Which of the files that are kept a session takes, how it is handed them, and how it may end.
use Rattle.std.specs.Prelude.{◌≡◌, ℕ, ◌<◌, nat_le, Bool, true, List, [], ◌∷◌, length, map, zip, filter_map, sum_by, Option, is_some, option_map, IfSome}
use Rattle.sha2.specs.Sha256.{sha256}
use Rattle.flowfile_record.specs.Stored.{Kept}
use Rattle.flowfile_record.specs.declared.TheConstants.{CONTENT_MAX}
use Rattle.flowfile_record.specs.declared.content.ContentRef.{ContentRef}
use Rattle.flowfile_record.specs.declared.flow_file.FlowFile.{FlowFile}
use Rattle.flowfile_record.specs.declared.limits.TheConstants.{NUMBER_LIMIT}
use Rattle.flowfile_record.specs.declared.worked.Outcome.{Outcome}
use Rattle.flowfile_record.specs.declared.stored.ActiveFile.{ActiveFile}
use Rattle.checkpoint_store.specs.Consistent.{IsConsistent}
use Rattle.kept_state.specs.Fits.{active_of, are_active_in, are_distinct_numbers}
use Rattle.machine_model.specs.declared.flow.Flow.{Flow}
use Rattle.machine_model.specs.declared.given.Given.{Given}
use Rattle.machine_model.specs.Placing.{uuid_text}
use Rattle.process_session.specs.declared.file.Source.{Source}
use Rattle.process_session.specs.declared.file.Taken.{Taken}
use Rattle.engine_session.specs.Working.{IsWorkAt, MayWork}

-- ---- the files

-- those of some live files that have these numbers, by place
abbrev pub live_among : List ActiveFile → List ℕ → List FlowFile
live_among live numbers = filter_map (λ number. option_map (λ active. active.file) (active_of number live)) numbers

abbrev pub live_files : Kept → List ℕ → List FlowFile
live_files k numbers = live_among k.files numbers

-- ---- their contents

-- together they are no larger than a content may be
abbrev pub files_fit_a_content : List FlowFile → Bool
files_fit_a_content files = nat_le (sum_by (λ file. file.content.size) files) CONTENT_MAX

-- a content where references stand for these bytes, and what was read of it: all of it, or nothing
pub record IsReadContent (bytes : ContentRef → List ℕ) (fits : Bool) (file : FlowFile) (read : Option (List ℕ)) : Type 0
  where
    pub size : file.content.size ≡ length (bytes file.content)
    pub digest : file.content.digest ≡ sha256 (bytes file.content)
    pub filled : is_some read ≡ fits
    pub is : IfSome read (λ read. read ≡ bytes file.content)

abbrev pub AreReadOf : (bytes : ContentRef → List ℕ) → (fits : Bool) → List FlowFile → List (Option (List ℕ)) → Type 0
AreReadOf bytes fits [] [] = Unit {0}
AreReadOf bytes fits (file ∷ files) (read ∷ contents) =
    IsReadContent bytes fits file read × AreReadOf bytes fits files contents
AreReadOf bytes fits _ _ = ⊥

-- there are bytes that the references of these files stand for, and what was read are these
abbrev pub HaveRead : (fits : Bool) → List FlowFile → List (Option (List ℕ)) → Type 0
HaveRead fits files contents = (bytes : ContentRef → List ℕ) × AreReadOf bytes fits files contents

-- A session takes these files: the live ones of these numbers, each once, all of one connection. Their contents were
-- read, unless together they are too large.
pub record AreTaken (k : Kept) (connection : ℕ) (numbers : List ℕ) (bytes : ContentRef → List ℕ)
    (files : List FlowFile) (contents : List (Option (List ℕ))) : Type 0 where
  pub active : are_active_in k.files connection numbers ≡ true
  pub distinct : are_distinct_numbers numbers ≡ true
  pub are : files ≡ live_files k numbers
  pub read : AreReadOf bytes (files_fit_a_content files) files contents

-- ---- how a session is handed them

abbrev pub taken_as : (store : ℕ) → FlowFile × Option (List ℕ) → Taken
taken_as store (file, read) = record {
  attributes = file.attributes;
  uuid = uuid_text store file.number;
  size = file.content.size;
  bytes = read;
}

abbrev pub taken_with_contents : (store : ℕ) → List FlowFile → List (Option (List ℕ)) → List Taken
taken_with_contents store files contents = map (taken_as store) (zip files contents)

-- ---- how it may end

-- The processor at this place was handed these files and did this work on them.
pub record MayEndSession (flow : Flow) (k : Kept) (given : Given) (place connection : ℕ) (files : List FlowFile)
    (done : Outcome × List Source) : Type 0 where
  pub consistent : IsConsistent k
  pub numbers : List ℕ
  pub bytes : ContentRef → List ℕ
  pub contents : List (Option (List ℕ))
  pub taken : AreTaken k connection numbers bytes files contents
  pub may : MayWork flow place (taken_with_contents k.store files contents) given
  pub work : IsWorkAt flow place (taken_with_contents k.store files contents) given done
  pub index : given.index < NUMBER_LIMIT
