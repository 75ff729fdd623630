-- That the files which the calls inside end are those of the machine.
use Rattle.std.proofs.Common.{◌≡◌, ℕ, List, [], ◌∷◌, map, length, get_or, refl}
use Rattle.std.specs.Prelude.{All, zip}
use Rattle.std.proofs.lemmas.List.Elements.{All-head, All-tail}
use Rattle.sha2.specs.Sha256.{sha256}
use Rattle.flowfile_record.specs.Outcome.{content_of}
use Rattle.flowfile_record.specs.declared.content.ContentRef.{ContentRef}
use Rattle.flowfile_record.specs.declared.flow_file.FlowFile.{FlowFile}
use Rattle.flowfile_record.specs.declared.worked.Worked.{Worked}
use Rattle.machine_model.specs.declared.flow.Flow.{Flow}
use Rattle.machine_model.specs.declared.flow.Processor.{Processor}
use Rattle.machine_model.specs.declared.given.Given.{Given}
use Rattle.machine_model.specs.Changing.{queued_file}
use Rattle.machine_model.specs.Placing.{EndedSession, SettledFile, settled_file, settled_files, numbers_from, entered_in}
use Rattle.machine_model.specs.State.{QueuedFile, State}
use Rattle.settlement.specs.Contents.{body_content, IsBodyWithin}
use Rattle.settlement.specs.Ending.{EndingPlace, ended_file, ended_files, goes_to}
use Rattle.settlement.specs.Handed.{AreReadSources, ended_session}
use Rattle.settlement.specs.Whole.{ending_place}
use Rattle.settlement.specs.declared.counters.Counters.{Counters}
use Rattle.settlement.specs.declared.file.EndedFile.{EndedFile}
use Rattle.settlement.specs.declared.handed.Ended.{Ended}
use Rattle.settlement.proofs.Bytes.{IsStamp, content-stamp, contents_of}
use Rattle.settlement.proofs.Listing.{map-map}

-- the counters of a state
abbrev pub counters_of : State → Counters
counters_of state = record {
  store = state.store;
  next_number = state.next_number;
  next_arrival = state.next_arrival;
  last_event = state.last_event;
}

-- a session that has ended: what was handed in, the state and the bytes that it stands for, and where the contents of
-- its files stand
pub record Case : Type 0 where
  pub flow : Flow
  pub given : Given
  pub ended : Ended
  pub processor : Processor
  pub bytes : ContentRef → List ℕ
  pub state : State
  pub content : SettledFile → ContentRef

-- they stand where the calls inside say
abbrev pub by_body : Case → Case
by_body c = record c { content = λ file. body_content c.ended.taken c.ended.sources file.worked.body }

-- .. with the size and the digest of their bytes
abbrev pub by_bytes : Case → Case
by_bytes c = record c {
  content = λ file. record (body_content c.ended.taken c.ended.sources file.worked.body) { size = length file.bytes; digest = sha256 file.bytes };
}

-- a machine's file as the calls inside have it
abbrev pub ended_of : Case → SettledFile → EndedFile
ended_of c file = record {
  number = file.number;
  worked = record file.worked { attributes = file.attributes };
  content = c.content file;
  entered = file.entered;
  penalty_end = file.penalty_end;
  goes = goes_to file.goes;
}

abbrev pub place : Case → EndingPlace
place c = ending_place c.flow c.given (counters_of c.state) c.ended c.processor

abbrev pub session : Case → EndedSession
session c = ended_session c.flow c.given c.ended c.processor c.bytes c.state

pub taken_contents : (bytes : ContentRef → List ℕ) (taken : List FlowFile) → map (λ (file : QueuedFile). file.bytes) (map (queued_file bytes) taken) ≡ contents_of bytes taken
taken_contents bytes taken = map-map (λ (file : QueuedFile). file.bytes) (queued_file bytes) taken

pub taken_numbers : (bytes : ContentRef → List ℕ) (taken : List FlowFile) → map (λ (file : QueuedFile). file.number) (map (queued_file bytes) taken) ≡ map (λ (file : FlowFile). file.number) taken
taken_numbers bytes taken = map-map (λ (file : QueuedFile). file.number) (queued_file bytes) taken

pub taken_moments : (bytes : ContentRef → List ℕ) (taken : List FlowFile) → map (λ (file : QueuedFile). file.entered) (map (queued_file bytes) taken) ≡ map (λ (file : FlowFile). file.entered) taken
taken_moments bytes taken = map-map (λ (file : QueuedFile). file.entered) (queued_file bytes) taken

-- ---- the files of the machine's session, as the calls inside have them

-- the content of a file stands where the case says
abbrev IsAsSaid : Case → Worked → Type 0
IsAsSaid c worked = (number entered : ℕ) → body_content c.ended.taken c.ended.sources worked.body ≡ c.content (settled_file (session c) (number, entered, worked))

each_same : (c : Case) (numbers entered : List ℕ) (files : List Worked) → All (IsAsSaid c) files
    → map (λ f. ended_file (place c) (f.0, f.1.0, f.1.1)) (zip numbers (zip entered files))
    ≡ map (ended_of c) (map (λ f. settled_file (session c) (f.0, f.1.0, f.1.1)) (zip numbers (zip entered files)))
each_same c [] entered files said = refl
each_same c (number ∷ numbers) [] files said = refl
each_same c (number ∷ numbers) (moment ∷ entered) [] said = refl
each_same c (number ∷ numbers) (moment ∷ entered) (file ∷ files) said =
    let content = All-head (IsAsSaid c) file files said number moment in
    let rest = each_same c numbers entered files (All-tail (IsAsSaid c) file files said) in
    λ i. record (ended_file (place c) (number, moment, file)) { content = content i } ∷ rest i

all_same : (c : Case) (files : List Worked) → All (IsAsSaid c) files → ended_files (place c) c.state.next_number files ≡ map (ended_of c) (settled_files (session c) files)
all_same c files said =
    rw (taken_numbers c.bytes c.ended.taken, taken_moments c.bytes c.ended.taken)
    (each_same c (numbers_from c.state.next_number (map (λ (file : FlowFile). file.number) c.ended.taken) files)
    (entered_in c.given.moment (map (λ (file : FlowFile). file.entered) c.ended.taken) files) files said)

pub ended-by-body : (c : Case) (files : List Worked) → ended_files (place c) c.state.next_number files ≡ map (ended_of (by_body c)) (settled_files (session c) files)
ended-by-body c files = all_same (by_body c) files (λ i d lt number entered. refl)

stamped : (at : ContentRef) (content : List ℕ) → IsStamp at content → at ≡ record at { size = length content; digest = sha256 content }
stamped at content stamp = λ i. record at { size = stamp.size i; digest = stamp.digest i }

one_read : (c : Case) (worked : Worked) → AreReadSources c.bytes c.ended.taken c.ended.sources → IsBodyWithin c.ended.sources worked.body → IsAsSaid (by_bytes c) worked
one_read c worked read within number entered =
    rw (taken_contents c.bytes c.ended.taken) (stamped (body_content c.ended.taken c.ended.sources worked.body) (content_of (contents_of c.bytes c.ended.taken) worked.body)
    (content-stamp c.bytes c.ended.taken c.ended.sources worked.body read within))

pub ended-by-bytes : (c : Case) (files : List Worked) → AreReadSources c.bytes c.ended.taken c.ended.sources → All (λ file. IsBodyWithin c.ended.sources file.body) files
    → ended_files (place c) c.state.next_number files ≡ map (ended_of (by_bytes c)) (settled_files (session c) files)
ended-by-bytes c files read within = all_same (by_bytes c) files (λ i d lt. one_read c (get_or files i d) read (within i d lt))
