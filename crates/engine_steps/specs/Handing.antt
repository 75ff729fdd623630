-- What a session in flight is handed.
use Rattle.std.specs.Prelude.{◌≡◌, ⊤, ℕ, ◌≤◌, ◌&&◌, Bool, IsTrue, true, false, List, Option, None, length, map, slice_get}
use Rattle.std.specs.Option.{IsSomeAnd, option_map_or}
use Rattle.flowfile_record.specs.NamedFile.{NamedFile, bytes_of}
use Rattle.flowfile_record.specs.Stored.{Kept}
use Rattle.flowfile_record.specs.declared.TheConstants.{CONTENT_MAX}
use Rattle.flowfile_record.specs.declared.content.ContentRef.{ContentRef}
use Rattle.kept_state.specs.Fits.{are_active_in, are_distinct_numbers}
use Rattle.machine_model.specs.declared.flow.Flow.{Flow}
use Rattle.machine_model.specs.declared.kind.Kind.{Kind}
use Rattle.machine_model.specs.declared.kind.Kind.TheVariants.{PutFile}
use Rattle.machine_model.specs.Changing.{queued_file}
use Rattle.machine_model.specs.State.{QueuedFile, World}
use Rattle.machine_model.specs.Stepping.{is_there}
use Rattle.engine_choice.specs.Laws.{given_for, numbers_in}
use Rattle.engine_choice.specs.declared.choice.Choice.{Choice}
use Rattle.engine_choice.specs.declared.choice.Taking.{Taking}
use Rattle.engine_choice.specs.declared.choice.Taking.TheVariants.{Files, Receive}
use Rattle.engine_session.specs.Handing.{AreTaken}
use Rattle.engine_session.specs.declared.job.Job.{Job}
use Rattle.engine_steps.specs.declared.flight.InFlight.{InFlight}

-- ---- what is taken

-- the files that it takes are live ones of their connection, each once
abbrev pub MayBeTaken : Kept → Taking → Type 0
MayBeTaken k (Files connection numbers) =
    (are_active_in k.files connection numbers ≡ true) × (are_distinct_numbers numbers ≡ true)
MayBeTaken k _ = ⊤

-- the file that it receives is left, and no longer than a content may be
abbrev pub MayBeReceived : List NamedFile → Taking → Type 0
MayBeReceived left (Receive name) = IsSomeAnd (bytes_of left name) (λ bytes. length bytes ≤ CONTENT_MAX)
MayBeReceived left _ = ⊤

-- ---- what the outbox is asked

-- a PutFile alone is told whether the outbox has the file's name
abbrev pub asks_outbox : Kind → Bool
asks_outbox (PutFile conflict) = true
asks_outbox _ = false

-- .. of the processor at a place
abbrev pub asks_at : Flow → (place : ℕ) → Bool
asks_at flow place = option_map_or (λ processor. asks_outbox processor.kind) (slice_get flow.processors place) false

-- what a session of the processor at a place is told: no, where it doesn't ask
abbrev pub there_for : Flow → (place : ℕ) → World → List QueuedFile → Bool
there_for flow place world files = asks_at flow place && is_there world files

-- ---- what is handed

-- bytes for a file that is received alone
abbrev pub HasBytes : Taking → Option (List ℕ) → Type 0
HasBytes (Receive name) bytes = IsSomeAnd bytes (λ bytes. length bytes ≤ CONTENT_MAX)
HasBytes _ bytes = bytes ≡ None

-- the bytes of the file that is left
abbrev pub HasBytesOf : List NamedFile → Taking → Option (List ℕ) → Type 0
HasBytesOf left (Receive name) bytes = bytes_of left name ≡ bytes
HasBytesOf left _ bytes = ⊤

-- the connection that files are taken from, or the first one where none are
abbrev pub connection_in : Taking → ℕ
connection_in (Files connection numbers) = connection
connection_in _ = 0

-- The job is that of the session, and its files are those of its numbers, read.
pub record JobIsHanded (k : Kept) (flight : InFlight) (job : Job) : Type 0 where
  pub session : job.session ≡ flight.session
  pub processor : job.processor ≡ flight.choice.processor
  pub connection : job.connection ≡ connection_in flight.choice.taking
  pub numbers : job.numbers ≡ numbers_in flight.choice.taking
  pub given : record job.given { bytes = None } ≡ given_for flight.moment job.given.there flight.choice.taking
  pub has : HasBytes flight.choice.taking job.given.bytes
  pub bytes : ContentRef → List ℕ
  pub taken : AreTaken k job.connection job.numbers bytes job.files job.contents

-- Of disk, inbox and outbox, as far as each tells: what was read are the bytes that references stand for, and those of
-- the inbox's file; and what is said of the outbox is so. Where the processor doesn't ask, that is no, whatever it tells.
pub record IsHandedAs (tells in_tells out_tells : Bool) (flow : Flow) (k : Kept) (contents : ContentRef → List ℕ)
    (left : List NamedFile) (standing : List ℕ → Option (List ℕ)) (choice : Choice) (job : Job) : Type 0 where
  pub read : IsTrue tells → AreTaken k job.connection job.numbers contents job.files job.contents
  pub received : IsTrue in_tells → HasBytesOf left choice.taking job.given.bytes
  pub there : IsTrue out_tells → (world : World) → world.outbox ≡ standing
      → job.given.there ≡ there_for flow choice.processor world (map (queued_file contents) job.files)
  pub unasked : asks_at flow choice.processor ≡ false → job.given.there ≡ false
