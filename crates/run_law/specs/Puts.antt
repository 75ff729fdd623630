-- What a run puts into its outbox.
use Rattle.std.specs.Prelude.{◌≡◌, ℕ, List, [], ◌∷◌, ◌++◌, map, Option, Some, None, option_map, option_and_then, slice_get}
use Rattle.std.specs.Option.{option_map_or}
use Rattle.flowfile_record.specs.NamedFile.{NamedFile}
use Rattle.flowfile_record.specs.declared.worked.Outcome.{Outcome}
use Rattle.flowfile_record.specs.declared.worked.Sent.{Sent}
use Rattle.machine_model.specs.declared.flow.Flow.{Flow}
use Rattle.machine_model.specs.declared.flow.Processor.{Processor}
use Rattle.machine_model.specs.declared.given.Given.{Given}
use Rattle.machine_model.specs.declared.journal.Step.{Step}
use Rattle.machine_model.specs.declared.journal.Step.TheVariants.{Session}
use Rattle.machine_model.specs.Acting.{act}
use Rattle.machine_model.specs.Kinds.{take_rule_of}
use Rattle.machine_model.specs.Placing.{EndedSession, settled_files}
use Rattle.machine_model.specs.State.{Machine}
use Rattle.machine_model.specs.Stepping.{as_taken, given_at, given_in, session_of, step, taken_files}

-- ---- what steps put

-- the file that a session sends, if it sends one: under its name, with the bytes of the file at its place
abbrev pub files_sent : EndedSession → Outcome → Option Sent → List NamedFile
files_sent session outcome None = []
files_sent session outcome (Some sent) =
    record {
      name = sent.name;
      bytes = option_map_or (λ file. file.bytes) (slice_get (settled_files session outcome.files) sent.place) [];
    }
    ∷ []

-- the session that a processor has by its step
abbrev pub session_of_step : Flow → Machine → (place : ℕ) → List ℕ → ℕ → Given → Processor → Option EndedSession
session_of_step flow machine place numbers moment given processor =
    option_and_then (λ taken.
    option_map (session_of flow machine place processor taken)
    (option_and_then (given_in processor.kind place machine.state machine.world taken) (given_at moment given)))
    (taken_files flow machine.state place (take_rule_of processor.kind) numbers moment)

-- what the processor of a session makes of what it is handed
abbrev pub session_outcome : Machine → EndedSession → Option Outcome
session_outcome machine session =
    act session.processor.kind (map (as_taken machine.state) session.taken) session.given

-- what it makes by a step; no other step than a session has a processor
abbrev pub outcome_of_step : Flow → Machine → Step → Option Outcome
outcome_of_step flow machine (Session place numbers moment given) =
    option_and_then (session_outcome machine)
    (option_and_then (session_of_step flow machine place numbers moment given) (slice_get flow.processors place))
outcome_of_step flow machine _ = None

-- a session puts what its processor's outcome sends
abbrev pub session_puts : Machine → EndedSession → List NamedFile
session_puts machine session =
    option_map_or (λ outcome. files_sent session outcome outcome.sent) (session_outcome machine session) []

-- what a step puts: no other step than a session puts anything
abbrev pub puts_of_step : Flow → Machine → Step → List NamedFile
puts_of_step flow machine (Session place numbers moment given) =
    option_map_or (session_puts machine)
    (option_and_then (session_of_step flow machine place numbers moment given) (slice_get flow.processors place)) []
puts_of_step flow machine _ = []

-- what steps put, one after the other
abbrev pub puts_of : Flow → Machine → List Step → List NamedFile
puts_of flow machine [] = []
puts_of flow machine (one ∷ later) =
    puts_of_step flow machine one ++ option_map_or (λ after. puts_of flow after later) (step flow machine one) []

-- ---- an outbox

-- what stands in it under each name, and the files that were put, in order
pub record Outgoing : Type 0 where
  pub standing : List ℕ → Option (List ℕ)
  pub puts : List NamedFile

-- the same of an outbox that tells so
abbrev pub outgoing : {O : Type 0} → (O → List ℕ → Option (List ℕ)) → (O → List NamedFile) → O → Outgoing
outgoing standing puts outbox = record { standing = standing outbox; puts = puts outbox }

-- where a run starts: the clock's time, and what was put before
pub record Start : Type 0 where
  pub time : ℕ
  pub puts : List NamedFile

-- It has what the machine has behind the step, and one more put, if the step puts.
pub record IsPutBy (flow : Flow) (before : Machine) (one : Step) (after : Machine) (out now : Outgoing) : Type 0 where
  pub standing : now.standing ≡ after.world.outbox
  pub puts : now.puts ≡ out.puts ++ puts_of_step flow before one
