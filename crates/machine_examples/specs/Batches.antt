-- Tried: batches of two files, two batches, and how a queue with files in flight is seen.
use Rattle.std.specs.Prelude.{◌≡◌, ◌+◌, ℕ, Bool, true, List, [], ◌∷◌, map, Option, Some, None}
use Rattle.prioritizer.specs.declared.prioritizer.Prioritizer.{Prioritizer}
use Rattle.machine_model.specs.declared.flow.QueueLimits.{QueueLimits}
use Rattle.machine_model.specs.declared.journal.Step.{Step}
use Rattle.machine_model.specs.declared.kind.Conflict.TheVariants.{Replace}
use Rattle.machine_model.specs.Due.{expired_numbers, last_batch, lowest_batch}
use Rattle.machine_model.specs.Files.{queue_view, view_of}
use Rattle.machine_model.specs.Order.{eligible_files}
use Rattle.machine_model.specs.Quiet.{is_full}
use Rattle.machine_model.specs.State.{QueuedFile, State}
use Rattle.machine_model.specs.Stepping.{step}
use Rattle.machine_model.specs.View.{FileView, BatchView, QueueView}
use Rattle.machine_examples.specs.Small.{get_to_put, a_file, machine, state_of, nothing}
use Rattle.machine_examples.specs.Elsewhere.{in_batch, limits}

-- ---- past 4 active files, in batches of two

abbrev pub four : QueueLimits
four = record { expiration = 0; objects = 0; bytes = 0; swap = 4 }

-- the data of each entered behind that of the one before
abbrev pub nth : ℕ → QueuedFile
nth number = record (a_file number number) { entered = 1000 + number }

abbrev pub six : List QueuedFile
six = nth 1 ∷ nth 2 ∷ nth 3 ∷ nth 4 ∷ nth 5 ∷ nth 6 ∷ []

abbrev pub LastOf : List Prioritizer → List QueuedFile → Option (List ℕ) → Type 0
LastOf order files answer = last_batch order four (map view_of files) ≡ answer

-- half of three is one, rounded down
abbrev pub OddGoes : Type 0
OddGoes = last_batch [] (record four { swap = 3 }) (map view_of (nth 1 ∷ nth 2 ∷ nth 3 ∷ nth 4 ∷ [])) ≡ Some (4 ∷ [])

abbrev pub queued : List QueuedFile → (next_batch : ℕ) → State
queued files next_batch = record (state_of (files ∷ []) 9 9 (0 ∷ 0 ∷ [])) { next_batch = next_batch }

abbrev pub StepGives : State → Step → Option State → Type 0
StepGives before entry None = step (get_to_put Replace four) (machine before nothing) entry ≡ None
StepGives before entry (Some after) =
    step (get_to_put Replace four) (machine before nothing) entry ≡ Some (machine after nothing)

abbrev pub two_gone : List QueuedFile
two_gone = nth 1 ∷ nth 2 ∷ nth 3 ∷ nth 4 ∷ in_batch 7 (nth 5) ∷ in_batch 7 (nth 6) ∷ []

-- batches 2 and 3, whose files stand among each other
abbrev pub two_batches : List QueuedFile
two_batches =
    nth 1 ∷ in_batch 3 (nth 2) ∷ in_batch 2 (nth 3) ∷ in_batch 3 (nth 4) ∷ in_batch 2 (nth 5)
    ∷ in_batch 3 (nth 6) ∷ []

abbrev pub lower_back : List QueuedFile
lower_back = nth 1 ∷ in_batch 3 (nth 2) ∷ nth 3 ∷ in_batch 3 (nth 4) ∷ nth 5 ∷ in_batch 3 (nth 6) ∷ []

abbrev pub BatchesAre : List QueuedFile → List BatchView → Type 0
BatchesAre files answer = (queue_view files).batches ≡ answer

abbrev pub batch : (number files size : ℕ) → BatchView
batch number files size = record { number = number; files = files; size = size }

abbrev pub FullWith : (objects bytes : ℕ) → List QueuedFile → Bool → Type 0
FullWith objects bytes files answer =
    is_full (record four { objects = objects; bytes = bytes }) (queue_view files) ≡ answer

-- ---- with files in flight: they expire after 500 milliseconds, and are swapped past 2

abbrev pub flying : QueuedFile → FileView
flying file = record (view_of file) { in_flight = true }

abbrev pub waiting_penalised : (number : ℕ) → FileView
waiting_penalised number = record (view_of (a_file number number)) { penalty_end = 9000 }

abbrev pub still : (number : ℕ) → FileView
still number = view_of (a_file number number)

abbrev pub EligibleOf : List FileView → List FileView → Type 0
EligibleOf files answer = eligible_files [] limits 1000 files ≡ answer

abbrev pub ExpiredOf : List FileView → List ℕ → Type 0
ExpiredOf files answer = expired_numbers limits 2000 files ≡ answer

abbrev pub GoesOf : List FileView → Option (List ℕ) → Type 0
GoesOf files answer = last_batch [] limits files ≡ answer

abbrev pub queue : List FileView → QueueView
queue files = record { active = files; batches = batch 8 1 2 ∷ batch 5 1 2 ∷ [] }

abbrev pub ComesOf : List FileView → Option ℕ → Type 0
ComesOf files answer = lowest_batch limits (queue files) ≡ answer

abbrev pub FullOf : (objects : ℕ) → List FileView → Bool → Type 0
FullOf objects files answer = is_full (record limits { objects = objects }) (queue files) ≡ answer
