-- Tried: a file goes from the inbox through one queue to the outbox.
use Rattle.std.specs.Prelude.{◌≡◌, ℕ, List, [], ◌∷◌, Some, None, codes}
use Rattle.flowfile_record.specs.declared.event.Event.{Event}
use Rattle.flowfile_record.specs.declared.event.EventKind.TheVariants as kind
use Rattle.flowfile_record.specs.NamedFile.{with_file}
use Rattle.machine_model.specs.declared.flow.Flow.{Flow}
use Rattle.machine_model.specs.declared.journal.Entry.{Entry}
use Rattle.machine_model.specs.declared.journal.Step.{Step}
use Rattle.machine_model.specs.declared.kind.Conflict.TheVariants.{Replace}
use Rattle.machine_model.specs.State.{State, World}
use Rattle.machine_model.specs.Acknowledged.{steps}
use Rattle.machine_model.specs.Acting.{received_attributes}
use Rattle.machine_model.specs.Stepping.{step, replay}
use Rattle.machine_examples.specs.Small.{get_to_put, a_txt, wide, told, waiting, state_of, at_moment, session, machine, no_file, inbox_of}

abbrev pub flow : Flow
flow = get_to_put Replace wide

-- the GetFile's session at 1000, then the PutFile's at 2000
abbrev pub getting : Step
getting = session 0 [] 1000 (record (at_moment 1000) { file = Some a_txt })

abbrev pub putting : Step
putting = session 1 (1 ∷ []) 2000 (at_moment 2000)

abbrev pub journal : List Entry
journal = record { step = getting; acked = Some 5 } ∷ record { step = putting; acked = None } ∷ []

abbrev pub before : State
before = state_of ([] ∷ []) 1 1 (0 ∷ 0 ∷ [])

abbrev pub world_before : List ℕ → World
world_before bytes = inbox_of a_txt bytes

abbrev pub receive : List ℕ → Event
receive bytes = told 1 1000 kind.Receive (codes "get") 1 a_txt bytes

abbrev pub send_and_drop : List ℕ → List Event
send_and_drop bytes =
    told 2 2000 kind.Send (codes "put") 1 a_txt bytes
    ∷ told 3 2000 kind.Drop (codes "put") 1 (codes "success") bytes ∷ []

-- the file is queued, and no longer left in the inbox
abbrev pub between : List ℕ → State
between bytes =
    record (state_of ((waiting 1 1 (received_attributes a_txt) bytes ∷ []) ∷ []) 2 2
    (0 ∷ 0 ∷ [])) { events = receive bytes ∷ []; last_event = 1 }

abbrev pub world_between : List ℕ → World
world_between bytes = record (world_before bytes) { left = [] }

-- the queue is empty, and the outbox has the file
abbrev pub after : List ℕ → State
after bytes =
    record (state_of ([] ∷ []) 2 2 (0 ∷ 0 ∷ [])) { events = receive bytes ∷ send_and_drop bytes; last_event = 3 }

abbrev pub world_after : List ℕ → World
world_after bytes = record (world_between bytes) { outbox = with_file no_file a_txt bytes }

abbrev pub IsReceived : List ℕ → Type 0
IsReceived bytes =
    step flow (machine before (world_before bytes)) getting ≡ Some (machine (between bytes) (world_between bytes))

abbrev pub IsSent : List ℕ → Type 0
IsSent bytes =
    step flow (machine (between bytes) (world_between bytes)) putting
    ≡ Some (machine (after bytes) (world_after bytes))

abbrev pub IsDelivered : List ℕ → Type 0
IsDelivered bytes =
    replay flow (machine before (world_before bytes)) (steps journal)
    ≡ Some (machine (after bytes) (world_after bytes))
