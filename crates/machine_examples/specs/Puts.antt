-- Tried: what a PutFile makes of a file.
use Rattle.std.specs.Prelude.{◌≡◌, ℕ, Bool, true, false, List, [], ◌∷◌, Some, codes, length}
use Rattle.std.specs.FinMap.{empty}
use Rattle.flowfile_record.specs.Attributes.{AttributeMap}
use Rattle.flowfile_record.specs.declared.event.Event.{Event}
use Rattle.flowfile_record.specs.declared.event.EventKind.TheVariants as kind
use Rattle.flowfile_record.specs.declared.worked.Outcome.{Outcome}
use Rattle.flowfile_record.specs.NamedFile.{with_file}
use Rattle.machine_model.specs.declared.kind.Conflict.{Conflict}
use Rattle.machine_model.specs.declared.kind.Conflict.TheVariants.{Replace, Ignore, Fail}
use Rattle.machine_model.specs.declared.kind.Kind.TheVariants.{PutFile}
use Rattle.machine_model.specs.State.{State, World}
use Rattle.machine_model.specs.Acting.{act, received_attributes}
use Rattle.machine_model.specs.Making.{alone, passed_on}
use Rattle.machine_model.specs.Stepping.{step}
use Rattle.machine_examples.specs.Small.{hi, wide, get_to_put, a_txt, a_file, state_of, at_moment, session, told, machine, no_file, with_a}

-- to success, and its bytes to the outbox; to success alone; penalised to failure
abbrev pub sent : AttributeMap → Outcome
sent attributes =
    record { files = passed_on 0 attributes false 0 ∷ []; sent = Some (record { place = 0; name = a_txt }) }

abbrev pub passed : AttributeMap → Outcome
passed attributes = alone (passed_on 0 attributes false 0)

abbrev pub failed : AttributeMap → Outcome
failed attributes = alone (passed_on 0 attributes true 1)

-- what a PutFile makes of a file, whatever its uuid and its bytes are
abbrev pub PutGives : Conflict → (there : Bool) → AttributeMap → Outcome → Type 0
PutGives conflict there attributes outcome =
    (uuid bytes : List ℕ) → act (PutFile conflict)
    (record { attributes = attributes; uuid = uuid; bytes = bytes } ∷ [])
    (record (at_moment 1000) { there = there }) ≡ Some outcome

abbrev pub PutsNamed : Conflict → (there : Bool) → (AttributeMap → Outcome) → Type 0
PutsNamed conflict there outcome =
    PutGives conflict there (received_attributes a_txt) (outcome (received_attributes a_txt))

-- whatever the strategy and the outbox are
abbrev pub FailsToPut : AttributeMap → Type 0
FailsToPut attributes = (conflict : Conflict) (there : Bool) → PutGives conflict there attributes (failed attributes)

abbrev pub NamelessFails : Type 0
NamelessFails = FailsToPut empty

abbrev pub BadNameFails : List ℕ → Type 0
BadNameFails name = FailsToPut (received_attributes name)

-- ---- the whole session, where the outbox has the name

abbrev pub put_event : (number : ℕ) → Event
put_event number = told number 2000 kind.Send (codes "put") 1 a_txt hi

abbrev pub drop_event : (number : ℕ) → List ℕ → Event
drop_event number relationship = told number 2000 kind.Drop (codes "put") 1 relationship hi

abbrev pub emptied : List Event → State
emptied events = record (state_of ([] ∷ []) 2 2 (0 ∷ 0 ∷ [])) { events = events; last_event = length events }

abbrev pub PutsOver : Conflict → List Event → World → Type 0
PutsOver conflict events world =
    step (get_to_put conflict wide) (machine (state_of ((a_file 1 1 ∷ []) ∷ []) 2 2 (0 ∷ 0 ∷ [])) with_a)
    (session 1 (1 ∷ []) 2000 (record (at_moment 2000) { there = true }))
    ≡ Some (machine (emptied events) world)

abbrev pub ReplacePutsOver : Type 0
ReplacePutsOver =
    PutsOver Replace (put_event 1 ∷ drop_event 2 (codes "success") ∷ [])
    (record with_a { outbox = with_file no_file a_txt hi })

abbrev pub IgnoreLeaves : Type 0
IgnoreLeaves = PutsOver Ignore (drop_event 1 (codes "success") ∷ []) with_a

abbrev pub FailLeaves : Type 0
FailLeaves = PutsOver Fail (drop_event 1 (codes "failure") ∷ []) with_a
