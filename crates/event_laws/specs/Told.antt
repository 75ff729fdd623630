-- No file comes or goes without an event that names it.
use Rattle.std.specs.Prelude.{◌≡◌, ℕ, List, map, Contains, IfSome}
use Rattle.flowfile_record.specs.declared.event.Event.{Event}
use Rattle.flowfile_record.specs.declared.event.EventKind.{EventKind}
use Rattle.flowfile_record.specs.declared.event.EventKind.TheVariants.{Create, Receive, Fork, Join, Clone, Drop, Expire}
use Rattle.machine_model.specs.declared.flow.Flow.{Flow}
use Rattle.machine_model.specs.declared.journal.Step.{Step}
use Rattle.machine_model.specs.Laws.{AddsEvents}
use Rattle.machine_model.specs.State.{State, Machine}
use Rattle.machine_model.specs.Stepping.{step, replay}
use Rattle.machine_model.specs.Valid.{files_of_all, IsValid}

-- the number is that of a file of some queue
abbrev pub IsQueued : State → (number : ℕ) → Type 0
IsQueued state number = Contains (map (λ file. file.number) (files_of_all state)) number

-- ---- what an event tells of the file of a number

-- that it came: a CREATE, a RECEIVE or a JOIN whose file it is, a FORK, a CLONE or again a JOIN that has it among its
-- children
abbrev pub IsComing : EventKind → (file : ℕ) (children : List ℕ) (number : ℕ) → Type 0
IsComing Create file children number = file ≡ number
IsComing Receive file children number = file ≡ number
IsComing Join file children number = (file ≡ number) × Contains children number
IsComing Fork file children number = Contains children number
IsComing Clone file children number = Contains children number
IsComing _ file children number = ⊥

abbrev pub TellsOfComing : Event → (number : ℕ) → Type 0
TellsOfComing event number = IsComing event.kind event.file event.children number

-- that it went: a DROP or an EXPIRE whose file it is
abbrev pub IsGoing : EventKind → (file number : ℕ) → Type 0
IsGoing Drop file number = file ≡ number
IsGoing Expire file number = file ≡ number
IsGoing _ file number = ⊥

abbrev pub TellsOfGoing : Event → (number : ℕ) → Type 0
TellsOfGoing event number = IsGoing event.kind event.file number

-- ---- what is told between two states

-- the event is one of those that were added, behind all that there were before; it is left where it is past the line
abbrev pub IsNewEvent : (before after : State) → Event → Type 0
IsNewEvent before after event = (more : List Event) × AddsEvents before after more × Contains more event

-- some new event tells this
abbrev pub IsToldByEvent : (before after : State) → (Event → Type 0) → Type 0
IsToldByEvent before after Tells = (event : Event) × IsNewEvent before after event × Tells event

-- of each file that is in the queues after and wasn't before, a new event tells that it came
abbrev pub AreComingsTold : (before after : State) → Type 0
AreComingsTold before after = (number : ℕ) → IsQueued after number → (IsQueued before number → ⊥) →
    IsToldByEvent before after (λ event. TellsOfComing event number)

-- of each file that was in the queues before and isn't after, a new event tells that it went
abbrev pub AreGoingsTold : (before after : State) → Type 0
AreGoingsTold before after = (number : ℕ) → IsQueued before number → (IsQueued after number → ⊥) →
    IsToldByEvent before after (λ event. TellsOfGoing event number)

-- ---- the laws: comings from any state, goings from a valid one

abbrev pub StepsTellOfComings : Type 0
StepsTellOfComings = (flow : Flow) (machine : Machine) (one : Step) →
    IfSome (step flow machine one) (λ after. AreComingsTold machine.state after.state)

abbrev pub StepsTellOfGoings : Type 0
StepsTellOfGoings = (flow : Flow) (machine : Machine) (one : Step) → IsValid flow machine.state →
    IfSome (step flow machine one) (λ after. AreGoingsTold machine.state after.state)

abbrev pub ReplaysTellOfComings : Type 0
ReplaysTellOfComings = (flow : Flow) (machine : Machine) (steps : List Step) →
    IfSome (replay flow machine steps) (λ after. AreComingsTold machine.state after.state)

abbrev pub ReplaysTellOfGoings : Type 0
ReplaysTellOfGoings = (flow : Flow) (machine : Machine) (steps : List Step) → IsValid flow machine.state →
    IfSome (replay flow machine steps) (λ after. AreGoingsTold machine.state after.state)
