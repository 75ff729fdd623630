-- That the session that comes next is one of the machine, and that where none comes the machine is quiet or blocked.
use Rattle.std.specs.Prelude.{◌≡◌, ◌↔◌, ℕ, Bool, true, false, List, [], All, Contains, Option, None, Some, slice_get}
use Rattle.machine_model.specs.declared.flow.Flow.{Flow}
use Rattle.machine_model.specs.declared.flow.Processor.{Processor}
use Rattle.machine_model.specs.declared.given.Given.{Given}
use Rattle.machine_model.specs.Due.{due_expiry}
use Rattle.machine_model.specs.Files.{queues_of}
use Rattle.machine_model.specs.Kinds.{take_rule_of}
use Rattle.machine_model.specs.Quiet.{blocked_but_for_swaps, quiet_but_for_swaps}
use Rattle.machine_model.specs.Sound.{IsSound}
use Rattle.machine_model.specs.State.{QueuedFile, State, World}
use Rattle.machine_model.specs.Stepping.{given_in, is_there, taken_files}
use Rattle.machine_model.specs.Valid.{IsValid}
use Rattle.machine_model.specs.View.{QueueView}
use Rattle.engine_queues.specs.Beside.{beside, is_out}
use Rattle.engine_queues.specs.Laws.{SeesTheSame}
use Rattle.engine_choice.specs.declared.choice.Choice.{Choice}
use Rattle.engine_choice.specs.declared.choice.Ending.{Ending}
use Rattle.engine_choice.specs.declared.choice.Ending.TheVariants.{Rest, Blocked, Quiet}
use Rattle.engine_choice.specs.declared.choice.Taking.{Taking}
use Rattle.engine_choice.specs.declared.choice.Taking.TheVariants.{Files, Generate, Receive}
use Rattle.engine_choice.specs.Choice.{Known, ProcessorTakes, coming_of, ending_of, next_choice}

-- ---- a session

-- the numbers of the files that are taken
abbrev pub numbers_in : Taking → List ℕ
numbers_in (Files connection numbers) = numbers
numbers_in (Generate index) = []
numbers_in (Receive name) = []

-- what a session is given: its moment, the index, whether the outbox has the file's name, and the name, with no bytes
abbrev pub given_for : (moment : ℕ) → (there : Bool) → Taking → Given
given_for moment there (Files connection numbers) =
    record { moment = moment; index = 0; there = there; file = None; bytes = None }
given_for moment there (Generate index) =
    record { moment = moment; index = index; there = there; file = None; bytes = None }
given_for moment there (Receive name) =
    record { moment = moment; index = 0; there = there; file = Some name; bytes = None }

-- It is one of the machine: its processor is the one at its place, which may take the files of these numbers, and what
-- it is given stands in the state and the world.
pub record IsSessionAt (flow : Flow) (state : State) (world : World) (moment : ℕ) (choice : Choice) : Type 0 where
  pub processor : Processor
  pub files : List QueuedFile
  pub handed : Given
  pub found : slice_get flow.processors choice.processor ≡ Some processor
  pub taken : taken_files flow state choice.processor (take_rule_of processor.kind) (numbers_in choice.taking) moment
      ≡ Some files
  pub given : given_in processor.kind choice.processor state world files
      (given_for moment (is_there world files) choice.taking) ≡ Some handed

-- What is known is that of the machine beside sessions in flight, which took these files: the queues are seen as its
-- queues beside them, and each name that comes is one of its world.
pub record IsKnownOf (flow : Flow) (state : State) (world : World) (out : List ℕ) (known : Known) : Type 0 where
  pub seen : SeesTheSame flow known.queues (beside out (queues_of state))
  pub counts : known.counts ≡ state.counts
  pub coming : All (Contains (coming_of world)) known.coming

-- the session that comes next is one of the machine, and takes none of the files that are out
abbrev pub ChoicesAreSessions : Type 0
ChoicesAreSessions =
    (flow : Flow) (state : State) (world : World) (out : List ℕ) (known : Known) (last : Option ℕ) (choice : Choice)
    → IsValid flow state → IsKnownOf flow state world out known → next_choice flow known last ≡ Some choice
    → IsSessionAt flow state world known.moment choice
    × All (λ number. is_out out number ≡ false) (numbers_in choice.taking)

-- what a processor takes is a session of the machine, and none of the files that are out, whichever session comes next
abbrev pub TakingsAreSessions : Type 0
TakingsAreSessions =
    (flow : Flow) (state : State) (world : World) (out : List ℕ) (known : Known) (choice : Choice)
    → IsValid flow state → IsKnownOf flow state world out known → ProcessorTakes flow known choice
    → IsSessionAt flow state world known.moment choice
    × All (λ number. is_out out number ≡ false) (numbers_in choice.taking)

-- by views that see the same the same session comes next
abbrev pub ChoicesAreSeen : Type 0
ChoicesAreSeen =
    (flow : Flow) (known : Known) (other : ℕ → QueueView) (last : Option ℕ) → SeesTheSame flow known.queues other
    → next_choice flow known last ≡ next_choice flow (record known { queues = other }) last

-- ---- the end

-- but for swaps, the machine is blocked at this connection, or it is quiet; a rest is no end
abbrev pub IsEndAt : Flow → State → World → (moment : ℕ) → Ending → Type 0
IsEndAt flow state world moment (Rest until) = ⊥
IsEndAt flow state world moment (Blocked connection) = blocked_but_for_swaps flow state world moment ≡ Some connection
IsEndAt flow state world moment Quiet = quiet_but_for_swaps flow state world moment ≡ true

-- It is quiet exactly where the machine is but for swaps, and blocked at a connection exactly where the machine is so. So
-- it rests exactly where the machine is neither.
pub record IsMachineEnd (flow : Flow) (state : State) (world : World) (moment : ℕ) (ending : Ending) : Type 0 where
  pub is_quiet : (ending ≡ Quiet) ↔ (quiet_but_for_swaps flow state world moment ≡ true)
  pub is_blocked : (connection : ℕ)
      → (ending ≡ Blocked connection) ↔ (blocked_but_for_swaps flow state world moment ≡ Some connection)

-- What is known is that of the machine where no session is in flight.
pub record IsKnownAtRest (flow : Flow) (state : State) (world : World) (known : Known) : Type 0 where
  pub seen : SeesTheSame flow known.queues (queues_of state)
  pub counts : known.counts ≡ state.counts
  pub coming : known.coming ≡ coming_of world
  pub idle : All (λ sessions. sessions ≡ 0) known.busy

-- where no session is in flight, no file has expired and no session comes
abbrev pub EndsAreMachineEnds : Type 0
EndsAreMachineEnds =
    (flow : Flow) (state : State) (world : World) (known : Known) (last : Option ℕ) → IsSound flow
    → IsKnownAtRest flow state world known → due_expiry flow known.queues known.moment ≡ None
    → next_choice flow known last ≡ None → IsMachineEnd flow state world known.moment (ending_of flow known)
