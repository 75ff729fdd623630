-- When the steps of a run are made, and which one comes next.
use Rattle.std.specs.Prelude.{◌≡◌, ℕ, ◌≤◌, List, [], ◌∷◌, ◌++◌, Option, Some, None, IfSome}
use Rattle.std.specs.List.{AllByRecursion}
use Rattle.machine_model.specs.declared.flow.Flow.{Flow}
use Rattle.machine_model.specs.declared.given.Given.{Given}
use Rattle.machine_model.specs.declared.journal.Entry.{Entry}
use Rattle.machine_model.specs.declared.journal.Step.{Step}
use Rattle.machine_model.specs.declared.journal.Step.TheVariants.{Session, Expire}
use Rattle.machine_model.specs.Acknowledged.{steps}
use Rattle.machine_model.specs.Due.{due_expiry}
use Rattle.machine_model.specs.Files.{queues_of}
use Rattle.machine_model.specs.State.{Machine}
use Rattle.machine_model.specs.Stepping.{step}
use Rattle.engine_choice.specs.declared.choice.Choice.{Choice}
use Rattle.engine_choice.specs.Choice.{known_of, next_choice}
use Rattle.engine_choice.specs.Laws.{given_for, numbers_in}

-- ---- of one step

-- the moment at which a session begins or files expire; batches go and come, and events age, at none
abbrev pub step_moment : Step → ℕ
step_moment (Session place numbers moment given) = moment
step_moment (Expire connection numbers moment) = moment
step_moment _ = 0

-- the processor that got the last session, behind one step more ..
abbrev pub worker_behind : (last : Option ℕ) → Step → Option ℕ
worker_behind last (Session place numbers moment given) = Some place
worker_behind last _ = last

-- .. and behind some
abbrev pub last_worker : (last : Option ℕ) → List Step → Option ℕ
last_worker last [] = last
last_worker last (one ∷ later) = last_worker (worker_behind last one) later

-- No file has expired, and the session is that of the first processor in turn that is ready: it takes what is picked for
-- it, the next index, or the first name that comes.
pub record IsNextSession (flow : Flow) (last : Option ℕ) (before : Machine) (place : ℕ) (numbers : List ℕ) (moment : ℕ)
    (given : Given) : Type 0 where
  pub expired : due_expiry flow (queues_of before.state) moment ≡ None
  pub choice : Choice
  pub chosen : next_choice flow (known_of before.state before.world moment) last ≡ Some choice
  pub place_is : choice.processor ≡ place
  pub numbers_are : numbers_in choice.taking ≡ numbers
  pub given_is : given_for moment given.there choice.taking ≡ given

-- the step that comes next at its moment: what has expired goes before any session
abbrev pub ComesNext : Flow → (last : Option ℕ) → Machine → Step → Type 0
ComesNext flow last before (Session place numbers moment given) =
    IsNextSession flow last before place numbers moment given
ComesNext flow last before (Expire connection numbers moment) =
    due_expiry flow (queues_of before.state) moment ≡ Some (connection, numbers)
ComesNext flow last before _ = ⊥

-- ---- of a run whose sessions come in any order

-- the step is made at a moment from one time on, up to another
abbrev pub IsWithinRun : (since until : ℕ) → Step → Type 0
IsWithinRun since until one = (since ≤ step_moment one) × (step_moment one ≤ until)

-- so is each of these
abbrev pub AreWithin : (since until : ℕ) → List Step → Type 0
AreWithin since until [] = since ≤ until
AreWithin since until (one ∷ later) = IsWithinRun since until one × AreWithin since until later

-- each step of the journal was made at a moment of which this holds
abbrev pub AreMadeAt : (given : ℕ → Type 0) → List Entry → Type 0
AreMadeAt given journal = AllByRecursion (λ entry. given (step_moment entry.step)) journal

-- ---- of a run whose sessions come one after the other

-- Each of these steps comes next at its moment, one after the other; their moments don't fall, from one time on up to
-- another.
abbrev pub ComeInTurn : Flow → (last : Option ℕ) → (since until : ℕ) → Machine → List Step → Type 0
ComeInTurn flow last since until before [] = since ≤ until
ComeInTurn flow last since until before (one ∷ later) =
    (since ≤ step_moment one) × ComesNext flow last before one
    × ((after : Machine) → step flow before one ≡ Some after
    → ComeInTurn flow (worker_behind last one) (step_moment one) until after later)

-- The steps of the journal come in turn, and so does the step at which the run stopped behind them, if at one.
pub record IsInTurn (flow : Flow) (start time : ℕ) (opened : Machine) (journal : List Entry) (next : Option Step)
    : Type 0 where
  pub made : ComeInTurn flow None start time opened (steps journal)
  pub stopped : IfSome next (λ one. ComeInTurn flow None start time opened (steps journal ++ one ∷ []))
