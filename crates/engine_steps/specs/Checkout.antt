-- What comes next.
use Rattle.std.specs.Prelude.{◌≡◌, ℕ, ◌+◌, nat_lt, zero, suc, true, [], ◌∷◌, ◌++◌, List, map, Option, None, Some, length, slice_get, Result, Ok, if◌then◌else◌}
use Rattle.flowfile_record.specs.Stored.{Kept}
use Rattle.machine_model.specs.declared.flow.Flow.{Flow}
use Rattle.machine_model.specs.declared.flow.Processor.{Processor}
use Rattle.flow_queue.specs.Queue.{QueueState}
use Rattle.engine_queues.specs.Listing.{Left, TakesFrom}
use Rattle.engine_queues.specs.Queues.{AreQueuesOf}
use Rattle.engine_queues.specs.Settling.{MayTakeFrom, without_flights}
use Rattle.engine_choice.specs.Choice.{Known, ending_of, known_by, next_choice}
use Rattle.engine_choice.specs.declared.choice.Choice.{Choice}
use Rattle.engine_choice.specs.declared.choice.Ending.{Ending}
use Rattle.engine_choice.specs.declared.choice.Ending.TheVariants as ending
use Rattle.engine_choice.specs.declared.choice.Taking.{Taking}
use Rattle.engine_choice.specs.declared.choice.Taking.TheVariants.{Files, Generate, Receive}
use Rattle.store_core.specs.Store.{kept_by}
use Rattle.run_law.specs.Ending.{journal_full}
use Rattle.engine_steps.specs.Engine.{EngineState}
use Rattle.engine_steps.specs.Flights.{busy_by, names_to_come, with_name}
use Rattle.engine_steps.specs.Ready.{Due as WhatIsDue, due_in}
use Rattle.engine_steps.specs.declared.checkout.Checkout.{Checkout}
use Rattle.engine_steps.specs.declared.checkout.Checkout.TheVariants.{Due, Session, Wait, Limit, Rest, Blocked, Quiet}
use Rattle.engine_steps.specs.declared.error.EngineError.{EngineError}

-- ---- a session

-- what the choice goes by, beside the sessions in flight
abbrev pub known_in : EngineState → (moment : ℕ) → Known
known_in e moment = known_by e.queues (kept_by e.store).counts (busy_by e.flow e.out) e.listing moment

-- that of the first processor in turn that is ready
abbrev pub choice_in : EngineState → (moment : ℕ) → Option Choice
choice_in e moment = next_choice e.flow (known_in e moment) e.last

-- none, where anything is due
abbrev pub choice_behind : Option WhatIsDue → Option Choice → Option Choice
choice_behind None choice = choice
choice_behind (Some due) choice = None

-- the session that comes next
abbrev pub session_in : EngineState → (moment : ℕ) → Option Choice
session_in e moment = choice_behind (due_in e moment) (choice_in e moment)

-- ---- what comes next

-- how it ends where no session comes
abbrev pub ending_in : EngineState → (moment : ℕ) → Ending
ending_in e moment = ending_of e.flow (known_in e moment)

abbrev pub checkout_of_ending : Ending → Checkout
checkout_of_ending (ending.Rest until) = Rest until
checkout_of_ending (ending.Blocked connection) = Blocked connection
checkout_of_ending ending.Quiet = Quiet

-- so many sessions in flight are waited for; with none, this comes
abbrev pub wait_or : (in_flight : ℕ) → Checkout → Checkout
wait_or zero next = next
wait_or (suc others) next = Wait (suc others)

-- A session, where the journal has room now for its entry beside those of the sessions in flight; files that expire may
-- take that room before. Or why none comes.
abbrev pub next_of : (entries in_flight most session : ℕ) → Option Choice → Ending → Checkout
next_of entries in_flight most session None end = wait_or in_flight (checkout_of_ending end)
next_of entries in_flight most session (Some choice) end =
    if nat_lt (entries + in_flight) most then Session session else wait_or in_flight (Limit (journal_full most))

-- what is due comes before that
abbrev pub due_or_next : Option WhatIsDue → Checkout → Checkout
due_or_next None next = next
due_or_next (Some due) next = Due

abbrev pub checkout_in : EngineState → (moment : ℕ) → Checkout
checkout_in e moment =
    due_or_next (due_in e moment)
    (next_of (length e.journal) (length e.out) e.most e.next_session (choice_in e moment) (ending_in e moment))

-- ---- what a session takes

-- the files, if it takes any, are active ones of one connection, and no session in flight took one of them
abbrev pub MayTakeFiles : Flow → Kept → (out : List ℕ) → Taking → List QueueState → Type 0
MayTakeFiles flow k out (Files connection numbers) queues = MayTakeFrom flow k out connection numbers queues
MayTakeFiles flow k out (Generate index) queues = AreQueuesOf flow k out queues
MayTakeFiles flow k out (Receive name) queues = AreQueuesOf flow k out queues

-- a name, if it receives a file, is taken at this place: that which the processor takes first
abbrev pub TakesPlace : (old : Left) → (processor : ℕ) → Taking → (place : Option ℕ) → (new : Left) → Type 0
TakesPlace old processor (Files connection numbers) place new = (place ≡ None) × (new ≡ old)
TakesPlace old processor (Generate index) place new = (place ≡ None) × (new ≡ old)
TakesPlace old processor (Receive name) place new =
    (p : Processor) → slice_get old.flow.processors processor ≡ Some p → TakesFrom p.kind place old new

-- ---- what it leaves

-- The session that came next is in flight, under this number: its files are in flight in their queue, its name is taken.
-- Of the engine nothing else changes, but that it knows no moment at which nothing is due.
pub record HasCheckedOut (moment session : ℕ) (old new : EngineState) : Type 0 where
  pub choice : Choice
  pub chosen : session_in old moment ≡ Some choice
  pub place : Option ℕ
  pub rest : new ≡ record old {
    queues = new.queues;
    listing = with_name true place old.listing;
    tended = None;
    out = old.out ++ record { session = session; moment = moment; choice = choice; place = place } ∷ [];
    next_session = session + 1;
  }
  pub queues : map without_flights new.queues ≡ map without_flights old.queues
  pub coming : names_to_come new ≡ names_to_come old

-- all is as it was where no session is checked out
abbrev pub ChecksOut : Result Checkout EngineError → (moment : ℕ) → (old new : EngineState) → Type 0
ChecksOut (Ok (Session session)) moment old new = HasCheckedOut moment session old new
ChecksOut _ moment old new = new ≡ old
