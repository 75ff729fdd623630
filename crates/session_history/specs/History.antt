-- What the sessions of an engine did, in the order in which it happened, and the steps that came of it.
use Rattle.std.specs.Prelude.{◌≡◌, ℕ, ◌≤◌, Bool, true, false, List, [], ◌∷◌, ◌++◌, Option, None, Some, find, ⊤}
use Rattle.machine_model.specs.declared.flow.Flow.{Flow}
use Rattle.machine_model.specs.declared.journal.Step.{Step}
use Rattle.machine_model.specs.declared.journal.Step.TheVariants.{Expire, Session}
use Rattle.machine_model.specs.Due.{due_expiry}
use Rattle.machine_model.specs.Files.{queues_of}
use Rattle.machine_model.specs.State.{Machine}
use Rattle.machine_model.specs.Stepping.{step}
use Rattle.machine_model.specs.View.{QueueView}
use Rattle.engine_queues.specs.Beside.{beside}
use Rattle.engine_choice.specs.Choice.{Known, coming_of, next_choice}
use Rattle.engine_choice.specs.Laws.{given_for, numbers_in}
use Rattle.engine_session.specs.Change.{names_without}
use Rattle.engine_steps.specs.Flights.{busy_by, has_session, is_in_flight, received_in, taken_by, without_session}
use Rattle.engine_steps.specs.declared.flight.InFlight.{InFlight}

-- ---- how far it has come

-- The machine; the moment of the last checkout or expiry; the sessions in flight; the processor whose session was
-- committed last; and the steps that were made.
pub record Play : Type 0 where
  pub machine : Machine
  pub moment : ℕ
  pub out : List InFlight
  pub last : Option ℕ
  pub made : List Step

-- nothing has happened yet at this machine
abbrev pub unplayed : Machine → (moment : ℕ) → Play
unplayed machine moment = record { machine = machine; moment = moment; out = []; last = None; made = [] }

-- its queues, in which the files that sessions took are in flight
abbrev pub queues_beside : Play → ℕ → QueueView
queues_beside p = beside (taken_by p.out) (queues_of p.machine.state)

-- these names, but for those of files that sessions receive
abbrev pub names_beside : (out : List InFlight) → List (List ℕ) → List (List ℕ)
names_beside [] names = names
names_beside (flight ∷ out) names = names_beside out (names_without (received_in flight.choice.taking) names)

-- what the choice goes by at a moment, beside the sessions in flight
abbrev pub known_beside : Flow → Play → (moment : ℕ) → Known
known_beside flow p moment = record {
  queues = queues_beside p;
  counts = p.machine.state.counts;
  busy = busy_by flow p.out;
  coming = names_beside p.out (coming_of p.machine.world);
  moment = moment;
}

-- ---- what happens

-- a session is checked out; it ends without being committed; it is committed, as the outbox answered; files expire
pub data Move : Type 0 where
  Takes : InFlight → Move
  Leaves : (session : ℕ) → Move
  Makes : (session : ℕ) → (there : Bool) → Move
  Expires : (moment : ℕ) → Move

-- the step that a session in flight is, as the outbox answered
abbrev pub step_in_flight : InFlight → (there : Bool) → Step
step_in_flight flight there =
    Session flight.choice.processor (numbers_in flight.choice.taking) flight.moment
    (given_for flight.moment there flight.choice.taking)

-- The session comes next at its moment, which is no earlier than the last one: nothing has expired but what is in flight,
-- and its processor is the first one in turn that is ready. No other session in flight has its number.
pub record ComesNextBeside (flow : Flow) (p : Play) (flight : InFlight) (q : Play) : Type 0 where
  pub later : p.moment ≤ flight.moment
  pub apart : is_in_flight flight.session p.out ≡ false
  pub expired : due_expiry flow (queues_beside p) flight.moment ≡ None
  pub chosen : next_choice flow (known_beside flow p flight.moment) p.last ≡ Some flight.choice
  pub is : q ≡ record p { moment = flight.moment; out = p.out ++ flight ∷ [] }

-- The session in flight is a step of the machine, and is made.
pub record IsMadeFrom (flow : Flow) (p : Play) (session : ℕ) (there : Bool) (q : Play) : Type 0 where
  pub flight : InFlight
  pub found : find (has_session session) p.out ≡ Some flight
  pub after : Machine
  pub goes : step flow p.machine (step_in_flight flight there) ≡ Some after
  pub is : q ≡ record p {
    machine = after;
    out = without_session session p.out;
    last = Some flight.choice.processor;
    made = p.made ++ step_in_flight flight there ∷ [];
  }

-- The files go that have expired in the first connection that has some, but for those in flight. Their moment is no
-- earlier than the last one.
pub record ExpireBeside (flow : Flow) (p : Play) (moment : ℕ) (q : Play) : Type 0 where
  pub later : p.moment ≤ moment
  pub connection : ℕ
  pub numbers : List ℕ
  pub due : due_expiry flow (queues_beside p) moment ≡ Some (connection, numbers)
  pub after : Machine
  pub goes : step flow p.machine (Expire connection numbers moment) ≡ Some after
  pub is : q ≡ record p { machine = after; moment = moment; made = p.made ++ Expire connection numbers moment ∷ [] }

abbrev pub IsMove : Flow → Play → Move → Play → Type 0
IsMove flow p (Takes flight) q = ComesNextBeside flow p flight q
IsMove flow p (Leaves session) q =
    (is_in_flight session p.out ≡ true) × (q ≡ record p { out = without_session session p.out })
IsMove flow p (Makes session there) q = IsMadeFrom flow p session there q
IsMove flow p (Expires moment) q = ExpireBeside flow p moment q

-- these moves, one after the other, lead from here to there
abbrev pub IsPlayed : Flow → Play → List Move → Play → Type 0
IsPlayed flow p [] q = p ≡ q
IsPlayed flow p (move ∷ later) q = (mid : Play) × IsMove flow p move mid × IsPlayed flow mid later q

-- ---- sessions that come one after the other

-- each session that is checked out is committed or ends before anything else happens, if anything does
abbrev pub AreAlone : List Move → Type 0
AreAlone [] = ⊤
AreAlone (Expires moment ∷ later) = AreAlone later
AreAlone (Takes flight ∷ []) = ⊤
AreAlone (Takes flight ∷ Makes session there ∷ later) = AreAlone later
AreAlone (Takes flight ∷ Leaves session ∷ later) = AreAlone later
AreAlone _ = ⊥
