-- The sessions in flight of an engine: what they took stays theirs.
use Rattle.std.specs.Prelude.{◌≡◌, ◌≢◌, ⊤, ℕ, ◌≤◌, ◌<◌, ◌==◌, not, Bool, true, false, List, [], ◌∷◌, map, filter, find, count_by, All, Option, None, Some, slice_get}
use Rattle.std.specs.List.{AllPairs, enumerate_from, flat_map, list_any}
use Rattle.std.specs.Option.{option_map_or}
use Rattle.flowfile_record.specs.Stored.{Kept}
use Rattle.machine_model.specs.declared.flow.Flow.{Flow}
use Rattle.machine_model.specs.declared.flow.Processor.{Processor}
use Rattle.engine_queues.specs.Beside.{is_out}
use Rattle.engine_queues.specs.Listing.{Left, names_left, with_mark}
use Rattle.engine_choice.specs.Laws.{numbers_in}
use Rattle.engine_choice.specs.declared.choice.Taking.{Taking}
use Rattle.engine_choice.specs.declared.choice.Taking.TheVariants.{Files, Generate, Receive}
use Rattle.engine_session.specs.Taken.{TakesStill}
use Rattle.engine_steps.specs.Engine.{EngineState}
use Rattle.engine_steps.specs.declared.flight.InFlight.{InFlight}

-- ---- a session

abbrev pub has_session : (session : ℕ) → InFlight → Bool
has_session session flight = flight.session == session

-- a session of this number is in flight
abbrev pub is_in_flight : (session : ℕ) → List InFlight → Bool
is_in_flight session out = list_any (has_session session) out

-- the others
abbrev pub without_session : (session : ℕ) → List InFlight → List InFlight
without_session session out = filter (λ flight. not (has_session session flight)) out

-- ---- what they took

-- the numbers of the files of one
abbrev pub files_of_flight : InFlight → List ℕ
files_of_flight flight = numbers_in flight.choice.taking

-- .. and of all
abbrev pub taken_by : List InFlight → List ℕ
taken_by out = flat_map files_of_flight out

-- the name of the file that one receives, if it receives one
abbrev pub received_in : Taking → Option (List ℕ)
received_in (Receive name) = Some name
received_in (Files connection numbers) = None
received_in (Generate index) = None

-- the listing in which the name at a place, if at one, is left or taken
abbrev pub with_name : (is_taken : Bool) → (place : Option ℕ) → Left → Left
with_name is_taken place listing = option_map_or (λ place. with_mark is_taken place listing) place listing

-- the listing, to which sessions have given back what they took
abbrev pub given_back : List InFlight → Left → Left
given_back [] listing = listing
given_back (flight ∷ out) listing = with_name false flight.place (given_back out listing)

-- The names that are to come: those that are left, and those of files that sessions in flight receive.
abbrev pub names_to_come : EngineState → List (List ℕ)
names_to_come e = names_left (given_back e.out e.listing)

-- how many sessions of the processor at a place there are
abbrev pub sessions_of : List InFlight → (place : ℕ) → ℕ
sessions_of out place = count_by (λ flight. flight.choice.processor == place) out

-- how many of each processor, where there are any
abbrev pub busy_by : Flow → List InFlight → List ℕ
busy_by flow [] = []
busy_by flow (flight ∷ out) = map (λ p. sessions_of (flight ∷ out) p.0) (enumerate_from 0 flow.processors)

-- ---- what holds of them

-- if a session of this number is in flight, it was checked out at a moment from one time on, up to another
abbrev pub IsCheckedOutWithin : (since until session : ℕ) → List InFlight → Type 0
IsCheckedOutWithin since until session out =
    (flight : InFlight) → find (has_session session) out ≡ Some flight
    → (since ≤ flight.moment) × (flight.moment ≤ until)

-- where it receives a file, the file's name was listed at this place, and is taken; else it has no place
abbrev pub HoldsName : Left → Taking → (place : Option ℕ) → Type 0
HoldsName listing (Receive name) None = ⊥
HoldsName listing (Receive name) (Some place) =
    (slice_get listing.listed place ≡ Some name) × (slice_get listing.taken place ≡ Some true)
HoldsName listing taking place = place ≡ None

-- What it took at its moment it may still take, and no session that is checked out later has its number.
pub record HoldsInFlight (flow : Flow) (k : Kept) (listing : Left) (next_session : ℕ) (flight : InFlight) : Type 0 where
  pub takes : TakesStill flow k flight.moment flight.choice
  pub holds : HoldsName listing flight.choice.taking flight.place
  pub earlier : flight.session < next_session

-- no two have one place
abbrev pub HaveOtherPlaces : (one other : Option ℕ) → Type 0
HaveOtherPlaces (Some place) (Some other) = place ≢ other
HaveOtherPlaces _ _ = ⊤

-- two sessions, which share no file and no name
pub record AreTwoSessions (one other : InFlight) : Type 0 where
  pub numbers : one.session ≢ other.session
  pub files : All (λ number. is_out (files_of_flight one) number ≡ false) (files_of_flight other)
  pub places : HaveOtherPlaces one.place other.place

-- each that has a place has a name there that is taken, and no two have one
pub record HaveNames (listing : Left) (out : List InFlight) : Type 0 where
  pub taken : All (λ flight. (place : ℕ) → flight.place ≡ Some place → slice_get listing.taken place ≡ Some true) out
  pub apart : AllPairs (λ one other. HaveOtherPlaces one.place other.place) out

-- Each is in flight, no two share a file or a name, and no processor has more than it may have.
pub record AreInFlight (flow : Flow) (k : Kept) (listing : Left) (next_session : ℕ) (out : List InFlight) : Type 0
  where
    pub each : All (HoldsInFlight flow k listing next_session) out
    pub apart : AllPairs AreTwoSessions out
    pub tasks : (place : ℕ) (processor : Processor) → slice_get flow.processors place ≡ Some processor
        → sessions_of out place ≤ processor.tasks
