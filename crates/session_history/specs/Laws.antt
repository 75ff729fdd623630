-- That each thing that an engine does to its sessions is a move of their history, and what the history says of the journal.
use Rattle.std.specs.Prelude.{◌≡◌, ℕ, ◌≤◌, Bool, true, List, [], ◌∷◌, ◌++◌, Option, None, Some}
use Rattle.flowfile_record.specs.NamedFile.{NamedFile}
use Rattle.flowfile_record.specs.declared.content.ContentRef.{ContentRef}
use Rattle.machine_model.specs.declared.flow.Flow.{Flow}
use Rattle.machine_model.specs.Acknowledged.{steps}
use Rattle.machine_model.specs.State.{Machine}
use Rattle.machine_model.specs.Stepping.{replay}
use Rattle.store_core.specs.Store.{StoreState}
use Rattle.engine_choice.specs.Choice.{coming_of}
use Rattle.run_law.specs.Turns.{ComeInTurn}
use Rattle.engine_session.specs.declared.done.Done.{Done}
use Rattle.engine_steps.specs.Checkout.{HasCheckedOut}
use Rattle.engine_steps.specs.Commit.{SessionIsAcknowledged, StandsSo}
use Rattle.engine_steps.specs.Ending.{SessionHasEnded}
use Rattle.engine_steps.specs.Engine.{EngineState}
use Rattle.engine_steps.specs.Flights.{is_in_flight, names_to_come}
use Rattle.engine_steps.specs.Opening.{IsOpened}
use Rattle.engine_steps.specs.Ready.{IsReadyInMemory}
use Rattle.engine_steps.specs.Showing.{EngineShowsState}
use Rattle.engine_steps.specs.Tending.{HasExpired}
use Rattle.session_history.specs.History.{AreAlone, IsMove, IsPlayed, Move, Expires, Leaves, Makes, Play, Takes, unplayed}

-- ---- an engine at a point of its history

-- It has the sessions in flight, the journal, and the names that are to come, and knows whose session was committed last.
pub record IsAtPlay (e : EngineState) (p : Play) : Type 0 where
  pub out : p.out ≡ e.out
  pub last : p.last ≡ e.last
  pub made : p.made ≡ steps e.journal
  pub coming : coming_of p.machine.world ≡ names_to_come e

-- there is such a move, behind which an engine is
pub record GoesOnBy (flow : Flow) (p : Play) (move : Move) (e : EngineState) : Type 0 where
  pub behind : Play
  pub moves : IsMove flow p move behind
  pub at : IsAtPlay e behind

-- ---- how it begins and goes on

abbrev pub HistoriesBegin : Type 0
HistoriesBegin =
    (flow : Flow) (store : StoreState) (most checkpoint : ℕ) (e : EngineState) (machine : Machine) (moment : ℕ)
    → IsOpened flow store most checkpoint e → coming_of machine.world ≡ names_to_come e
    → IsAtPlay e (unplayed machine moment)

abbrev pub HistoriesGoOn : Type 0
HistoriesGoOn =
    (flow : Flow) (p q r : Play) (moves : List Move) (move : Move) → IsPlayed flow p moves q → IsMove flow q move r
    → IsPlayed flow p (moves ++ move ∷ []) r

-- ---- what an engine does

-- a checkout takes the session that comes next beside those in flight, where the engine shows the machine's state
abbrev pub CheckoutsTake : Type 0
CheckoutsTake =
    (moment session : ℕ) (old new : EngineState) (p : Play) → IsReadyInMemory old → EngineShowsState old p.machine
    → IsAtPlay old p → p.moment ≤ moment → session ≡ old.next_session → (out : HasCheckedOut moment session old new)
    → GoesOnBy old.flow p
    (Takes (record { session = session; moment = moment; choice = out.choice; place = out.place })) new

-- a session that ends, also one whose job has changed, leaves
abbrev pub EndsLeave : Type 0
EndsLeave =
    (session : ℕ) (old new : EngineState) (p : Play) → is_in_flight session old.out ≡ true → IsAtPlay old p
    → SessionHasEnded session old new → GoesOnBy old.flow p (Leaves session) new

-- a session that was acknowledged, whose job stood, is made, where the journal leads to a machine before and behind it
abbrev pub CommitsMake : Type 0
CommitsMake =
    (tells in_tells out_tells : Bool) (contents : ContentRef → List ℕ) (left : List NamedFile)
    (standing : List ℕ → Option (List ℕ)) (done : Done) (at : ℕ) (old new : EngineState) (opened after : Machine)
    (p : Play) → IsReadyInMemory old → IsAtPlay old p
    → StandsSo tells in_tells out_tells old contents left standing done → SessionIsAcknowledged done at old new
    → replay old.flow opened (steps old.journal) ≡ Some p.machine
    → replay old.flow opened (steps new.journal) ≡ Some after → coming_of after.world ≡ names_to_come new
    → GoesOnBy old.flow p (Makes done.session done.given.there) new

-- files that expire go beside the sessions in flight
abbrev pub ExpiriesGo : Type 0
ExpiriesGo =
    (moment : ℕ) (acked : Option ℕ) (old new : EngineState) (opened after : Machine) (p : Play)
    → EngineShowsState old p.machine → IsAtPlay old p → p.moment ≤ moment → HasExpired moment acked old new
    → new.out ≡ old.out → new.last ≡ old.last
    → replay old.flow opened (steps old.journal) ≡ Some p.machine
    → replay old.flow opened (steps new.journal) ≡ Some after → coming_of after.world ≡ names_to_come new
    → GoesOnBy old.flow p (Expires moment) new

-- and nothing else moves the history
abbrev pub OthersStay : Type 0
OthersStay =
    (old new : EngineState) (p : Play) → new.out ≡ old.out → new.last ≡ old.last → new.journal ≡ old.journal
    → names_to_come new ≡ names_to_come old → IsAtPlay old p → IsAtPlay new p

-- ---- what it says of the journal

-- its steps lead to the machine that it has reached
abbrev pub HistoriesAreReplays : Type 0
HistoriesAreReplays =
    (flow : Flow) (opened : Machine) (moment : ℕ) (moves : List Move) (q : Play)
    → IsPlayed flow (unplayed opened moment) moves q → replay flow opened q.made ≡ Some q.machine

-- where each session comes alone its steps come in turn
abbrev pub HistoriesComeInTurn : Type 0
HistoriesComeInTurn =
    (flow : Flow) (opened : Machine) (since until : ℕ) (moves : List Move) (q : Play) → AreAlone moves
    → IsPlayed flow (unplayed opened since) moves q → q.moment ≤ until
    → ComeInTurn flow None since until opened q.made
