-- A session in flight whose job stands is a step of the machine that a run is at.
use Rattle.std.proofs.Common.{◌≡◌, ℕ, ◌≤◌, Bool, true, List, [], refl, sym, subst}
use Rattle.std.specs.Prelude.{Contains}
use Rattle.disk_trait.specs.Files.{Files}
use Rattle.flowfile_record.specs.NamedFile.{NamedFile}
use Rattle.checkpoint_store.specs.Consistent.{IsConsistent}
use Rattle.content_repo.specs.Claims.{content_in}
use Rattle.content_repo.proofs.Ranges.{contents-have-ranges}
use Rattle.machine_model.specs.State.{Machine}
use Rattle.machine_model.proofs.Among.{contains_among}
use Rattle.store_core.specs.Store.{FilesHold, kept_by}
use Rattle.engine_queues.specs.Laws.{HeldContentsHaveSizes}
use Rattle.engine_choice.specs.declared.choice.Taking.{Taking}
use Rattle.engine_choice.specs.declared.choice.Taking.TheVariants.{Files as OfFiles, Generate, Receive}
use Rattle.engine_session.specs.Change.{IsStepOf, MakesStep}
use Rattle.engine_session.specs.Laws.{MachinesFilesAreLive}
use Rattle.engine_session.specs.Taken.{IsAmong, TakenAreSessions}
use Rattle.engine_session.specs.declared.change.Changed.{Changed}
use Rattle.engine_session.specs.declared.job.Job.{Job}
use Rattle.run_law.specs.Going.{IsSpared}
use Rattle.run_law.specs.Laws.{SparedRunsGoOn}
use Rattle.run_law.specs.Puts.{Outgoing, Start}
use Rattle.run_law.specs.Run.{IsStateOf}
use Rattle.engine_steps.specs.Commit.{IndexIsNext}
use Rattle.engine_steps.specs.Engine.{AreTakeable, EngineState}
use Rattle.engine_steps.specs.Flights.{HoldsInFlight, names_to_come}
use Rattle.engine_steps.specs.Handing.{JobIsHanded, IsHandedAs, MayBeReceived}
use Rattle.engine_steps.specs.Ready.{EngineIsReady}
use Rattle.engine_steps.specs.Running.{IsRunning}
use Rattle.engine_steps.specs.declared.flight.InFlight.{InFlight}
use Rattle.engine_steps.proofs.Flights.{in_flight_at}
use Rattle.engine_steps.proofs.NamesToCome.{may_be_received, name_comes}
use Rattle.engine_steps.proofs.Stands.{stands_in}

module _ (tells : Bool) {D : Type 0} (held : D → Files) (moment : D → ℕ) (images : D → ℕ → Files → Type 0) (e : EngineState) (disk : D) (ready : EngineIsReady tells held moment images e disk)
    (flight : InFlight) (flying : Contains e.out flight) where
  in_flight : HoldsInFlight e.flow (kept_by e.store) e.listing e.next_session flight
  in_flight = in_flight_at e.flow (kept_by e.store) e.listing e.next_session e.out flight ready.memory.flights flying

  -- a name that it receives is to come
  is_to_come : IsAmong (names_to_come e) flight.choice.taking
  is_to_come = by_taking flight.choice.taking refl
    where
      by_taking : (taking : Taking) → flight.choice.taking ≡ taking → IsAmong (names_to_come e) taking
      by_taking (OfFiles connection numbers) is = tt
      by_taking (Generate index) is = tt
      by_taking (Receive name) is = contains_among name (names_to_come e) (name_comes e.out e.listing flight name flying is in_flight.holds)

  -- .. and its file is left
  pub is_received : (left : List NamedFile) → AreTakeable left (names_to_come e) → MayBeReceived left flight.choice.taking
  is_received left all = may_be_received left e.out e.listing flight all flying in_flight.holds

  -- what it makes of what it was handed is a step
  pub steps : TakenAreSessions → HeldContentsHaveSizes → MachinesFilesAreLive → IsConsistent (kept_by e.store) → (kept_by e.store).batches ≡ [] → FilesHold e.store (held disk) → IndexIsNext e flight
      → (opened : Machine) (first : D) (start : Start) (since : ℕ) (left : List NamedFile) (out : Outgoing) (run : IsRunning moment images e opened first start since disk left out)
      → IsStateOf run.reached (content_in (held disk)) (kept_by e.store) → (job : Job) (changed : Changed)
      → JobIsHanded (kept_by e.store) flight job → IsHandedAs true true true e.flow (kept_by e.store) (content_in (held disk)) left out.standing flight.choice job
      → MakesStep e.flow (kept_by e.store) job changed → IsStepOf e.flow (content_in (held disk)) run.reached job changed
  steps sessions sizes live consistent no_batches holds next opened first start since left out run tied job changed handed told makes =
      let comes = subst (λ (names : List (List ℕ)). IsAmong names flight.choice.taking) (sym run.to.coming) is_to_come in
      makes (content_in (held disk)) run.reached (contents-have-ranges (held disk)) tied run.to.run.valid
      (stands_in sessions live e.flow (kept_by e.store) flight (content_in (held disk)) run.reached left out.standing job ready.memory.sound consistent no_batches ready.memory.flow_is
      (sizes e.store (held disk) holds) in_flight.takes next comes tied run.to.run.lies run.to.run.stands.standing handed told)

-- calls that leave what the disk stands for, and time that goes by
abbrev pub runs_on : {D : Type 0} (moment : D → ℕ) (images : D → ℕ → Files → Type 0) → SparedRunsGoOn moment images → (e : EngineState) (opened : Machine) (first : D) (start : Start) (time later : ℕ) (old new : D) (left : List NamedFile)
    (out : Outgoing) (run : IsRunning moment images e opened first start time old left out) → time ≤ later → IsSpared e.flow moment images e.store.lot run.reached old new
    → IsRunning moment images e opened first start later new left out
runs_on moment images law e opened first start time later old new left out run no_earlier spared = record {
  reached = run.reached;
  to = record {
    run = law e.flow start time later e.store.lot opened run.reached first old new e.journal left out run.to.run no_earlier spared;
    coming = run.to.coming;
    last = run.to.last;
  };
}
