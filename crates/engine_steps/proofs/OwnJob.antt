-- A session in flight, and its job.
use Rattle.std.proofs.Common.{◌≡◌, ℕ, Bool, true, false, List, refl, sym, ap, subst, true≢false, ◌∙◌}
use Rattle.std.specs.Prelude.{find, is_some, Option, None, Some, Result, Ok, Err, IfOk}
use Rattle.std.specs.Option.{option_map}
use Rattle.flowfile_record.specs.NamedFile.{NamedFile}
use Rattle.flowfile_record.specs.declared.content.ContentRef.{ContentRef}
use Rattle.store_core.specs.Store.{kept_by}
use Rattle.engine_session.specs.Job.{MayHand}
use Rattle.engine_session.specs.declared.job.Job.{Job}
use Rattle.engine_steps.specs.Engine.{AreTakeable, EngineState}
use Rattle.engine_steps.specs.Flights.{HoldsInFlight, has_session, is_in_flight, names_to_come}
use Rattle.engine_steps.specs.Handing.{IsHandedAs, JobIsHanded, MayBeReceived, MayBeTaken}
use Rattle.engine_steps.specs.OwnJob.{IsJobOf}
use Rattle.engine_steps.specs.Ready.{IsReadyInMemory}
use Rattle.engine_steps.specs.declared.error.EngineError.{EngineError}
use Rattle.engine_steps.specs.declared.flight.InFlight.{InFlight}
use Rattle.engine_steps.proofs.Flights.{flying_found, found_flies, found_is_flying, in_flight_at, may_be_taken, none_flies}
use Rattle.engine_steps.proofs.MayHand.{may_hand}
use Rattle.engine_steps.proofs.NamesToCome.{may_be_received}

-- ---- whether a session is in flight, as it is looked up

module _ {X : Type 0} (session : ℕ) (out : List InFlight) (view : X → InFlight) (found : Option X) (is : option_map view found ≡ find (has_session session) out) where
  pub is_flying : is_some found ≡ true → is_in_flight session out ≡ true
  is_flying some = by_found found is some
    where
      by_found : (o : Option X) → option_map view o ≡ find (has_session session) out → is_some o ≡ true → is_in_flight session out ≡ true
      by_found None is some = absurd cc
      by_found (Some x) is some = found_is_flying session out (view x) (sym is)

  pub is_not_flying : is_some found ≡ false → is_in_flight session out ≡ false
  is_not_flying none = by_found found is none
    where
      by_found : (o : Option X) → option_map view o ≡ find (has_session session) out → is_some o ≡ false → is_in_flight session out ≡ false
      by_found None is none = none_flies session out (sym is)
      by_found (Some x) is none = absurd cc

  -- one in flight is found
  pub must_be_found : is_in_flight session out ≡ true → ((x : X) → found ≡ Some x → ⊥) → ⊥
  must_be_found flying not_some = by_found found refl is
    where
      by_found : (o : Option X) → found ≡ o → option_map view o ≡ find (has_session session) out → ⊥
      by_found None e none = true≢false (sym flying ∙ none_flies session out (sym none))
      by_found (Some x) e some = not_some x e

  -- .. by its number
  pub found_at : (all : List InFlight) → out ≡ all → (x : X) → found ≡ Some x → find (has_session session) all ≡ Some (view x)
  found_at all same x some = ap (λ (flights : List InFlight). find (has_session session) flights) (sym same) ∙ sym is ∙ ap (option_map view) some

-- ---- a session in flight of an engine that is ready

module _ (e : EngineState) (ready : IsReadyInMemory e) (session : ℕ) (flight : InFlight) (is : find (has_session session) e.out ≡ Some flight) where
  flies : HoldsInFlight e.flow (kept_by e.store) e.listing e.next_session flight
  flies = in_flight_at e.flow (kept_by e.store) e.listing e.next_session e.out flight ready.flights (found_flies session e.out flight is).0

  -- its files are live ones of their connection, each once
  pub flight_takes : MayBeTaken (kept_by e.store) flight.choice.taking
  flight_takes = may_be_taken e.flow (kept_by e.store) flight.moment flight.choice flies.takes

  -- the file that it receives is left
  pub flight_receives : (left : List NamedFile) → AreTakeable left (names_to_come e) → MayBeReceived left flight.choice.taking
  flight_receives left all = may_be_received left e.out e.listing flight all (found_flies session e.out flight is).0 flies.holds

  -- what it is handed its processor may be handed
  pub flight_may_hand : (job : Job) → JobIsHanded (kept_by e.store) flight job → MayHand e.flow (kept_by e.store) job
  flight_may_hand job handed = may_hand e.flow (kept_by e.store) flight job ready.sound flies.takes handed

  -- what it was handed is its job
  pub flight_job : (tells in_tells out_tells : Bool) (contents : ContentRef → List ℕ) (left : List NamedFile) (standing : List ℕ → Option (List ℕ)) (job : Job)
      → JobIsHanded (kept_by e.store) flight job → IsHandedAs tells in_tells out_tells e.flow (kept_by e.store) contents left standing flight.choice job
      → IsJobOf tells in_tells out_tells e contents left standing flight job
  flight_job tells in_tells out_tells contents left standing job handed told =
      record { flying = (found_flies session e.out flight is).0; handed = handed; told = told; may = flight_may_hand job handed }

  -- the session that is found is one
  pub found_alone : (P : InFlight → Type 0) → P flight → (other : InFlight) → find (has_session session) e.out ≡ Some other → P other
  found_alone P holds other other_is =
      let both : Some flight ≡ Some other = sym is ∙ other_is in
      let same : flight ≡ other = cc in
      subst P same holds

-- what it was handed is its job, as it is answered
pub flight_job_if : (result : Result Job EngineError) (tells in_tells out_tells : Bool) (e : EngineState) → IsReadyInMemory e → (session : ℕ) (flight : InFlight) → find (has_session session) e.out ≡ Some flight
    → (contents : ContentRef → List ℕ) (left : List NamedFile) (standing : List ℕ → Option (List ℕ)) → IfOk result (JobIsHanded (kept_by e.store) flight)
    → IfOk result (IsHandedAs tells in_tells out_tells e.flow (kept_by e.store) contents left standing flight.choice)
    → IfOk result (λ job. (other : InFlight) → find (has_session session) e.out ≡ Some other → IsJobOf tells in_tells out_tells e contents left standing other job)
flight_job_if (Ok job) tells in_tells out_tells e ready session flight is contents left standing handed told =
    found_alone e ready session flight is (λ (f : InFlight). IsJobOf tells in_tells out_tells e contents left standing f job)
    (flight_job e ready session flight is tells in_tells out_tells contents left standing job handed told)
flight_job_if (Err error) tells in_tells out_tells e ready session flight is contents left standing handed told = tt

-- .. of the session that was asked for
pub job_of_session : (result : Result Job EngineError) (P : InFlight → Job → Type 0) (Q : Job → Type 0) (session : ℕ) (out : List InFlight) → is_in_flight session out ≡ true
    → IfOk result (λ job. (flight : InFlight) → find (has_session session) out ≡ Some flight → P flight job) → IfOk result Q
    → IfOk result (λ job. (flight : InFlight) × (flight.session ≡ session) × P flight job × Q job)
job_of_session (Ok job) P Q session out flying is may =
    let found = flying_found session out flying in
    (found.0, (found_flies session out found.0 found.1).1, is found.0 found.1, may)
job_of_session (Err error) P Q session out flying is may = tt
