-- A session that is checked out leaves an engine ready in memory, of which no name is lost.
use Rattle.std.proofs.Common.{◌≡◌, ℕ, ◌+◌, ◌<◌, true, false, List, [], ◌∷◌, ◌++◌, length, map, refl, sym, ap, subst, ◌∙◌}
use Rattle.std.specs.Prelude.{All, Option, None, Some}
use Rattle.std.proofs.lemmas.List.{length-map}
use Rattle.std.proofs.lemmas.List.Elements.{All-cons, All-nil}
use Rattle.std.proofs.lemmas.Option.{slice_get_within}
use Rattle.flowfile_record.specs.Stored.{Kept}
use Rattle.flowfile_record.specs.declared.stored.ActiveFile.{ActiveFile}
use Rattle.checkpoint_store.specs.Consistent.{IsConsistent}
use Rattle.kept_state.specs.Applied.{active_number}
use Rattle.machine_model.specs.declared.flow.Flow.{Flow}
use Rattle.machine_model.specs.declared.kind.Kind.{Kind}
use Rattle.flow_queue.specs.Queue.{QueueState}
use Rattle.store_core.specs.Flow as store
use Rattle.store_core.specs.Store.{kept_by}
use Rattle.engine_queues.specs.Beside.{is_out}
use Rattle.engine_queues.specs.Laws.{NamesGoBack}
use Rattle.engine_queues.specs.Listing.{AreDistinct, Left, names_left}
use Rattle.engine_queues.specs.Queues.{AreQueuesOf}
use Rattle.engine_queues.specs.Settling.{without_flights}
use Rattle.engine_queues.proofs.Changing.{same_files}
use Rattle.engine_queues.proofs.Flights.{held-only}
use Rattle.engine_choice.specs.Laws.{numbers_in}
use Rattle.engine_choice.specs.declared.choice.Choice.{Choice}
use Rattle.engine_choice.specs.declared.choice.Taking.{Taking}
use Rattle.engine_choice.specs.declared.choice.Taking.TheVariants.{Files, Generate, Receive}
use Rattle.engine_session.specs.Taken.{ChosenAreTaken, IsTakenBy, MayStillTake}
use Rattle.engine_steps.specs.Checkout.{HasCheckedOut, MayTakeFiles, TakesPlace, known_in, session_in}
use Rattle.engine_steps.specs.Engine.{EngineState}
use Rattle.engine_steps.specs.Flights.{AreInFlight, busy_by, given_back, names_to_come, taken_by, with_name}
use Rattle.engine_steps.specs.Ready.{IsReadyInMemory}
use Rattle.engine_steps.specs.declared.flight.InFlight.{InFlight}
use Rattle.engine_steps.proofs.Due.{chosen_of}
use Rattle.engine_steps.proofs.Flights.{flights_with, names_taken, place_taken, taken_with}
use Rattle.engine_steps.proofs.Readied.{knows_none}

-- ---- what it takes

-- by other numbers of which the same are out
same_out : (flow : Flow) (k : Kept) (out other : List ℕ) (queues : List QueueState) → ((n : ℕ) → is_out out n ≡ is_out other n) → AreQueuesOf flow k out queues → AreQueuesOf flow k other queues
same_out flow k out other queues same are = same_files flow out other k k queues (λ place. held-only out other place k.files (all_same k.files)) are
  where
    all_same : (files : List ActiveFile) → All (λ (a : ActiveFile). is_out out (active_number a) ≡ is_out other (active_number a)) files
    all_same [] = All-nil (λ (a : ActiveFile). is_out out (active_number a) ≡ is_out other (active_number a))
    all_same (a ∷ files) = All-cons (λ (b : ActiveFile). is_out out (active_number b) ≡ is_out other (active_number b)) a files (same (active_number a)) (all_same files)

-- the listing, but for what is taken of it, stays
name_kept : (place : Option ℕ) (listing : Left) → ((with_name true place listing).flow ≡ listing.flow) × ((with_name true place listing).listed ≡ listing.listed)
name_kept None listing = (refl, refl)
name_kept (Some place) listing = (refl, refl)

-- a choice that takes files of a connection may take them
may_take : (flow : Flow) (k : Kept) (out : List ℕ) (moment place : ℕ) (kind : Kind) (taking : Taking) (queues : List QueueState) → IsConsistent k → length k.connections ≡ length flow.connections → AreQueuesOf flow k out queues
    → MayStillTake flow k moment place kind taking → All (λ number. is_out out number ≡ false) (numbers_in taking) → MayTakeFiles flow k out taking queues
may_take flow k out moment place kind (Files connection numbers) queues consistent connections are takes rest = record {
  of_kept = are;
  connections = connections;
  consistent = consistent;
  distinct = takes.1.distinct;
  active = takes.1.active;
  flights = rest;
}
may_take flow k out moment place kind (Generate index) queues consistent connections are takes rest = are
may_take flow k out moment place kind (Receive name) queues consistent connections are takes rest = are

module _ (law : ChosenAreTaken) (names : NamesGoBack) (e : EngineState) (moment : ℕ) (choice : Choice) (ready : IsReadyInMemory e) (consistent : IsConsistent (kept_by e.store)) (no_batches : (kept_by e.store).batches ≡ []) (chosen : session_in e moment ≡ Some choice) where
  pub taken_so : IsTakenBy e.flow (kept_by e.store) (taken_by e.out) (known_in e moment) choice
  taken_so =
      law e.flow (kept_by e.store) (taken_by e.out) e.queues (busy_by e.flow e.out) e.listing moment e.last choice ready.sound consistent no_batches ready.flow_is ready.queues
      (chosen_of e moment choice chosen)

  pub files_may : MayTakeFiles e.flow (kept_by e.store) (taken_by e.out) choice.taking e.queues
  files_may =
      let count : length (kept_by e.store).connections ≡ length e.flow.connections = ap (λ (f : store.Flow). length f.connections) ready.flow_is ∙ length-map e.flow.connections (λ c. c.id) in
      may_take e.flow (kept_by e.store) (taken_by e.out) moment choice.processor taken_so.takes.processor.kind choice.taking e.queues consistent count ready.queues taken_so.takes.takes taken_so.at_rest

  pub processor_within : choice.processor < length e.listing.flow.processors
  processor_within = subst (λ (f : Flow). choice.processor < length f.processors) (sym ready.listing) (slice_get_within e.flow.processors choice.processor taken_so.takes.processor taken_so.takes.there)

  -- ---- what it leaves

  module _ (place : Option ℕ) (queues : List QueueState) (listing : Left) (are : AreQueuesOf e.flow (kept_by e.store) (numbers_in choice.taking ++ taken_by e.out) queues) (same : map without_flights queues ≡ map without_flights e.queues)
      (taken : TakesPlace e.listing choice.processor choice.taking place listing) where
    abbrev begun : InFlight
    begun = record { session = e.next_session; moment = moment; choice = choice; place = place }

    abbrev engine_begun : EngineState
    engine_begun = record e { queues = queues; listing = listing; tended = None; out = e.out ++ begun ∷ []; next_session = e.next_session + 1 }

    listing_is : listing ≡ with_name true place e.listing
    listing_is = place_taken e.flow (kept_by e.store) e.listing listing moment choice place ready.listing taken_so.takes taken

    coming : names_to_come engine_begun ≡ names_to_come e
    coming =
        ap (λ (l : Left). names_left (given_back (e.out ++ begun ∷ []) l)) listing_is
        ∙ ap names_left (names_taken names e.flow (kept_by e.store) e.listing listing e.out begun ready.listing taken_so.takes taken)

    has_begun : HasCheckedOut moment e.next_session e engine_begun
    has_begun = record {
      choice = choice;
      chosen = chosen;
      place = place;
      rest = ap (λ (l : Left). record engine_begun { listing = l }) listing_is;
      queues = same;
      coming = coming;
    }

    ready_begun : IsReadyInMemory engine_begun
    ready_begun =
        let k = kept_by e.store in
        record {
          sound = ready.sound;
          flow_is = ready.flow_is;
          queues = same_out e.flow k (numbers_in choice.taking ++ taken_by e.out) (taken_by (e.out ++ begun ∷ [])) queues (λ n. sym (taken_with e.out begun n)) are;
          listing = ap (λ (l : Left). l.flow) listing_is ∙ (name_kept place e.listing).0 ∙ ready.listing;
          distinct = subst AreDistinct (sym (ap (λ (l : Left). l.listed) listing_is ∙ (name_kept place e.listing).1)) ready.distinct;
          flights =
              subst (λ (l : Left). AreInFlight e.flow k l (e.next_session + 1) (e.out ++ begun ∷ [])) (sym listing_is)
              (flights_with e.flow k e.listing listing e.next_session moment e.queues k.counts choice place e.out ready.flights ready.listing taken_so taken);
          most = ready.most;
          entries = ready.entries;
          due = knows_none engine_begun refl;
        }

    -- .. as it is found, with the sessions in flight behind a push
    module _ (old : EngineState) (is : e ≡ old) (out : List InFlight) (pushed : out ≡ e.out ++ begun ∷ []) where
      pub begun_so : (e.next_session ≡ old.next_session) × HasCheckedOut moment e.next_session old (record engine_begun { out = out })
      begun_so = (
        ap (λ (o : EngineState). o.next_session) is,
        subst (λ (o : EngineState). HasCheckedOut moment e.next_session o (record engine_begun { out = out })) is
            (subst (λ (l : List InFlight). HasCheckedOut moment e.next_session e (record engine_begun { out = l })) (sym pushed) has_begun),
      )

      pub ready_so : IsReadyInMemory (record engine_begun { out = out })
      ready_so = subst (λ (l : List InFlight). IsReadyInMemory (record engine_begun { out = l })) (sym pushed) ready_begun
