-- A session that ends gives back what it took: its files are at rest and its name is left, while the others stay in flight.
use Rattle.std.proofs.Common.{◌≡◌, ℕ, ◌+◌, ◌<◌, not, Bool, false, true, List, [], ◌∷◌, drop, filter, get_or, length, map, true≢false, refl, sym, ap, subst, ◌∙◌}
use Rattle.std.specs.Prelude.{Option, None, Some, find, is_some, option_map}
use Rattle.std.proofs.lemmas.Bool.{false≢true, or_parts}
use Rattle.std.proofs.lemmas.List.{drop_more, length-map}
use Rattle.std.proofs.lemmas.List.Elements.{All-contains}
use Rattle.flowfile_record.specs.Stored.{Kept}
use Rattle.checkpoint_store.specs.Consistent.{IsConsistent}
use Rattle.machine_model.specs.declared.flow.Flow.{Flow}
use Rattle.flow_queue.specs.Queue.{QueueState}
use Rattle.store_core.specs.Flow as store
use Rattle.store_core.specs.Store.{kept_by}
use Rattle.engine_queues.specs.Beside.{out_without}
use Rattle.engine_queues.specs.Laws.{NamesGoBack}
use Rattle.engine_queues.specs.Listing.{AreDistinct, Left, names_left}
use Rattle.engine_queues.specs.Queues.{AreQueuesOf}
use Rattle.engine_queues.specs.Settling.{MayGiveBack, without_flights}
use Rattle.engine_choice.specs.Laws.{numbers_in}
use Rattle.engine_choice.specs.declared.choice.Taking.{Taking}
use Rattle.engine_choice.specs.declared.choice.Taking.TheVariants.{Files, Generate, Receive}
use Rattle.engine_steps.specs.Ending.{EndsSession, SessionHasEnded, MayGiveFilesBack}
use Rattle.engine_steps.specs.Engine.{EngineState}
use Rattle.engine_steps.specs.Flights.{AreInFlight, HaveNames, files_of_flight, given_back, has_session, is_in_flight, names_to_come, taken_by, with_name, without_session}
use Rattle.engine_steps.specs.Ready.{IsReadyInMemory}
use Rattle.engine_steps.specs.declared.flight.InFlight.{InFlight}
use Rattle.engine_steps.proofs.Flights.{IsNameTaken, flights_given_back, found_flies, found_is_flying, given_back_first, given_back_listed, given_back_too_large, have_rest, holds_names, may_give_back, names_ended, none_flies, session_alone, taken_without}

-- ---- one name after the other

pub step_back : NamesGoBack → (out : List InFlight) (i : ℕ) (flight : InFlight) (listing after start : Left) → i < length out → get_or out i flight ≡ flight → HaveNames listing (drop i out)
    → given_back (drop i out) listing ≡ start → after ≡ with_name false flight.place listing → HaveNames after (drop (i + 1) out) × (given_back (drop (i + 1) out) after ≡ start)
step_back back out i flight listing after start within is have rest gives =
    let others : List InFlight = drop (i + 1) out in
    let split : drop i out ≡ flight ∷ others = drop_more out i flight within ∙ ap (λ (f : InFlight). f ∷ others) is in (
      subst (λ (l : Left). HaveNames l others) (sym gives) (have_rest listing flight others (subst (HaveNames listing) split have)),
      ap (given_back others) gives ∙ given_back_first back others flight.place listing ∙ sym (ap (λ (fs : List InFlight). given_back fs listing) split) ∙ rest,
    )

-- ---- files

-- queues are those beside the others once its files were given back, ..
pub files_back : (queues after : List QueueState) (taking : Taking) (connection : ℕ) (numbers : List ℕ) → taking ≡ Files connection numbers
    → ((flow : Flow) (k : Kept) (out : List ℕ) → MayGiveBack flow k out connection numbers queues → AreQueuesOf flow k (out_without numbers out) after)
    → (flow : Flow) (k : Kept) (out : List ℕ) → MayGiveFilesBack flow k out taking queues → AreQueuesOf flow k (out_without (numbers_in taking) out) after
files_back queues after taking connection numbers is each flow k out may =
    subst (λ (t : Taking). AreQueuesOf flow k (out_without (numbers_in t) out) after) (sym is) (each flow k out (subst (λ (t : Taking). MayGiveFilesBack flow k out t queues) is may))

none_without : (out : List ℕ) → out_without [] out ≡ out
none_without [] = refl
none_without (n ∷ out) = ap (λ (ns : List ℕ). n ∷ ns) (none_without out)

-- .. and as they were where it took none
pub none_back : (queues : List QueueState) (taking : Taking) → ((connection : ℕ) (numbers : List ℕ) → taking ≡ Files connection numbers → ⊥)
    → (flow : Flow) (k : Kept) (out : List ℕ) → MayGiveFilesBack flow k out taking queues → AreQueuesOf flow k (out_without (numbers_in taking) out) queues
none_back queues (Files connection numbers) differ flow k out may = absurd (differ connection numbers refl)
none_back queues (Generate index) differ flow k out may = subst (λ (ns : List ℕ). AreQueuesOf flow k ns queues) (sym (none_without out)) may
none_back queues (Receive name) differ flow k out may = subst (λ (ns : List ℕ). AreQueuesOf flow k ns queues) (sym (none_without out)) may

-- ---- a session

module _ (e : EngineState) (session : ℕ) (flight : InFlight) (ready : IsReadyInMemory e) (is : find (has_session session) e.out ≡ Some flight) where
  pub gives_files_back : IsConsistent (kept_by e.store) → MayGiveFilesBack e.flow (kept_by e.store) (taken_by e.out) flight.choice.taking e.queues
  gives_files_back consistent = by_taking flight.choice.taking refl
    where
      by_taking : (taking : Taking) → flight.choice.taking ≡ taking → MayGiveFilesBack e.flow (kept_by e.store) (taken_by e.out) taking e.queues
      by_taking (Files connection numbers) takes =
          may_give_back e.flow (kept_by e.store) e.listing e.next_session e.out session flight connection numbers e.queues ready.flights is takes ready.queues
          (ap (λ (f : store.Flow). length f.connections) ready.flow_is ∙ length-map e.flow.connections (λ c. c.id)) consistent
      by_taking (Generate index) takes = ready.queues
      by_taking (Receive name) takes = ready.queues

  pub name_is_taken : IsNameTaken e.listing flight
  name_is_taken =
      All-contains (IsNameTaken e.listing) e.out flight (holds_names e.flow (kept_by e.store) e.listing e.next_session e.out ready.flights).taken
      (found_flies session e.out flight is).0

  listing_back : given_back (filter (has_session session) e.out) e.listing ≡ with_name false flight.place e.listing
  listing_back = ap (λ (fs : List InFlight). given_back fs e.listing) (session_alone session e.out flight ready.flights.apart is)

  module _ (new : EngineState) (queues : List QueueState) (is_new : new ≡ record e { queues = queues; listing = with_name false flight.place e.listing; tended = None; out = without_session session e.out }) where
    pub has_ended : NamesGoBack → map without_flights queues ≡ map without_flights e.queues → SessionHasEnded session e new
    has_ended back same =
        let others = without_session session e.out in
        record {
          rest = is_new ∙ (λ i. record e { queues = sym (ap (λ (x : EngineState). x.queues) is_new) i; listing = sym listing_back i; tended = None; out = others });
          queues = ap (λ (x : EngineState). map without_flights x.queues) is_new ∙ same;
          coming = ap names_to_come is_new ∙ ap names_left (ap (given_back others) (sym listing_back) ∙ names_ended back e.listing e.out session);
        }

    pub still_ready : AreQueuesOf e.flow (kept_by e.store) (out_without (files_of_flight flight) (taken_by e.out)) queues → IsReadyInMemory new
    still_ready beside = subst IsReadyInMemory (sym is_new) (record {
      sound = ready.sound;
      flow_is = ready.flow_is;
      queues = subst (λ (out : List ℕ). AreQueuesOf e.flow (kept_by e.store) out queues) (sym (taken_without session e.out flight ready.flights.apart is)) beside;
      listing = same_flow flight.place ∙ ready.listing;
      distinct = subst AreDistinct (sym (given_back_listed (flight ∷ []) e.listing)) ready.distinct;
      flights = subst (λ (l : Left). AreInFlight e.flow (kept_by e.store) l e.next_session (without_session session e.out)) listing_back
          (flights_given_back e.flow (kept_by e.store) e.listing e.next_session e.out session ready.flights);
      most = ready.most;
      entries = ready.entries;
      due = λ moment known. absurd (cc known);
    })
      where
        same_flow : (place : Option ℕ) → (with_name false place e.listing).flow ≡ e.listing.flow
        same_flow None = refl
        same_flow (Some place) = refl

-- the engine, of which these have changed
pub changed : (flight : InFlight) (session : ℕ) (was e : EngineState) (queues : List QueueState) (listing : Left) (out : List InFlight) → was ≡ e → listing ≡ with_name false flight.place was.listing
    → out ≡ without_session session was.out
    → record was { queues = queues; listing = listing; tended = None; out = out }
    ≡ record e { queues = queues; listing = with_name false flight.place e.listing; tended = None; out = without_session session e.out }
changed flight session was e queues listing out same gives drops =
    let listings : listing ≡ with_name false flight.place e.listing = gives ∙ ap (λ (x : EngineState). with_name false flight.place x.listing) same in
    let outs : out ≡ without_session session e.out = drops ∙ ap (λ (x : EngineState). without_session session x.out) same in
    λ i. record (same i) { queues = queues; listing = listings i; tended = None; out = outs i }

-- ---- whether it is in flight

-- none is found, ..
pub nowhere : {X : Type 0} (now : X → InFlight) (session : ℕ) (out : List InFlight) (found : Option X) (none : Bool) → option_map now found ≡ find (has_session session) out → is_some found ≡ not none → none ≡ true
    → is_in_flight session out ≡ false
nowhere now session out None none is tells so = none_flies session out (sym is)
nowhere now session out (Some x) none is tells so = absurd (true≢false (tells ∙ ap not so))

-- .. or one is
pub somewhere : {X : Type 0} (now : X → InFlight) (session : ℕ) (out : List InFlight) (found : Option X) (none : Bool) → option_map now found ≡ find (has_session session) out → is_some found ≡ not none → none ≡ false
    → is_in_flight session out ≡ true
somewhere now session out None none is tells so = absurd (false≢true (tells ∙ ap not so))
somewhere now session out (Some x) none is tells so = found_is_flying session out (now x) (sym is)

none_dropped : (session : ℕ) (out : List InFlight) → is_in_flight session out ≡ false → without_session session out ≡ out
none_dropped session [] none = refl
none_dropped session (first ∷ out) none =
    let parts = or_parts (has_session session first) (is_in_flight session out) none in
    rw parts.0 (ap (λ (fs : List InFlight). first ∷ fs) (none_dropped session out parts.1))

-- another session changes nothing
pub ends_none : (session : ℕ) (e : EngineState) → is_in_flight session e.out ≡ false → EndsSession session e e
ends_none session e none = record {
  unknown = λ _. refl;
  ended = λ flies works. absurd (true≢false (sym flies ∙ none));
  dropped = λ failed i. record e { out = sym (none_dropped session e.out none) i };
}

-- one that has ended
pub ends_one : (session : ℕ) (e new : EngineState) → is_in_flight session e.out ≡ true → e.failed ≡ false → SessionHasEnded session e new → EndsSession session e new
ends_one session e new flies works has = record {
  unknown = λ none. absurd (true≢false (sym flies ∙ none));
  ended = λ _ _. has;
  dropped = λ failed. absurd (true≢false (sym failed ∙ works));
}

-- one that was dropped
pub drops_one : (session : ℕ) (was e : EngineState) (out : List InFlight) → was ≡ e → is_in_flight session e.out ≡ true → was.failed ≡ true → out ≡ without_session session was.out
    → EndsSession session e (record was { out = out })
drops_one session was e out same flies failed drops =
    let outs : out ≡ without_session session e.out = drops ∙ ap (λ (x : EngineState). without_session session x.out) same in
    record {
      unknown = λ none. absurd (true≢false (sym flies ∙ none));
      ended = λ _ works. absurd (true≢false (sym failed ∙ ap (λ (x : EngineState). x.failed) same ∙ works));
      dropped = λ _ i. record (same i) { out = outs i };
    }

-- ---- at a close all have ended

pub names_closed : (was e : EngineState) (out : List InFlight) (listing : Left) (count : ℕ) → was ≡ e → out ≡ was.out → listing ≡ given_back out was.listing → count ≡ length (names_left listing) + listing.too_large
    → count ≡ length (names_to_come e) + e.listing.too_large
names_closed was e out listing count same is gives counted =
    counted ∙ ap (λ (l : Left). length (names_left l) + l.too_large) (gives ∙ ap (λ (fs : List InFlight). given_back fs was.listing) is)
    ∙ ap (λ (n : ℕ). length (names_left (given_back was.out was.listing)) + n) (given_back_too_large was.out was.listing)
    ∙ ap (λ (x : EngineState). length (names_to_come x) + x.listing.too_large) same
