-- Where a history begins, and which move each thing is that an engine does to its sessions.
use Rattle.std.proofs.Common.{◌≡◌, ℕ, ◌≤◌, Bool, List, [], ◌∷◌, ◌++◌, refl, sym, ap, subst, ◌∙◌}
use Rattle.std.proofs.lemmas.List.{map-append}
use Rattle.std.specs.Prelude.{Contains, Option, None, Some, find, option_and_then}
use Rattle.machine_model.specs.declared.flow.Flow.{Flow}
use Rattle.machine_model.specs.declared.given.Given.{Given}
use Rattle.machine_model.specs.declared.journal.Entry.{Entry}
use Rattle.machine_model.specs.declared.journal.Step.{Step}
use Rattle.machine_model.specs.declared.journal.Step.TheVariants.{Expire, Session}
use Rattle.machine_model.specs.Acknowledged.{steps}
use Rattle.machine_model.specs.Due.{due_expiry}
use Rattle.machine_model.specs.Files.{queues_of}
use Rattle.machine_model.specs.Laws.{ReplayOfOneMore}
use Rattle.machine_model.specs.State.{Machine}
use Rattle.machine_model.specs.Stepping.{replay, step}
use Rattle.store_core.specs.Store.{kept_by}
use Rattle.engine_queues.specs.Beside.{beside}
use Rattle.engine_queues.specs.Laws.{NamesGoBack, NamesLeave}
use Rattle.engine_queues.specs.Listing.{names_left}
use Rattle.engine_queues.specs.Queues.{queue_seen}
use Rattle.engine_choice.specs.Choice.{coming_of, next_choice}
use Rattle.engine_choice.specs.Laws.{ChoicesAreSeen, given_for}
use Rattle.engine_choice.specs.declared.choice.Taking.{Taking}
use Rattle.engine_choice.specs.declared.choice.Taking.TheVariants.{Files, Generate, Receive}
use Rattle.engine_session.specs.Done.{IsWorkOn, step_done}
use Rattle.engine_session.specs.declared.done.Done.{Done}
use Rattle.engine_session.specs.declared.job.Job.{Job}
use Rattle.flowfile_record.specs.NamedFile.{NamedFile}
use Rattle.flowfile_record.specs.declared.content.ContentRef.{ContentRef}
use Rattle.engine_steps.specs.Checkout.{known_in}
use Rattle.engine_steps.specs.Commit.{StandsSo}
use Rattle.engine_steps.specs.Engine.{EngineState}
use Rattle.engine_steps.specs.Flights.{busy_by, has_session, is_in_flight, taken_by, without_session}
use Rattle.engine_steps.specs.Handing.{JobIsHanded}
use Rattle.engine_steps.specs.Ready.{IsReadyInMemory}
use Rattle.engine_steps.specs.Showing.{EngineShowsState}
use Rattle.engine_steps.specs.Tending.{HasExpired}
use Rattle.engine_steps.specs.declared.flight.InFlight.{InFlight}
use Rattle.engine_steps.proofs.Due.{chosen_of, nothing_due}
use Rattle.engine_steps.proofs.Ending.{none_expired}
use Rattle.engine_steps.proofs.Flights.{the_flight}
use Rattle.session_history.specs.History.{Expires, IsMove, Makes, Play, known_beside, names_beside, queues_beside, step_in_flight}
use Rattle.session_history.specs.Laws.{CheckoutsTake, CommitsMake, EndsLeave, ExpiriesGo, HistoriesBegin, IsAtPlay, OthersStay}
use Rattle.session_history.proofs.NamesBeside.{left_beside, next_is_new}

-- ---- nothing happens to sessions

pub begin : HistoriesBegin
begin flow store most checkpoint e machine moment opened coming = record {
  out = sym opened.out;
  last = sym opened.last;
  made = sym (ap steps opened.journal);
  coming = coming;
}

pub stay : OthersStay
stay old new p out last journal coming was = record {
  out = was.out ∙ sym out;
  last = was.last ∙ sym last;
  made = was.made ∙ sym (ap steps journal);
  coming = was.coming ∙ sym coming;
}

-- ---- a session ends

pub leave : EndsLeave
leave session old new p flies was ended = record {
  behind = record p { out = without_session session p.out };
  moves = (ap (is_in_flight session) was.out ∙ flies, refl);
  at = record {
    out = ap (without_session session) was.out ∙ sym (ap (λ (e : EngineState). e.out) ended.rest);
    last = was.last ∙ sym (ap (λ (e : EngineState). e.last) ended.rest);
    made = was.made ∙ sym (ap (λ (e : EngineState). steps e.journal) ended.rest);
    coming = was.coming ∙ sym ended.coming;
  };
}

-- ---- beside those in flight

module _ (old : EngineState) (p : Play) (shown : EngineShowsState old p.machine) (was : IsAtPlay old p) where
  -- what expires of the engine's queues
  pub due_beside : (moment : ℕ) → due_expiry old.flow (queues_beside p) moment ≡ due_expiry old.flow (queue_seen old.queues) moment
  due_beside moment =
      ap (λ (out : List InFlight). due_expiry old.flow (beside (taken_by out) (queues_of p.machine.state)) moment) was.out
      ∙ sym (shown.seen.expiry moment)

  module _ (back : NamesGoBack) (leave : NamesLeave) (ready : IsReadyInMemory old) where
    coming_beside : names_beside p.out (coming_of p.machine.world) ≡ names_left old.listing
    coming_beside =
        (λ i. names_beside (was.out i) (was.coming i))
        ∙ sym (left_beside back leave old.flow (kept_by old.store) old.listing old.next_session ready.distinct old.out ready.flights)

    -- what the choice goes by, but for how the queues are seen
    known_is : (moment : ℕ) → known_beside old.flow p moment ≡ record (known_in old moment) { queues = beside (taken_by old.out) (queues_of p.machine.state) }
    known_is moment = λ i. record {
      queues = beside (taken_by (was.out i)) (queues_of p.machine.state);
      counts = sym shown.counts i;
      busy = busy_by old.flow (was.out i);
      coming = coming_beside i;
      moment = moment;
    }

    choice_is : ChoicesAreSeen → (moment : ℕ) → next_choice old.flow (known_beside old.flow p moment) p.last ≡ next_choice old.flow (known_in old moment) old.last
    choice_is law moment =
        (λ i. next_choice old.flow (known_is moment i) (was.last i))
        ∙ sym (law old.flow (known_in old moment) (beside (taken_by old.out) (queues_of p.machine.state)) old.last shown.seen)

-- ---- a session is checked out

pub take : ChoicesAreSeen → NamesGoBack → NamesLeave → CheckoutsTake
take law back leave moment session old new p ready shown was later same has = record {
  behind = record p { moment = moment; out = p.out ++ flight ∷ [] };
  moves = record {
    later = later;
    apart = (λ i. is_in_flight (same i) (was.out i)) ∙ next_is_new old.flow (kept_by old.store) old.listing old.next_session old.out ready.flights.each;
    expired = due_beside old p shown was moment ∙ none_expired old moment (nothing_due old moment has.choice has.chosen);
    chosen = choice_is old p shown was back leave ready law moment ∙ chosen_of old moment has.choice has.chosen;
    is = refl;
  };
  at = record {
    out = ap (λ (out : List InFlight). out ++ flight ∷ []) was.out ∙ sym (ap (λ (e : EngineState). e.out) has.rest);
    last = was.last ∙ sym (ap (λ (e : EngineState). e.last) has.rest);
    made = was.made ∙ sym (ap (λ (e : EngineState). steps e.journal) has.rest);
    coming = was.coming ∙ sym has.coming;
  };
}
  where
    flight : InFlight
    flight = record { session = session; moment = moment; choice = has.choice; place = has.place }

-- ---- an entry of the journal

module _ (law : ReplayOfOneMore) (flow : Flow) (opened before after : Machine) (old new : List Entry) (entry : Entry) (is : new ≡ old ++ entry ∷ []) where
  steps_are : steps new ≡ steps old ++ entry.step ∷ []
  steps_are = ap steps is ∙ map-append (λ (e : Entry). e.step) old (entry ∷ [])

  -- what lies between is its step
  step_goes : replay flow opened (steps old) ≡ Some before → replay flow opened (steps new) ≡ Some after → step flow before entry.step ≡ Some after
  step_goes leads leads_behind =
      sym (law flow opened (steps old) entry.step ∙ ap (option_and_then (λ (m : Machine). step flow m entry.step)) leads)
      ∙ sym (ap (replay flow opened) steps_are) ∙ leads_behind

-- ---- files expire

module _ (law : ReplayOfOneMore) (moment : ℕ) (acked : Option ℕ) (old new : EngineState) (opened after : Machine) (p : Play) (shown : EngineShowsState old p.machine) (was : IsAtPlay old p) (later : p.moment ≤ moment)
    (gone : HasExpired moment acked old new) (leads : replay old.flow opened (steps old.journal) ≡ Some p.machine) (leads_behind : replay old.flow opened (steps new.journal) ≡ Some after) where
  abbrev one : Step
  one = Expire gone.connection gone.numbers moment

  abbrev entry : Entry
  entry = record { step = one; acked = acked }

  -- where it is behind the move
  abbrev pub expired : Play
  expired = record p { machine = after; moment = moment; made = p.made ++ one ∷ [] }

  pub expires : IsMove old.flow p (Expires moment) expired
  expires = record {
    later = later;
    connection = gone.connection;
    numbers = gone.numbers;
    due = due_beside old p shown was moment ∙ gone.due;
    after = after;
    goes = step_goes law old.flow opened p.machine after old.journal new.journal entry gone.journal leads leads_behind;
    is = refl;
  }

  pub expired_made : expired.made ≡ steps new.journal
  expired_made = ap (λ (made : List Step). made ++ one ∷ []) was.made ∙ sym (steps_are law old.flow opened p.machine after old.journal new.journal entry gone.journal)

pub expire : ReplayOfOneMore → ExpiriesGo
expire law moment acked old new opened after p shown was later gone out last leads leads_behind coming = record {
  behind = expired law moment acked old new opened after p shown was later gone leads leads_behind;
  moves = expires law moment acked old new opened after p shown was later gone leads leads_behind;
  at = record {
    out = was.out ∙ sym out;
    last = was.last ∙ sym last;
    made = expired_made law moment acked old new opened after p shown was later gone leads leads_behind;
    coming = coming;
  };
}

-- ---- a session is committed

given_moment : (moment : ℕ) (there : Bool) (taking : Taking) → (given_for moment there taking).moment ≡ moment
given_moment moment there (Files connection numbers) = refl
given_moment moment there (Generate index) = refl
given_moment moment there (Receive name) = refl

-- the work on its job is the step that it is
module _ (old : EngineState) (flight : InFlight) (job : Job) (done : Done) (handed : JobIsHanded (kept_by old.store) flight job) (work : IsWorkOn old.flow (kept_by old.store).store job done) where
  given_is : record done.given { bytes = None } ≡ given_for flight.moment done.given.there flight.choice.taking
  given_is =
      ap (λ (g : Given). record g { bytes = None }) work.given.but_bytes
      ∙ handed.given
      ∙ ap (λ (b : Bool). given_for flight.moment b flight.choice.taking) (sym (ap (λ (g : Given). g.there) work.given.but_bytes))

  processor_is : done.processor ≡ flight.choice.processor
  processor_is = work.processor ∙ handed.processor

  pub step_is : step_done done ≡ step_in_flight flight done.given.there
  step_is =
      let numbers = work.numbers ∙ handed.numbers in
      let time : done.given.moment ≡ flight.moment = ap (λ (g : Given). g.moment) given_is ∙ given_moment flight.moment done.given.there flight.choice.taking in
      λ i. Session (processor_is i) (numbers i) (time i) (given_is i)

  session_found : IsReadyInMemory old → (flies : Contains old.out flight) → find (has_session done.session) old.out ≡ Some flight
  session_found ready flies =
      subst (λ (session : ℕ). find (has_session session) old.out ≡ Some flight) (sym (work.session ∙ handed.session)) (the_flight old.out flight flies ready.flights.apart)

module _ (law : ReplayOfOneMore) (tells in_tells out_tells : Bool) (old new : EngineState) (contents : ContentRef → List ℕ) (left : List NamedFile) (standing : List ℕ → Option (List ℕ)) (done : Done) (acked : Option ℕ) (opened after : Machine) (p : Play)
    (ready : IsReadyInMemory old) (was : IsAtPlay old p) (stands : StandsSo tells in_tells out_tells old contents left standing done) (journal_is : new.journal ≡ old.journal ++ record { step = step_done done; acked = acked } ∷ [])
    (leads : replay old.flow opened (steps old.journal) ≡ Some p.machine) (leads_behind : replay old.flow opened (steps new.journal) ≡ Some after) where
  abbrev pub flight_made : InFlight
  flight_made = stands.0

  pub same_step : step_done done ≡ step_in_flight flight_made done.given.there
  same_step = step_is old flight_made stands.1 done stands.3.handed stands.4

  pub made_by : flight_made.choice.processor ≡ done.processor
  made_by = sym (processor_is old flight_made stands.1 done stands.3.handed stands.4)

  -- where it is behind the move
  abbrev pub made_behind : Play
  made_behind = record p { machine = after; out = without_session done.session p.out; last = Some flight_made.choice.processor; made = p.made ++ step_in_flight flight_made done.given.there ∷ [] }

  pub makes : IsMove old.flow p (Makes done.session done.given.there) made_behind
  makes = record {
    flight = flight_made;
    found = ap (find (has_session done.session)) was.out ∙ session_found old flight_made stands.1 done stands.3.handed stands.4 ready stands.3.flying;
    after = after;
    goes = ap (step old.flow p.machine) (sym same_step) ∙ step_goes law old.flow opened p.machine after old.journal new.journal (record { step = step_done done; acked = acked }) journal_is leads leads_behind;
    is = refl;
  }

  pub steps_made : made_behind.made ≡ steps new.journal
  steps_made = (λ i. was.made i ++ sym same_step i ∷ []) ∙ sym (steps_are law old.flow opened p.machine after old.journal new.journal (record { step = step_done done; acked = acked }) journal_is)

pub make : ReplayOfOneMore → CommitsMake
make law tells in_tells out_tells contents left standing done now old new opened after p ready was stands acked leads leads_behind coming = record {
  behind = made_behind law tells in_tells out_tells old new contents left standing done (Some now) opened after p ready was stands acked.journal leads leads_behind;
  moves = makes law tells in_tells out_tells old new contents left standing done (Some now) opened after p ready was stands acked.journal leads leads_behind;
  at = record {
    out = ap (without_session done.session) was.out ∙ sym acked.out;
    last = ap Some (made_by law tells in_tells out_tells old new contents left standing done (Some now) opened after p ready was stands acked.journal leads leads_behind) ∙ sym acked.last;
    made = steps_made law tells in_tells out_tells old new contents left standing done (Some now) opened after p ready was stands acked.journal leads leads_behind;
    coming = coming;
  };
}
