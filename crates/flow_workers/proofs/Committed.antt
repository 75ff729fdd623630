-- How a run goes on by a session that is committed.
use Rattle.std.proofs.Common.{◌≡◌, ◌⊎◌, inl, inr, ⊎_elim, ℕ, Bool, true, false, true≢false, List, [], ◌∷◌, ◌++◌, length, refl, sym, ap, subst, ◌∙◌, arith, length-append}
use Rattle.std.specs.Prelude.{not, All, Option, None, Some, Result, Ok, Err, IsErrOf, IsTrue, OnOk}
use Rattle.std.proofs.lemmas.List.Elements.{All-contains, All-filter}
use Rattle.disk_trait.specs.Files.{Files}
use Rattle.flowfile_record.specs.NamedFile.{NamedFile}
use Rattle.content_repo.specs.Claims.{content_in}
use Rattle.store_core.specs.Store.{kept_by}
use Rattle.engine_session.specs.Done.{step_done}
use Rattle.engine_session.specs.declared.done.Done.{Done}
use Rattle.run_law.specs.Puts.{Outgoing, outgoing}
use Rattle.run_law.specs.Turns.{AreMadeAt}
use Rattle.run_law.proofs.Writing.{same_log}
use Rattle.machine_model.specs.declared.flow.Flow.{Flow}
use Rattle.engine_steps.specs.Commit.{CommitsAlone, IsInboxBehind, IsJournaled, IsLeftOut, MakesEntry, SessionIsAcknowledged, StandsSo, StaysInFlight, TakesWhatStands}
use Rattle.engine_steps.specs.Engine.{EngineState}
use Rattle.engine_steps.specs.Errors.{HasCause, RefusesToCommit}
use Rattle.engine_steps.specs.Flights.{has_session, is_in_flight, names_to_come, without_session}
use Rattle.engine_steps.specs.Ready.{IsReadyInMemory, IsUsableWith}
use Rattle.engine_steps.specs.Running.{CommitsRun}
use Rattle.engine_steps.specs.declared.commit.Committed.{Committed}
use Rattle.engine_steps.specs.declared.commit.Committed.TheVariants.{Acked, Changed, Dropped}
use Rattle.engine_steps.specs.declared.error.EngineError.{EngineError}
use Rattle.engine_steps.specs.declared.error.EngineError.TheVariants.{Damaged, Disk, Inbox, Limit, Memory, MustReopen, NoSession, Outbox, Put}
use Rattle.engine_steps.specs.declared.flight.InFlight.{InFlight}
use Rattle.session_history.specs.Runs.{CommitPlaysOn, FailsByDevices}
use Rattle.flow_workers.specs.Going.{AreGiven, WorkGoesOn, DeskIsInOrder}
use Rattle.flow_workers.specs.Jobs.{AreAsListed}
use Rattle.flow_workers.specs.Seen.{Seen, stopped_by}
use Rattle.flow_workers.specs.declared.cause.Cause.{Cause}
use Rattle.flow_workers.proofs.ByCalls.{goes_by, order_by, works_on}
use Rattle.flow_workers.proofs.Given.{made_same, made_with, moment_of_work}
use Rattle.flow_workers.proofs.Listed.{listed_still, listed_without}
use Rattle.flow_workers.proofs.Tended.{not_before, on_ok}

-- ---- the moment of the session that is made

module _ (given : ℕ → Type 0) (done : Done) (now : ℕ) (e f : EngineState) (all : AreGiven given e) where
  abbrev IsMade : (acked : Option ℕ) → Type 0
  IsMade acked = f.journal ≡ e.journal ++ record { step = step_done done; acked = acked } ∷ []

  abbrev IsGivenMoment : Type 0
  IsGivenMoment = given done.given.moment

  flights_without : f.out ≡ without_session done.session e.out → All (λ flight. given flight.moment) f.out
  flights_without is =
      subst (λ (out : List InFlight). All (λ flight. given flight.moment) out) (sym is)
      (All-filter (λ (flight : InFlight). not (has_session done.session flight)) (λ (flight : InFlight). given flight.moment) e.out all.1)

  made : (acked : Option ℕ) → IsMade acked → IsGivenMoment → AreMadeAt given f.journal
  made acked grown is = made_with given e.journal f.journal (record { step = step_done done; acked = acked }) grown is all.0

  it : (f.journal ≡ e.journal) ⊎ IsGivenMoment → (acked : Option ℕ) → IsMade acked → IsGivenMoment
  it (inl same) acked grown = absurd (omega (arith, ap length same, ap length grown, length-append e.journal (record { step = step_done done; acked = acked } ∷ [])))
  it (inr is) acked grown = is

  same_flights : f.out ≡ e.out → All (λ flight. given flight.moment) f.out
  same_flights is = subst (λ (out : List InFlight). All (λ flight. given flight.moment) out) (sym is) all.1

  stays : StaysInFlight e f → AreGiven given f
  stays same = (made_same given e.journal f.journal same.0.0 all.0, same_flights same.1)

  acknowledged : (at : ℕ) → SessionIsAcknowledged done at e f → IsGivenMoment → AreGiven given f
  acknowledged at it is = (made (Some at) it.journal is, flights_without it.out)

  -- an entry more is that of a session that stands
  committed_given : (result : Result Committed EngineError) → IsJournaled result done now e f → ((f.journal ≡ e.journal) ⊎ IsGivenMoment) → AreGiven given f
  committed_given (Ok (Acked entry at)) has stands = acknowledged at has.2 (it stands (Some at) has.2.journal)
  committed_given (Ok Changed) has stands = (made_same given e.journal f.journal has.0.0 all.0, flights_without (ap (λ (x : EngineState). x.out) has.1.rest))
  committed_given (Ok Dropped) has stands = stays has
  committed_given (Err Disk) (inl same) stands = stays same
  committed_given (Err Disk) (inr cut) stands = (made None cut.0 (it stands None cut.0), same_flights cut.2)
  committed_given (Err Inbox) (inl same) stands = stays same
  committed_given (Err Inbox) (inr acked) stands = acknowledged now acked (it stands (Some now) acked.journal)
  committed_given (Err (Damaged damage)) has stands = stays has
  committed_given (Err Outbox) has stands = stays has
  committed_given (Err Put) has stands = stays has
  committed_given (Err (Limit limit)) has stands = stays has
  committed_given (Err MustReopen) has stands = stays has
  committed_given (Err NoSession) has stands = stays has
  committed_given (Err Memory) has stands = stays has

-- ---- a commit

module _ {D I O C : Type 0} (tells : Bool) (held : D → Files) (moment_of : D → ℕ) (images : D → ℕ → Files → Type 0) (faults : D → ℕ) (in_tells : Bool) (left : I → List NamedFile) (in_faults : I → ℕ)
    (out_tells : Bool) (standing : O → List ℕ → Option (List ℕ)) (puts : O → List NamedFile) (out_faults : O → ℕ) (time : C → ℕ) (given : ℕ → Type 0)
    (e f : EngineState) (old new : D) (in_old in_new : I) (out_old out_new : O) (clock : C) (p q : Option Cause) where
  abbrev s : Seen D I O C
  s = record { engine = e; disk = old; inbox = in_old; outbox = out_old; clock = clock; cause = p }

  abbrev t : Seen D I O C
  t = record { engine = f; disk = new; inbox = in_new; outbox = out_new; clock = clock; cause = q }

  abbrev out : Outgoing
  out = outgoing standing puts out_old

  abbrev now_out : Outgoing
  now_out = outgoing standing puts out_new

  module _ (order : DeskIsInOrder tells held moment_of images in_tells left time given s) (none : p ≡ None) (result : Result Committed EngineError) (noted_is : q ≡ stopped_by result) (done : Done)
      (entered : MakesEntry result done (moment_of new) in_tells out_tells e f (left in_old) (left in_new) out now_out)
      (stands : TakesWhatStands result tells in_tells out_tells held moment_of images done e f old new (left in_old) out now_out) (usable : IsUsableWith tells held moment_of images in_tells (left in_new) f new)
      (alone : CommitsAlone moment_of images e f old new) (refusal : RefusesToCommit result done.session tells held moment_of images faults in_faults out_faults e f old new in_old in_new out_old out_new) where
    works : e.failed ≡ false
    works = works_on tells held moment_of images in_tells left time given s order none

    ready : IsReadyInMemory e
    ready = (order.usable.usable works).memory

    -- where the session isn't in flight nothing is done
    by_flight : (P : Type 0) → (is_in_flight done.session e.out ≡ true → P) → (result ≡ Ok Dropped → f ≡ e → P) → P
    by_flight P flying dropped = by (is_in_flight done.session e.out) refl
      where
        by : (b : Bool) → is_in_flight done.session e.out ≡ b → P
        by true is = flying is
        by false is = let it = refusal.asks.exactly.1 is in dropped it (refusal.asks.untouched it).0

    failed_by : f.failed ≡ true → IsErrOf result Disk ⊎ IsErrOf result Put
    failed_by fails =
        by_flight (IsErrOf result Disk ⊎ IsErrOf result Put) (λ flies. not_before e.failed (IsErrOf result Disk ⊎ IsErrOf result Put) works ((refusal.asks.reopen flies).only fails))
        (λ is same. absurd (true≢false (sym fails ∙ ap (λ (x : EngineState). x.failed) same ∙ works)))

    is_no_error : (error : EngineError) → result ≡ Ok Dropped → IsErrOf result error → ⊥
    is_no_error error is fails = let both : ◌≡◌ {A = Result Committed EngineError} (Ok Dropped) (Err error) = sym is ∙ fails in cc

    fails_by : FailsByDevices result f
    fails_by = record {
      only = failed_by;
      from_put = λ put. by_flight (f.failed ≡ true) (λ flies. (refusal.asks.reopen flies).from_put put) (λ is same. absurd (is_no_error Put is put));
    }

    reopens : IsErrOf result MustReopen → ⊥
    reopens is = by_flight ⊥ (λ flies. true≢false (sym ((refusal.asks.reopen flies).exactly.0 is) ∙ works)) (λ dropped same. is_no_error MustReopen dropped is)

    why : HasCause result f.flow tells held moment_of images f.most f.journal f.store new
    why =
        subst (λ (flow : Flow). HasCause result flow tells held moment_of images f.most f.journal f.store new) (sym alone.same.flow)
        (subst (λ (most : ℕ). HasCause result e.flow tells held moment_of images most f.journal f.store new) (sym alone.same.most) refusal.why)

    moments : AreGiven given e → AreGiven given f
    moments all =
        committed_given given done (moment_of new) e f all result entered.journal
        (⊎_elim (λ (none : IsLeftOut result e f). inl none.journal) (λ (so : StandsSo tells in_tells out_tells e (content_in (held old)) (left in_old) out.standing done).
        inr (subst given (sym (moment_of_work (kept_by e.store) so.0 so.1 done.given so.3.handed so.4.given)) (All-contains (λ (flight : InFlight). given flight.moment) e.out so.0 all.1 so.3.flying))) stands.stands)

    abbrev KeepBytes : Type 0
    KeepBytes = (files : List NamedFile) → AreAsListed in_tells files (left in_old) (names_to_come e) → AreAsListed in_tells files (left in_new) (names_to_come f)

    bytes : (r : Result Committed EngineError) → IsJournaled r done (moment_of new) e f → (IsTrue in_tells → IsInboxBehind r done.given.file (left in_old) (left in_new)) → OnOk r KeepBytes
    bytes (Ok (Acked entry at)) has behind = λ files all.
        subst (AreAsListed in_tells files (left in_new)) (sym has.2.names) (listed_without in_tells files (left in_old) (left in_new) done.given.file (names_to_come e) behind all)
    bytes (Ok Changed) has behind = λ files all. listed_still in_tells files (left in_old) (left in_new) (names_to_come e) (names_to_come f) behind has.0.1.names all
    bytes (Ok Dropped) has behind = λ files all. listed_still in_tells files (left in_old) (left in_new) (names_to_come e) (names_to_come f) behind has.0.1.names all
    bytes (Err error) has behind = tt

    pub committed_goes : (law : CommitPlaysOn tells held moment_of images)
        → (IsTrue tells → IsTrue in_tells → IsTrue out_tells → CommitsRun result tells held moment_of images done e f old new (left in_old) (left in_new) out now_out)
        → WorkGoesOn tells held moment_of images faults in_tells left in_faults out_tells standing puts out_faults time given s t
    committed_goes law run =
        goes_by tells held moment_of images in_tells left time given faults in_faults out_tells standing puts out_faults result s t none noted_is
        (order_by tells held moment_of images in_tells left time given result t noted_is usable failed_by why reopens refusal.known) alone.same
        (on_ok result _ (same_log e.store.log.number f.store.log.number alone.log)) alone.alone refusal.devices (omega arith) moments (bytes result entered.journal entered.inbox)
        (λ telling in_telling out_telling. law result in_tells out_tells done e f old new (left in_old) (left in_new) out now_out (time clock) ready works entered.journal stands (run telling in_telling out_telling) alone.same
        refusal.asks.exactly fails_by)
