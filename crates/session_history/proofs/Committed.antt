-- How a run goes on by a session that is committed, whatever the work is, and how it stops there.
use Rattle.std.proofs.Common.{◌≡◌, ◌⊎◌, ◌↔◌, inl, inr, ⊎_elim, ℕ, ◌≤◌, Bool, false, true, true≢false, List, [], ◌∷◌, ◌++◌, refl, sym, ap, subst, ◌∙◌, arith}
use Rattle.std.proofs.lemmas.List.Elements.{All-contains}
use Rattle.std.specs.Prelude.{Contains, Option, None, Some, Result, Ok, Err, IfSome, IsErrOf, MatchResult}
use Rattle.disk_trait.specs.Files.{Files}
use Rattle.flowfile_record.specs.NamedFile.{NamedFile}
use Rattle.machine_model.specs.declared.flow.Flow.{Flow}
use Rattle.machine_model.specs.declared.journal.Step.{Step}
use Rattle.machine_model.specs.Acknowledged.{steps}
use Rattle.machine_model.specs.Laws.{ReplayOfOneMore}
use Rattle.machine_model.specs.State.{Machine}
use Rattle.machine_model.specs.Stepping.{replay}
use Rattle.content_repo.specs.Claims.{content_in}
use Rattle.run_law.specs.Laws.{SparedRunsGoOn}
use Rattle.run_law.specs.Puts.{Outgoing, Start}
use Rattle.engine_session.specs.Done.{step_done}
use Rattle.engine_session.specs.declared.done.Done.{Done}
use Rattle.engine_steps.specs.Commit.{IsJournaled, IsLeftOut, StandsSo, TakesWhatStands}
use Rattle.engine_steps.specs.Engine.{EngineState, IsOfSameRun}
use Rattle.engine_steps.specs.Flights.{IsCheckedOutWithin, is_in_flight}
use Rattle.engine_steps.specs.Ready.{IsReadyInMemory}
use Rattle.engine_steps.specs.Running.{CommitsRun, IsRunning, Stops, undone_step}
use Rattle.engine_steps.specs.declared.commit.Committed.{Committed}
use Rattle.engine_steps.specs.declared.commit.Committed.TheVariants.{Acked, Changed, Dropped}
use Rattle.engine_steps.specs.declared.error.EngineError.{EngineError}
use Rattle.engine_steps.specs.declared.error.EngineError.TheVariants.{Damaged, Disk, Inbox, Outbox, Put, Limit, MustReopen, NoSession, Memory}
use Rattle.engine_steps.specs.declared.flight.InFlight.{InFlight}
use Rattle.engine_steps.proofs.Flights.{found_flies}
use Rattle.session_history.specs.History.{Leaves, Makes, Play}
use Rattle.session_history.specs.Runs.{FailsByDevices, IsHistoryOf, MayBeMadeNext, RunsAsPlayed, StopsAsPlayed}
use Rattle.session_history.proofs.Calls.{longer, works_behind}
use Rattle.session_history.proofs.Moves.{leave, made_behind, make, makes, step_is, steps_made}
use Rattle.session_history.proofs.Playing.{IsWithin, history_by, history_still, leads_there, played_waits, plays_by, plays_still, within_play}

module _ {D : Type 0} (tells : Bool) (held : D → Files) (moment_of : D → ℕ) (images : D → ℕ → Files → Type 0) where
  -- ---- a session is committed

  module _ (law : ReplayOfOneMore) (spared : SparedRunsGoOn moment_of images) (result : Result Committed EngineError) (in_tells out_tells : Bool) (done : Done) (e f : EngineState) (old new : D) (left now_left : List NamedFile) (out now_out : Outgoing) (at : ℕ)
      (ready : IsReadyInMemory e) (works : e.failed ≡ false) (journaled : IsJournaled result done (moment_of new) e f) (takes : TakesWhatStands result tells in_tells out_tells held moment_of images done e f old new left out now_out)
      (runs : CommitsRun result tells held moment_of images done e f old new left now_left out now_out) (same : IsOfSameRun e f) (unknown : (result ≡ Ok Dropped) ↔ (is_in_flight done.session e.out ≡ false)) (fails : FailsByDevices result f)
      (opened : Machine) (first : D) (start : Start) (time : ℕ) (by : time ≤ at) (was : RunsAsPlayed moment_of images e opened first start time old left out) where
    abbrev plays : RunsAsPlayed moment_of images e opened first start at old left out
    plays = played_waits tells held moment_of images spared e opened first start time at old left out by was

    abbrev p : Play
    p = plays.reached

    leads : replay e.flow opened (steps e.journal) ≡ Some p.machine
    leads = leads_there tells held moment_of images e opened first start at old left out plays law

    by_flow : (after : Machine) → replay f.flow opened (steps f.journal) ≡ Some after → replay e.flow opened (steps f.journal) ≡ Some after
    by_flow after is = subst (λ (flow : Flow). replay flow opened (steps f.journal) ≡ Some after) same.flow is

    within : IsCheckedOutWithin start.time at done.session e.out
    within flight found =
        let all = within_play e.flow start.time opened plays.moves p plays.played in
        let has : Contains p.out flight = subst (λ (out : List InFlight). Contains out flight) (sym plays.at.out) (found_flies done.session e.out flight found).0 in
        let it = All-contains (IsWithin start.time p.moment) p.out flight all.1 has in
        (it.0, omega (arith, it.1, plays.by))

    -- an entry more is that of a job that stands
    stood : (acked : Option ℕ) → f.journal ≡ e.journal ++ record { step = step_done done; acked = acked } ∷ [] → StandsSo tells in_tells out_tells e (content_in (held old)) left out.standing done
    stood acked grown =
        ⊎_elim (λ (none : IsLeftOut result e f). absurd (longer e.journal (record { step = step_done done; acked = acked }) (sym grown ∙ none.journal)))
        (λ (so : StandsSo tells in_tells out_tells e (content_in (held old)) left out.standing done). so) takes.stands

    -- behind an answer
    committed_on : (answer : Committed) → result ≡ Ok answer → IsJournaled (Ok answer) done (moment_of new) e f → IsRunning moment_of images f opened first start at new now_left now_out
        → RunsAsPlayed moment_of images f opened first start at new now_left now_out
    committed_on (Acked entry acked) is has run =
        let made = make law tells in_tells out_tells (content_in (held old)) left out.standing done acked e f opened run.reached p ready plays.at (stood (Some acked) has.2.journal) has.2 leads (by_flow run.reached run.to.run.ran.replays) run.to.coming in
        plays_by tells held moment_of images e opened first start at old left out plays f same.flow at new now_left now_out run (Makes done.session done.given.there) made (omega (arith, plays.by, ap (λ (x : Play). x.moment) made.moves.is))
    committed_on Changed is has run =
        let left_behind = leave done.session e f p (flies (is_in_flight done.session e.out) refl) plays.at has.1 in
        plays_by tells held moment_of images e opened first start at old left out plays f same.flow at new now_left now_out run (Leaves done.session) left_behind (omega (arith, plays.by, ap (λ (x : Play). x.moment) left_behind.moves.1))
      where
        flies : (b : Bool) → is_in_flight done.session e.out ≡ b → is_in_flight done.session e.out ≡ true
        flies true so = so
        flies false so = let both : ◌≡◌ {A = Result Committed EngineError} (Ok Changed) (Ok Dropped) = sym is ∙ unknown.1 so in absurd cc
    committed_on Dropped is has run = plays_still tells held moment_of images e opened first start at old left out plays f same.flow at new now_left now_out run has.1 has.0.1.last has.0.0 has.0.1.names (omega arith)

    still : (stopped : Option Step) → f.journal ≡ e.journal → IfSome stopped (MayBeMadeNext e.flow p at) → IsHistoryOf f.flow start.time at opened (steps f.journal) stopped
    still stopped journal_is next = history_still tells held moment_of images e opened first start at old left out plays f same.flow journal_is at (omega arith) stopped next

    -- the session is in flight, and may be made next
    may_be_made : StandsSo tells in_tells out_tells e (content_in (held old)) left out.standing done → MayBeMadeNext e.flow p at (step_done done)
    may_be_made so = inl (record {
      flight = so.0;
      flying = subst (λ (out : List InFlight). Contains out so.0) (sym plays.at.out) so.3.flying;
      there = done.given.there;
      is = step_is e so.0 so.1 done so.3.handed so.4;
    })

    entered : (acked : Option ℕ) → f.journal ≡ e.journal ++ record { step = step_done done; acked = acked } ∷ [] → (after : Machine) → replay f.flow opened (steps f.journal) ≡ Some after
        → IsHistoryOf f.flow start.time at opened (steps f.journal) None
    entered acked grown after leads_behind =
        let so = stood acked grown in
        let behind = by_flow after leads_behind in
        let moved = makes law tells in_tells out_tells e f (content_in (held old)) left out.standing done acked opened after p ready plays.at so grown leads behind in
        history_by tells held moment_of images e opened first start at old left out plays f same.flow (Makes done.session done.given.there)
        (made_behind law tells in_tells out_tells e f (content_in (held old)) left out.standing done acked opened after p ready plays.at so grown leads behind) moved
        (steps_made law tells in_tells out_tells e f (content_in (held old)) left out.standing done acked opened after p ready plays.at so grown leads behind) at (omega (arith, plays.by, ap (λ (x : Play). x.moment) moved.is))

    -- behind an error
    committed_history : (error : EngineError) → result ≡ Err error → IsJournaled (Err error) done (moment_of new) e f
        → Stops error tells held moment_of images f opened first start at new now_left now_out (undone_step error (Some (step_done done)))
        → IsHistoryOf f.flow start.time at opened (steps f.journal) (undone_step error (Some (step_done done)))
    committed_history Disk is (inl none) stops = still None none.0.0 tt
    committed_history Disk is (inr cut) stops = let ran = stops at (omega arith) in entered None cut.0 ran.reached ran.ran.replays
    committed_history Inbox is (inl none) stops = still None none.0.0 tt
    committed_history Inbox is (inr acked) stops = let ran = stops at (omega arith) in entered (Some (moment_of new)) acked.journal ran.reached ran.ran.replays
    committed_history Put is has stops = still (Some (step_done done)) has.0.0 (⊎_elim (λ (none : IsLeftOut result e f). absurd (unput (none.failed (fails.from_put is)))) may_be_made takes.stands)
      where
        unput : (e.failed ≡ true) ⊎ IsErrOf result Disk → ⊥
        unput (inl failed) = true≢false (sym failed ∙ works)
        unput (inr disk) = let both : ◌≡◌ {A = Result Committed EngineError} (Err Put) (Err Disk) = sym is ∙ disk in cc
    committed_history (Limit limit) is has stops = still (Some (step_done done)) has.0.0 (⊎_elim (λ (none : IsLeftOut result e f). absurd (none.limit limit is)) may_be_made takes.stands)
    committed_history (Damaged damage) is has stops = still None has.0.0 tt
    committed_history Outbox is has stops = still None has.0.0 tt
    committed_history MustReopen is has stops = still None has.0.0 tt
    committed_history NoSession is has stops = still None has.0.0 tt
    committed_history Memory is has stops = still None has.0.0 tt

    pub committed : (one : Result Committed EngineError) → result ≡ one
        → MatchResult one (λ answer. RunsAsPlayed moment_of images f opened first start at new now_left now_out) (λ error. StopsAsPlayed error tells held moment_of images f opened first start at new now_left now_out)
    committed (Ok answer) is =
        committed_on answer is (subst (λ (r : Result Committed EngineError). IsJournaled r done (moment_of new) e f) is journaled)
        (runs.goes_on (works_behind result answer f is fails) (λ inbox. let both : ◌≡◌ {A = Result Committed EngineError} (Ok answer) (Err Inbox) = sym is ∙ inbox in absurd cc) opened first start at within plays.run)
    committed (Err error) is =
        let stops = runs.stopped error is works opened first start at within plays.run in
        record {
          next = undone_step error (Some (step_done done));
          stops = stops;
          history = committed_history error is (subst (λ (r : Result Committed EngineError). IsJournaled r done (moment_of new) e f) is journaled) stops;
        }
