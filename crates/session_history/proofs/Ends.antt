-- How sessions end, and how a run does at which no session comes.
use Rattle.std.proofs.Common.{◌≡◌, ℕ, ◌≤◌, Bool, false, true, true≢false, List, refl, sym, ap, subst, ◌∙◌, arith}
use Rattle.std.specs.Prelude.{None, Option}
use Rattle.disk_trait.specs.Files.{Files}
use Rattle.flowfile_record.specs.NamedFile.{NamedFile}
use Rattle.kept_state.specs.declared.limit.Limit.{Limit as TheLimit}
use Rattle.machine_model.specs.declared.flow.Flow.{Flow}
use Rattle.machine_model.specs.declared.journal.Entry.{Entry}
use Rattle.machine_model.specs.declared.journal.Step.{Step}
use Rattle.machine_model.specs.Acknowledged.{steps}
use Rattle.machine_model.specs.State.{Machine}
use Rattle.run_law.specs.Going.{IsRunningAt}
use Rattle.run_law.specs.Puts.{Outgoing, Start}
use Rattle.run_law.specs.Run.{HasRun, IsAtLimit}
use Rattle.run_law.specs.Turns.{last_worker}
use Rattle.engine_steps.specs.Ending.{EndsSession, SessionHasEnded}
use Rattle.engine_steps.specs.Engine.{EngineState}
use Rattle.engine_steps.specs.Errors.{ended_by}
use Rattle.engine_steps.specs.Flights.{is_in_flight, without_session}
use Rattle.engine_steps.specs.Running.{IsLimited, Stops}
use Rattle.engine_steps.specs.declared.error.EngineError.{EngineError}
use Rattle.engine_steps.specs.declared.error.EngineError.TheVariants.{Damaged, Disk, Inbox, Outbox, Put, Limit, MustReopen, NoSession, Memory}
use Rattle.engine_steps.proofs.SessionEnded.{ended_runs}
use Rattle.session_history.specs.History.{Leaves, Play}
use Rattle.session_history.specs.Runs.{EndingPlaysOn, EndingStaysStopped, IsHistoryOf, RunsAsPlayed, StopsAsPlayed}
use Rattle.session_history.proofs.Moves.{leave}
use Rattle.session_history.proofs.Playing.{plays_by}

module _ {D : Type 0} (tells : Bool) (held : D → Files) (moment_of : D → ℕ) (images : D → ℕ → Files → Type 0) where
  -- ---- a session ends

  pub ending_plays_on : EndingPlaysOn moment_of images
  ending_plays_on session e f opened first start time now left out works ends plays = by (is_in_flight session e.out) refl
    where
      by : (b : Bool) → is_in_flight session e.out ≡ b → RunsAsPlayed moment_of images f opened first start time now left out
      by false is = subst (λ (x : EngineState). RunsAsPlayed moment_of images x opened first start time now left out) (sym (ends.unknown is)) plays
      by true is =
          let ended = ends.ended is works in
          let gone = leave session e f plays.reached is plays.at ended in
          plays_by tells held moment_of images e opened first start time now left out plays f (ap (λ (x : EngineState). x.flow) ended.rest) time now left out
          (ended_runs session e f ended moment_of images now left opened first start time out plays.run) (Leaves session) gone (omega (arith, plays.by, ap (λ (x : Play). x.moment) gone.moves.1))

  -- ---- .. behind an error

  module _ (opened : Machine) (first : D) (start : Start) (time : ℕ) (now : D) (left : List NamedFile) (out : Outgoing) where
    abbrev AreStopped : EngineError → EngineState → Type 0
    AreStopped error e = StopsAsPlayed error tells held moment_of images e opened first start time now left out

    -- another engine that has the run's flow, lot and journal
    stopped_as : (error : EngineError) (e f : EngineState) → f.flow ≡ e.flow → f.journal ≡ e.journal → (s : AreStopped error e) → Stops error tells held moment_of images f opened first start time now left out s.next → AreStopped error f
    stopped_as error e f flow_is journal_is s stops = record {
      next = s.next;
      stops = stops;
      history = subst (λ (flow : Flow). IsHistoryOf flow start.time time opened (steps f.journal) s.next) (sym flow_is)
          (subst (λ (j : List Entry). IsHistoryOf e.flow start.time time opened (steps j) s.next) (sym journal_is) s.history);
    }

    -- .. and that of a session that has ended
    limited_as : (limit : TheLimit) (e f : EngineState) (session : ℕ) → SessionHasEnded session e f → (next : Option Step) → IsLimited tells held moment_of images e limit opened first start time now left out next
        → IsLimited tells held moment_of images f limit opened first start time now left out next
    limited_as limit e f session ended next s = record {
      reached = s.reached;
      to = record {
        run = subst (λ (x : EngineState). IsRunningAt x.flow start time moment_of images x.store.lot opened first now x.journal s.reached left out) (sym ended.rest) s.to.run;
        coming = s.to.coming ∙ sym ended.coming;
        last = subst (λ (x : EngineState). x.last ≡ last_worker None (steps x.journal)) (sym ended.rest) s.to.last;
      };
      met = subst (λ (x : EngineState). IsAtLimit x.flow start time tells held moment_of images x.store.lot x.journal next s.reached limit now) (sym ended.rest) s.met;
    }

    abbrev HasRunAs : EngineError → (next : Option Step) → EngineState → Type 0
    HasRunAs error next e =
        (later : ℕ) → time ≤ later → HasRun e.flow (ended_by error) start later tells held moment_of images e.store.lot opened first now left out e.journal next

    stops_by_end : (session : ℕ) (error : EngineError) (e f : EngineState) → SessionHasEnded session e f → (next : Option Step) → Stops error tells held moment_of images e opened first start time now left out next
        → Stops error tells held moment_of images f opened first start time now left out next
    stops_by_end session (Limit limit) e f ended next s = limited_as limit e f session ended next s
    stops_by_end session (Damaged damage) e f ended next s = subst (HasRunAs (Damaged damage) next) (sym ended.rest) s
    stops_by_end session Disk e f ended next s = subst (HasRunAs Disk next) (sym ended.rest) s
    stops_by_end session Inbox e f ended next s = subst (HasRunAs Inbox next) (sym ended.rest) s
    stops_by_end session Outbox e f ended next s = subst (HasRunAs Outbox next) (sym ended.rest) s
    stops_by_end session Put e f ended next s = subst (HasRunAs Put next) (sym ended.rest) s
    stops_by_end session MustReopen e f ended next s = subst (HasRunAs MustReopen next) (sym ended.rest) s
    stops_by_end session NoSession e f ended next s = subst (HasRunAs NoSession next) (sym ended.rest) s
    stops_by_end session Memory e f ended next s = subst (HasRunAs Memory next) (sym ended.rest) s

    -- where the store must be opened anew the session is dropped
    stops_by_drop : (session : ℕ) (error : EngineError) (e : EngineState) → ((limit : TheLimit) → error ≡ Limit limit → ⊥) → (next : Option Step) → Stops error tells held moment_of images e opened first start time now left out next
        → Stops error tells held moment_of images (record e { out = without_session session e.out }) opened first start time now left out next
    stops_by_drop session (Limit limit) e none next s = absurd (none limit refl)
    stops_by_drop session (Damaged damage) e none next s = s
    stops_by_drop session Disk e none next s = s
    stops_by_drop session Inbox e none next s = s
    stops_by_drop session Outbox e none next s = s
    stops_by_drop session Put e none next s = s
    stops_by_drop session MustReopen e none next s = s
    stops_by_drop session NoSession e none next s = s
    stops_by_drop session Memory e none next s = s

    pub ending_stays : (session : ℕ) (error : EngineError) (e f : EngineState) → EndsSession session e f → ((limit : TheLimit) → error ≡ Limit limit → e.failed ≡ false) → AreStopped error e → AreStopped error f
    ending_stays session error e f ends works s = by (is_in_flight session e.out) e.failed refl refl
      where
        by : (flies failed : Bool) → is_in_flight session e.out ≡ flies → e.failed ≡ failed → AreStopped error f
        by false failed is so = subst (AreStopped error) (sym (ends.unknown is)) s
        by true false is so =
            let ended = ends.ended is so in
            stopped_as error e f (ap (λ (x : EngineState). x.flow) ended.rest) (ap (λ (x : EngineState). x.journal) ended.rest) s (stops_by_end session error e f ended s.next s.stops)
        by true true is so =
            subst (AreStopped error) (sym (ends.dropped so))
            (stopped_as error e (record e { out = without_session session e.out }) refl refl s (stops_by_drop session error e (λ limit limited. true≢false (sym so ∙ works limit limited)) s.next s.stops))

  pub ending_stays_stopped : EndingStaysStopped tells held moment_of images
  ending_stays_stopped session error e f opened first start time now left out ends works s = ending_stays opened first start time now left out session error e f ends works s
