-- How a run goes on by a call that tends, and how it stops there.
use Rattle.std.proofs.Common.{◌≡◌, inr, ⊎_elim, ℕ, ◌≤◌, Bool, false, List, refl, ap, subst, ◌∙◌, arith}
use Rattle.std.specs.Prelude.{Option, None, Some, Result, Ok, Err, IfSome, MatchResult, option_map}
use Rattle.disk_trait.specs.Files.{Files}
use Rattle.flowfile_record.specs.NamedFile.{NamedFile}
use Rattle.machine_model.specs.declared.flow.Flow.{Flow}
use Rattle.machine_model.specs.declared.journal.Step.{Step}
use Rattle.machine_model.specs.declared.journal.Step.TheVariants.{Expire}
use Rattle.machine_model.specs.Acknowledged.{steps}
use Rattle.machine_model.specs.Due.{due_expiry}
use Rattle.machine_model.specs.Laws.{ReplayOfOneMore}
use Rattle.machine_model.specs.State.{Machine}
use Rattle.machine_model.specs.Stepping.{replay}
use Rattle.engine_queues.specs.Listing.{names_left}
use Rattle.engine_queues.specs.Queues.{queue_seen}
use Rattle.run_law.specs.Puts.{Outgoing, Start}
use Rattle.engine_steps.specs.Engine.{EngineState}
use Rattle.engine_steps.specs.Flights.{given_back, names_to_come}
use Rattle.engine_steps.specs.Ready.{expiry_in}
use Rattle.engine_steps.specs.Running.{IsRunning, Stops, TendsRun, undone_step}
use Rattle.engine_steps.specs.Showing.{EngineShowsState}
use Rattle.engine_steps.specs.Tending.{HasExpired, HasTended, TendsAlone, TendsFirst}
use Rattle.engine_steps.specs.declared.error.EngineError.{EngineError}
use Rattle.engine_steps.specs.declared.error.EngineError.TheVariants.{Damaged, Disk, Inbox, Outbox, Put, Limit, MustReopen, NoSession, Memory}
use Rattle.engine_steps.specs.declared.tending.Tended.{Tended}
use Rattle.engine_steps.specs.declared.tending.Tended.TheVariants.{Expired, Checkpointed, Reclaimed, Nothing}
use Rattle.session_history.specs.History.{Expires, Play}
use Rattle.session_history.specs.Runs.{FailsByDevices, IsHistoryOf, MayBeMadeNext, RunsAsPlayed, ShowsWhatStands, StopsAsPlayed}
use Rattle.session_history.proofs.Calls.{works_behind}
use Rattle.session_history.proofs.Moves.{due_beside, expire, expired, expired_made, expires}
use Rattle.session_history.proofs.Playing.{history_by, history_still, leads_there, plays_by, plays_still, shows_there}

module _ {D : Type 0} (tells : Bool) (held : D → Files) (moment_of : D → ℕ) (images : D → ℕ → Files → Type 0) where
  -- ---- a call that tends

  module _ (law : ReplayOfOneMore) (result : Result Tended EngineError) (moment : ℕ) (e f : EngineState) (old new : D) (left : List NamedFile) (out : Outgoing) (shows : ShowsWhatStands moment_of images e old) (works : e.failed ≡ false)
      (fails : FailsByDevices result f) (tends : TendsFirst result moment_of images moment e f old new) (alone : TendsAlone result moment_of images e f old new) (runs : TendsRun result tells held moment_of images moment e f old new)
      (opened : Machine) (first : D) (start : Start) (time : ℕ) (by : time ≤ moment) (plays : RunsAsPlayed moment_of images e opened first start time old left out) where
    abbrev p : Play
    p = plays.reached

    later : p.moment ≤ moment
    later = omega (arith, plays.by, by)

    names : names_to_come f ≡ names_to_come e
    names = λ i. names_left (given_back (alone.out i) (alone.listing i))

    shown : EngineShowsState e p.machine
    shown = shows_there tells held moment_of images e opened first start time old left out plays law shows

    leads : replay e.flow opened (steps e.journal) ≡ Some p.machine
    leads = leads_there tells held moment_of images e opened first start time old left out plays law

    by_flow : (after : Machine) → replay f.flow opened (steps f.journal) ≡ Some after → replay e.flow opened (steps f.journal) ≡ Some after
    by_flow after is = subst (λ (flow : Flow). replay flow opened (steps f.journal) ≡ Some after) alone.same.flow is

    -- behind an answer
    tended_on : (answer : Tended) → HasTended (Ok answer) moment (moment_of new) e f → IsRunning moment_of images f opened first start moment new left out → RunsAsPlayed moment_of images f opened first start moment new left out
    tended_on Expired has run =
        let gone = expire law moment (Some (moment_of new)) e f opened run.reached p shown plays.at later has.0 alone.out alone.last leads (by_flow run.reached run.to.run.ran.replays) run.to.coming in
        plays_by tells held moment_of images e opened first start time old left out plays f alone.same.flow moment new left out run (Expires moment) gone (omega (arith, ap (λ (x : Play). x.moment) gone.moves.is))
    tended_on Checkpointed has run = plays_still tells held moment_of images e opened first start time old left out plays f alone.same.flow moment new left out run alone.out alone.last has.0 names by
    tended_on (Reclaimed answer) has run = plays_still tells held moment_of images e opened first start time old left out plays f alone.same.flow moment new left out run alone.out alone.last has.0 names by
    tended_on Nothing has run = plays_still tells held moment_of images e opened first start time old left out plays f alone.same.flow moment new left out run alone.out alone.last (ap (λ (x : EngineState). x.journal) has) names by

    -- the files that have expired
    may_expire : (due : Option (ℕ × List ℕ)) → due_expiry e.flow (queue_seen e.queues) moment ≡ due → IfSome (option_map (λ due. Expire due.0 due.1 moment) due) (MayBeMadeNext e.flow p moment)
    may_expire None is = tt
    may_expire (Some (connection, numbers)) is =
        inr (inr (record { moment = moment; later = later; by = omega arith; connection = connection; numbers = numbers; due = due_beside e p shown plays.at moment ∙ is; is = refl }))

    still : (stopped : Option Step) → f.journal ≡ e.journal → IfSome stopped (MayBeMadeNext e.flow p moment) → IsHistoryOf f.flow start.time moment opened (steps f.journal) stopped
    still stopped journal_is next = history_still tells held moment_of images e opened first start time old left out plays f alone.same.flow journal_is moment by stopped next

    -- the expiry was cut off
    cut_off : HasExpired moment None e f → Stops Disk tells held moment_of images f opened first start moment new left out None → IsHistoryOf f.flow start.time moment opened (steps f.journal) None
    cut_off gone stops =
        let ran = stops moment (omega arith) in
        let behind = by_flow ran.reached ran.ran.replays in
        let moved = expires law moment None e f opened ran.reached p shown plays.at later gone leads behind in
        history_by tells held moment_of images e opened first start time old left out plays f alone.same.flow (Expires moment) (expired law moment None e f opened ran.reached p shown plays.at later gone leads behind)
        moved (expired_made law moment None e f opened ran.reached p shown plays.at later gone leads behind) moment (omega (arith, ap (λ (x : Play). x.moment) moved.is))

    -- behind an error
    tended_history : (error : EngineError) → HasTended (Err error) moment (moment_of new) e f → Stops error tells held moment_of images f opened first start moment new left out (undone_step error (expiry_in e moment))
        → IsHistoryOf f.flow start.time moment opened (steps f.journal) (undone_step error (expiry_in e moment))
    tended_history Disk has stops =
        ⊎_elim (λ (same : f.journal ≡ e.journal). still None same tt) (λ (gone : HasExpired moment None e f). cut_off gone stops) has.0
    tended_history (Limit limit) has stops = still (expiry_in e moment) has.0 (may_expire (due_expiry e.flow (queue_seen e.queues) moment) refl)
    tended_history Put has stops = still (expiry_in e moment) has.0 (may_expire (due_expiry e.flow (queue_seen e.queues) moment) refl)
    tended_history (Damaged damage) has stops = still None has.0 tt
    tended_history Inbox has stops = still None has.0 tt
    tended_history Outbox has stops = still None has.0 tt
    tended_history MustReopen has stops = still None has.0 tt
    tended_history NoSession has stops = still None has.0 tt
    tended_history Memory has stops = still None has.0 tt

    pub tended : (one : Result Tended EngineError) → result ≡ one
        → MatchResult one (λ answer. RunsAsPlayed moment_of images f opened first start moment new left out) (λ error. StopsAsPlayed error tells held moment_of images f opened first start moment new left out)
    tended (Ok answer) is =
        tended_on answer (subst (λ (r : Result Tended EngineError). HasTended r moment (moment_of new) e f) is tends.done)
        (runs.goes_on (works_behind result answer f is fails) opened first start time left out by plays.run)
    tended (Err error) is =
        let stops = runs.stopped error is works opened first start time left out by plays.run in
        record {
          next = undone_step error (expiry_in e moment);
          stops = stops;
          history = tended_history error (subst (λ (r : Result Tended EngineError). HasTended r moment (moment_of new) e f) is tends.done) stops;
        }
