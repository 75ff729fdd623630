-- How a run goes on by a checkout.
use Rattle.std.proofs.Common.{◌≡◌, ℕ, zero, suc, ◌≤◌, ◌+◌, Bool, false, true, cond, List, length, refl, sym, ap, subst, ◌∙◌, arith}
use Rattle.std.specs.Prelude.{Option, None, Some, Result, Ok, Err, IfErr, IfOk, MatchResult, nat_lt}
use Rattle.disk_trait.specs.Files.{Files}
use Rattle.flowfile_record.specs.NamedFile.{NamedFile}
use Rattle.kept_state.specs.declared.limit.Limit.{Limit as TheLimit}
use Rattle.machine_model.specs.Laws.{ReplayOfOneMore}
use Rattle.machine_model.specs.State.{Machine}
use Rattle.engine_queues.specs.Laws.{NamesGoBack, NamesLeave}
use Rattle.engine_choice.specs.Laws.{ChoicesAreSeen}
use Rattle.engine_choice.specs.declared.choice.Choice.{Choice}
use Rattle.engine_choice.specs.declared.choice.Ending.{Ending}
use Rattle.engine_choice.specs.declared.choice.Ending.TheVariants as ending
use Rattle.run_law.specs.Ending.{journal_full}
use Rattle.run_law.specs.Laws.{FaultsEnd, SparedRunsGoOn}
use Rattle.run_law.specs.Puts.{Outgoing, Start}
use Rattle.engine_steps.specs.Checkout.{ChecksOut, HasCheckedOut, checkout_in, checkout_of_ending, choice_in, due_or_next, ending_in, next_of, wait_or}
use Rattle.engine_steps.specs.Engine.{EngineState}
use Rattle.engine_steps.specs.Flights.{names_to_come}
use Rattle.engine_steps.specs.Ready.{Due as WhatIsDue, IsReadyInMemory, due_in}
use Rattle.engine_steps.specs.Running.{IsRunning}
use Rattle.engine_steps.specs.declared.checkout.Checkout.{Checkout}
use Rattle.engine_steps.specs.declared.checkout.Checkout.TheVariants as comes
use Rattle.engine_steps.specs.declared.error.EngineError.{EngineError}
use Rattle.engine_steps.specs.declared.error.EngineError.TheVariants.{Limit}
use Rattle.engine_steps.proofs.Goes.{stops_unmoved}
use Rattle.engine_steps.proofs.RunsOn.{spared_by_none}
use Rattle.session_history.specs.History.{Play, Takes}
use Rattle.session_history.specs.Runs.{RunsAsPlayed, ShowsWhatStands, StopsAsPlayed}
use Rattle.session_history.proofs.Moves.{take}
use Rattle.session_history.proofs.Playing.{history_so, played_waits, plays_by, shows_there}

-- ---- which session comes

no_session : (in_flight : ℕ) (end : Ending) (session : ℕ) → wait_or in_flight (checkout_of_ending end) ≡ comes.Session session → ⊥
no_session zero (ending.Rest until) session is = cc
no_session zero (ending.Blocked connection) session is = cc
no_session zero ending.Quiet session is = cc
no_session (suc others) end session is = cc

no_full : (in_flight : ℕ) (limit : TheLimit) (session : ℕ) → wait_or in_flight (comes.Limit limit) ≡ comes.Session session → ⊥
no_full zero limit session is = cc
no_full (suc others) limit session is = cc

with_room : (room : Bool) (next session in_flight : ℕ) (limit : TheLimit) → cond room (comes.Session next) (wait_or in_flight (comes.Limit limit)) ≡ comes.Session session → session ≡ next
with_room true next session in_flight limit is = let same : next ≡ session = cc in sym same
with_room false next session in_flight limit is = absurd (no_full in_flight limit session is)

by_choice : (entries in_flight most next session : ℕ) (choice : Option Choice) (end : Ending) → next_of entries in_flight most next choice end ≡ comes.Session session → session ≡ next
by_choice entries in_flight most next session None end is = absurd (no_session in_flight end session is)
by_choice entries in_flight most next session (Some choice) end is = with_room (nat_lt (entries + in_flight) most) next session in_flight (journal_full most) is

by_due : (due : Option WhatIsDue) (next : Checkout) (session : ℕ) → due_or_next due next ≡ comes.Session session → next ≡ comes.Session session
by_due None next session is = is
by_due (Some due) next session is = absurd cc

-- the session that comes has the next number
next_session_is : (e : EngineState) (moment session : ℕ) → comes.Session session ≡ checkout_in e moment → session ≡ e.next_session
next_session_is e moment session is =
    by_choice (length e.journal) (length e.out) e.most e.next_session session (choice_in e moment) (ending_in e moment)
    (by_due (due_in e moment) (next_of (length e.journal) (length e.out) e.most e.next_session (choice_in e moment) (ending_in e moment)) session (sym is))

module _ {D : Type 0} (tells : Bool) (held : D → Files) (moment_of : D → ℕ) (images : D → ℕ → Files → Type 0) (spared : SparedRunsGoOn moment_of images) where
  -- ---- a session is checked out

  module _ (moment session : ℕ) (e f : EngineState) (now : D) (left : List NamedFile) (out : Outgoing) (opened : Machine) (first : D) (start : Start) (time : ℕ) (run : IsRunning moment_of images e opened first start time now left out) where
    runs_out : HasCheckedOut moment session e f → IsRunning moment_of images f opened first start time now left out
    runs_out has =
        subst (λ (x : EngineState). IsRunning moment_of images x opened first start time now left out) (sym has.rest) (record {
          reached = run.reached;
          to = record { run = run.to.run; coming = run.to.coming ∙ sym has.coming ∙ ap (λ (x : EngineState). names_to_come x) has.rest; last = run.to.last };
        })

  module _ (law : ReplayOfOneMore) (choices : ChoicesAreSeen) (back : NamesGoBack) (leave : NamesLeave) (faults : FaultsEnd tells held moment_of images) (result : Result Checkout EngineError) (moment : ℕ) (e f : EngineState) (now : D) (left : List NamedFile) (out : Outgoing)
      (shows : ShowsWhatStands moment_of images e now) (ready : IsReadyInMemory e) (unlimited : IfErr result (λ error. (limit : TheLimit) → error ≡ Limit limit → ⊥))
      (opened : Machine) (first : D) (start : Start) (time : ℕ) (by : time ≤ moment) (was : RunsAsPlayed moment_of images e opened first start time now left out) where
    abbrev plays : RunsAsPlayed moment_of images e opened first start moment now left out
    plays = played_waits tells held moment_of images spared e opened first start time moment now left out by was

    abbrev PlaysIn : EngineState → Type 0
    PlaysIn x = RunsAsPlayed moment_of images x opened first start moment now left out

    checked_out : (answer : Checkout) → answer ≡ checkout_in e moment → ChecksOut (Ok answer) moment e f → PlaysIn f
    checked_out (comes.Session session) is has =
        let taken = take choices back leave moment session e f plays.reached ready (shows_there tells held moment_of images e opened first start moment now left out plays law shows) plays.at plays.by (next_session_is e moment session is) has in
        plays_by tells held moment_of images e opened first start moment now left out plays f (ap (λ (x : EngineState). x.flow) has.rest) moment now left out
        (runs_out moment session e f now left out opened first start moment plays.run has)
        (Takes (record { session = session; moment = moment; choice = has.choice; place = has.place })) taken (omega (arith, ap (λ (x : Play). x.moment) taken.moves.is))
    checked_out comes.Due is has = subst PlaysIn (sym has) plays
    checked_out (comes.Wait others) is has = subst PlaysIn (sym has) plays
    checked_out (comes.Limit limit) is has = subst PlaysIn (sym has) plays
    checked_out (comes.Rest until) is has = subst PlaysIn (sym has) plays
    checked_out (comes.Blocked connection) is has = subst PlaysIn (sym has) plays
    checked_out comes.Quiet is has = subst PlaysIn (sym has) plays

    pub checks_on : (one : Result Checkout EngineError) → result ≡ one → IfOk one (λ answer. answer ≡ checkout_in e moment) → ChecksOut one moment e f
        → MatchResult one (λ answer. PlaysIn f) (λ error. StopsAsPlayed error tells held moment_of images f opened first start moment now left out)
    checks_on (Ok answer) is next leaves = checked_out answer next leaves
    checks_on (Err error) is next leaves =
        subst (λ (x : EngineState). StopsAsPlayed error tells held moment_of images x opened first start moment now left out) (sym leaves) (record {
          next = None;
          stops = stops_unmoved tells held moment_of images e e opened first start time now now left out was.run refl refl faults refl
              (spared_by_none tells held moment_of images e.flow e.store.lot was.run.reached now was.run.to.run.holds) error
              (subst (λ (r : Result Checkout EngineError). IfErr r (λ error. (limit : TheLimit) → error ≡ Limit limit → ⊥)) is unlimited) moment by left out refl refl None;
          history = history_so tells held moment_of images e opened first start time now left out was moment by None tt;
        })
