-- How a run goes on by each call of its engine, as its sessions are played.
use Rattle.std.proofs.Common.{◌≡◌, ℕ, ◌≤◌, Bool, List, [], ◌∷◌, ◌++◌, refl, sym, ap, subst, ◌∙◌, arith}
use Rattle.std.proofs.lemmas.List.Elements.{All-filter, All-nil, All-push, All-weaker}
use Rattle.std.specs.Prelude.{All, Option, None, Some, IfSome}
use Rattle.disk_trait.specs.Files.{Files}
use Rattle.flowfile_record.specs.NamedFile.{NamedFile}
use Rattle.machine_model.specs.declared.flow.Flow.{Flow}
use Rattle.machine_model.specs.declared.journal.Entry.{Entry}
use Rattle.machine_model.specs.declared.journal.Step.{Step}
use Rattle.machine_model.specs.Acknowledged.{steps}
use Rattle.machine_model.specs.Laws.{ReplayOfOneMore}
use Rattle.machine_model.specs.State.{Machine}
use Rattle.machine_model.specs.Stepping.{replay}
use Rattle.store_core.specs.Store.{StoreState}
use Rattle.engine_choice.specs.Choice.{coming_of}
use Rattle.run_law.specs.Laws.{FaultsEnd, SparedRunsGoOn}
use Rattle.run_law.specs.Puts.{Outgoing, Start}
use Rattle.run_law.proofs.Turns.{since_start}
use Rattle.engine_steps.specs.Engine.{EngineState}
use Rattle.engine_steps.specs.Flights.{names_to_come}
use Rattle.engine_steps.specs.Opening.{IsOpened}
use Rattle.engine_steps.specs.Running.{IsRunning}
use Rattle.engine_steps.specs.Showing.{EngineShowsState}
use Rattle.engine_steps.specs.declared.error.EngineError.TheVariants.{Memory}
use Rattle.engine_steps.specs.declared.flight.InFlight.{InFlight}
use Rattle.engine_steps.proofs.RunsOn.{runs_idle, stops_wanting}
use Rattle.session_history.specs.History.{Expires, IsMove, IsPlayed, Leaves, Makes, Move, Play, Takes, unplayed}
use Rattle.session_history.specs.Laws.{GoesOnBy}
use Rattle.session_history.specs.Runs.{IsHistoryOf, MayBeMadeNext, RunsAsPlayed, ShowsWhatStands, StopsAsPlayed}
use Rattle.session_history.proofs.Moves.{begin, stay}
use Rattle.session_history.proofs.Played.{are_replays, goes_on}

-- ---- each session in flight was checked out within the history

abbrev pub IsWithin : (since until : ℕ) → InFlight → Type 0
IsWithin since until flight = (since ≤ flight.moment) × (flight.moment ≤ until)

abbrev pub AreWithin : (since : ℕ) → Play → Type 0
AreWithin since p = (since ≤ p.moment) × All (IsWithin since p.moment) p.out

module _ (flow : Flow) (since : ℕ) where
  within_by : (p q : Play) (move : Move) → AreWithin since p → IsMove flow p move q → AreWithin since q
  within_by p q (Takes flight) within moved =
      let by : since ≤ flight.moment = omega (arith, within.0, moved.later) in
      subst (AreWithin since) (sym moved.is) (
        by,
        All-push (IsWithin since flight.moment) p.out flight
            (All-weaker (IsWithin since p.moment) (IsWithin since flight.moment) (λ f is. (is.0, omega (arith, is.1, moved.later))) p.out within.1)
            (by, omega arith),
      )
  within_by p q (Leaves session) within moved =
      subst (AreWithin since) (sym moved.1) (within.0, All-filter _ (IsWithin since p.moment) p.out within.1)
  within_by p q (Makes session there) within moved =
      subst (AreWithin since) (sym moved.is) (within.0, All-filter _ (IsWithin since p.moment) p.out within.1)
  within_by p q (Expires moment) within moved =
      subst (AreWithin since) (sym moved.is) (
        omega (arith, within.0, moved.later),
        All-weaker (IsWithin since p.moment) (IsWithin since moment) (λ f is. (is.0, omega (arith, is.1, moved.later))) p.out within.1,
      )

  within_all : (p q : Play) (moves : List Move) → AreWithin since p → IsPlayed flow p moves q → AreWithin since q
  within_all p q [] within played = subst (AreWithin since) played within
  within_all p q (move ∷ moves) within played = within_all played.0 q moves (within_by p played.0 move within played.1) played.2

  pub within_play : (opened : Machine) (moves : List Move) (q : Play) → IsPlayed flow (unplayed opened since) moves q → AreWithin since q
  within_play opened moves q played = within_all (unplayed opened since) q moves (omega arith, All-nil (IsWithin since since)) played

module _ {D : Type 0} (tells : Bool) (held : D → Files) (moment_of : D → ℕ) (images : D → ℕ → Files → Type 0) where
  -- ---- at one moment

  module _ (e : EngineState) (opened : Machine) (first : D) (start : Start) (time : ℕ) (now : D) (left : List NamedFile) (out : Outgoing) (plays : RunsAsPlayed moment_of images e opened first start time now left out) where
    -- the journal leads to the machine of the history
    pub same_machine : ReplayOfOneMore → plays.reached.machine ≡ plays.run.reached
    same_machine law =
        let both : Some plays.reached.machine ≡ Some plays.run.reached =
        sym (are_replays law e.flow opened start.time plays.moves plays.reached plays.played) ∙ ap (replay e.flow opened) plays.at.made ∙ plays.run.to.run.ran.replays in
        cc

    pub leads_there : ReplayOfOneMore → replay e.flow opened (steps e.journal) ≡ Some plays.reached.machine
    leads_there law = plays.run.to.run.ran.replays ∙ ap Some (sym (same_machine law))

    pub shows_there : ReplayOfOneMore → ShowsWhatStands moment_of images e now → EngineShowsState e plays.reached.machine
    shows_there law shows = subst (EngineShowsState e) (sym (same_machine law)) (shows plays.run.reached plays.run.to.run.holds)

    -- so its history is that of its journal
    pub history_so : (later : ℕ) → time ≤ later → (stopped : Option Step) → IfSome stopped (MayBeMadeNext e.flow plays.reached later) → IsHistoryOf e.flow start.time later opened (steps e.journal) stopped
    history_so later by stopped next = record {
      moves = plays.moves;
      reached = plays.reached;
      played = plays.played;
      made = plays.at.made;
      by = omega (arith, plays.by, by);
      next = next;
    }

    -- and of a journal that is as it was
    pub history_still : (f : EngineState) → f.flow ≡ e.flow → f.journal ≡ e.journal → (later : ℕ) → time ≤ later → (stopped : Option Step) → IfSome stopped (MayBeMadeNext e.flow plays.reached later)
        → IsHistoryOf f.flow start.time later opened (steps f.journal) stopped
    history_still f flow_is journal_is later by stopped next =
        subst (λ (flow : Flow). IsHistoryOf flow start.time later opened (steps f.journal) stopped) (sym flow_is)
        (subst (λ (j : List Entry). IsHistoryOf e.flow start.time later opened (steps j) stopped) (sym journal_is) (history_so later by stopped next))

    -- .. or has the step of one move more
    pub history_by : (f : EngineState) → f.flow ≡ e.flow → (move : Move) (behind : Play) → IsMove e.flow plays.reached move behind → behind.made ≡ steps f.journal → (later : ℕ) → behind.moment ≤ later
        → IsHistoryOf f.flow start.time later opened (steps f.journal) None
    history_by f flow_is move behind moved made later by =
        subst (λ (flow : Flow). IsHistoryOf flow start.time later opened (steps f.journal) None) (sym flow_is) (record {
          moves = plays.moves ++ move ∷ [];
          reached = behind;
          played = goes_on e.flow (unplayed opened start.time) plays.reached behind plays.moves move plays.played moved;
          made = made;
          by = by;
          next = tt;
        })

    -- ---- the run behind a call

    module _ (f : EngineState) (flow_is : f.flow ≡ e.flow) (later : ℕ) (new : D) (now_left : List NamedFile) (now_out : Outgoing) (run : IsRunning moment_of images f opened first start later new now_left now_out) where
      -- by one move more
      pub plays_by : (move : Move) → (by : GoesOnBy e.flow plays.reached move f) → by.behind.moment ≤ later → RunsAsPlayed moment_of images f opened first start later new now_left now_out
      plays_by move by le = record {
        run = run;
        moves = plays.moves ++ move ∷ [];
        reached = by.behind;
        played = subst (λ (flow : Flow). IsPlayed flow (unplayed opened start.time) (plays.moves ++ move ∷ []) by.behind) (sym flow_is)
            (goes_on e.flow (unplayed opened start.time) plays.reached by.behind plays.moves move plays.played by.moves);
        at = by.at;
        by = le;
      }

      -- by none
      pub plays_still : f.out ≡ e.out → f.last ≡ e.last → f.journal ≡ e.journal → names_to_come f ≡ names_to_come e → time ≤ later → RunsAsPlayed moment_of images f opened first start later new now_left now_out
      plays_still out_is last_is journal_is names_are by = record {
        run = run;
        moves = plays.moves;
        reached = plays.reached;
        played = subst (λ (flow : Flow). IsPlayed flow (unplayed opened start.time) plays.moves plays.reached) (sym flow_is) plays.played;
        at = stay e f plays.reached out_is last_is journal_is names_are plays.at;
        by = omega (arith, plays.by, by);
      }

  -- ---- time goes by

  pub played_waits : SparedRunsGoOn moment_of images → (e : EngineState) (opened : Machine) (first : D) (start : Start) (time later : ℕ) (now : D) (left : List NamedFile) (out : Outgoing) → time ≤ later
      → RunsAsPlayed moment_of images e opened first start time now left out → RunsAsPlayed moment_of images e opened first start later now left out
  played_waits law e opened first start time later now left out by plays =
      plays_still e opened first start time now left out plays e refl later now left out (runs_idle tells held moment_of images e opened first now start time later by left out plays.run law) refl refl refl refl by

  -- ---- where it begins

  pub opened_plays : (flow : Flow) (store : StoreState) (most checkpoint : ℕ) (e : EngineState) (opened : Machine) (first : D) (start : Start) (time : ℕ) (now : D) (left : List NamedFile) (out : Outgoing)
      → IsOpened flow store most checkpoint e → IsRunning moment_of images e opened first start time now left out → RunsAsPlayed moment_of images e opened first start time now left out
  opened_plays flow store most checkpoint e opened first start time now left out is run =
      let both : Some opened ≡ Some run.reached = sym (ap (λ (j : List Entry). replay e.flow opened (steps j)) is.journal) ∙ run.to.run.ran.replays in
      let same : opened ≡ run.reached = cc in
      record {
        run = run;
        moves = [];
        reached = unplayed opened start.time;
        played = refl;
        at = begin flow store most checkpoint e opened start.time is (ap (λ (m : Machine). coming_of m.world) same ∙ run.to.coming);
        by = since_start start.time time (steps e.journal) run.to.run.within;
      }

  -- ---- want of memory

  pub played_wants : FaultsEnd tells held moment_of images → (e : EngineState) (opened : Machine) (first : D) (start : Start) (time : ℕ) (now : D) (left : List NamedFile) (out : Outgoing)
      → RunsAsPlayed moment_of images e opened first start time now left out → StopsAsPlayed Memory tells held moment_of images e opened first start time now left out
  played_wants law e opened first start time now left out plays = record {
    next = None;
    stops = stops_wanting tells held moment_of images e opened first now start time time (omega arith) left out plays.run law Memory refl None;
    history = history_so e opened first start time now left out plays time (omega arith) None tt;
  }
