-- How a run goes on by a call of its engine, which notes its refusal.
use Rattle.std.proofs.Common.{◌≡◌, ◌⊎◌, inl, inr, ⊎_elim, ℕ, ◌≤◌, Bool, true, false, List, refl, sym, ap, subst, ◌∙◌}
use Rattle.std.specs.Prelude.{Option, None, Some, Result, Ok, Err, IsErrOf, IsTrue, MatchResult, OnOk}
use Rattle.disk_trait.specs.Files.{Files}
use Rattle.flowfile_record.specs.NamedFile.{NamedFile}
use Rattle.machine_model.specs.State.{Machine}
use Rattle.run_law.specs.Puts.{Outgoing, Start, outgoing}
use Rattle.run_law.specs.Work.{IsNoEarlier, WritesLog}
use Rattle.engine_steps.specs.Engine.{EngineState, IsOfSameRun}
use Rattle.engine_steps.specs.Errors.{CountsEachFault, HasCause}
use Rattle.engine_steps.specs.Flights.{names_to_come}
use Rattle.engine_steps.specs.Ready.{IsUsableWith}
use Rattle.engine_steps.specs.declared.error.EngineError.{EngineError}
use Rattle.engine_steps.specs.declared.error.EngineError.TheVariants.{Damaged, Disk, Limit, MustReopen, NoSession, Put}
use Rattle.session_history.specs.Runs.{PlaysOn, RunsAsPlayed, StopsAsPlayed}
use Rattle.flow_workers.specs.Going.{AreGiven, WorkGoesOn, DeskIsInOrder, IsPlayedTo}
use Rattle.flow_workers.specs.Jobs.{AreAsListed}
use Rattle.flow_workers.specs.Seen.{Seen, newly_noted, stopped_by}
use Rattle.flow_workers.specs.declared.cause.Cause.{Cause}
use Rattle.flow_workers.specs.declared.cause.Cause.TheVariants.{Stopped}
use Rattle.flow_workers.proofs.Noted.{counts_by, it_answered, it_refused, no_block, no_quiet, none_or_some, went_well}

module _ {D : Type 0} (tells : Bool) (held : D → Files) (moment_of : D → ℕ) (images : D → ℕ → Files → Type 0) (e : EngineState) (opened : Machine) (first : D) (start : Start) (time : ℕ) (now : D) (left : List NamedFile) (out : Outgoing) where
  -- behind an answer it goes on, and behind an error it has stopped
  pub played_by : {A : Type 0} (result : Result A EngineError)
      → MatchResult result (λ answer. RunsAsPlayed moment_of images e opened first start time now left out) (λ error. StopsAsPlayed error tells held moment_of images e opened first start time now left out)
      → IsPlayedTo (stopped_by result) tells held moment_of images e opened first start time now left out
  played_by (Ok answer) on = on
  played_by (Err error) on = on

module _ {D I O C : Type 0} (tells : Bool) (held : D → Files) (moment_of : D → ℕ) (images : D → ℕ → Files → Type 0) (in_tells : Bool) (left : I → List NamedFile) (time : C → ℕ) (given : ℕ → Type 0) where
  abbrev InOrder : Seen D I O C → Type 0
  InOrder t = DeskIsInOrder tells held moment_of images in_tells left time given t

  -- an engine has not failed until a cause is noted
  pub works_on : (s : Seen D I O C) → InOrder s → s.cause ≡ None → s.engine.failed ≡ false
  works_on s order none = by s.engine.failed refl
    where
      by : (b : Bool) → s.engine.failed ≡ b → s.engine.failed ≡ false
      by false is = is
      by true is = ⊎_elim (λ (c : s.cause ≡ Some (Stopped Disk)). none_or_some (Stopped Disk) (sym none ∙ c)) (λ (c : s.cause ≡ Some (Stopped Put)). none_or_some (Stopped Put) (sym none ∙ c)) (order.failed is)

  pub order_by : {A : Type 0} (result : Result A EngineError) (t : Seen D I O C) → t.cause ≡ stopped_by result → IsUsableWith tells held moment_of images in_tells (left t.inbox) t.engine t.disk
      → (t.engine.failed ≡ true → IsErrOf result Disk ⊎ IsErrOf result Put) → HasCause result t.engine.flow tells held moment_of images t.engine.most t.engine.journal t.engine.store t.disk → (IsErrOf result MustReopen → ⊥)
      → (IsErrOf result NoSession → ⊥) → InOrder t
  order_by result t noted_is usable failed why works known = record {
    usable = usable;
    failed = λ fails. ⊎_elim (λ (is : IsErrOf result Disk). inl (noted_is ∙ ap stopped_by is)) (λ (is : IsErrOf result Put). inr (noted_is ∙ ap stopped_by is)) (failed fails);
    limited = λ limit is. why.limited limit (it_answered result (Limit limit) (sym noted_is ∙ is));
    damaged = λ damage is. why.damaged damage (it_answered result (Damaged damage) (sym noted_is ∙ is));
    works = λ is. works (it_answered result MustReopen (sym noted_is ∙ is));
    known = λ is. known (it_answered result NoSession (sym noted_is ∙ is));
    rests = ⊎_elim (λ is. no_quiet result (sym noted_is ∙ is)) (λ is. no_block result is.0 (sym noted_is ∙ is.1));
  }

  module _ (faults : D → ℕ) (in_faults : I → ℕ) (out_tells : Bool) (standing : O → List ℕ → Option (List ℕ)) (puts : O → List NamedFile) (out_faults : O → ℕ) where
    abbrev Goes : (s t : Seen D I O C) → Type 0
    Goes s t = WorkGoesOn tells held moment_of images faults in_tells left in_faults out_tells standing puts out_faults time given s t

    abbrev KeepBytes : (s t : Seen D I O C) → Type 0
    KeepBytes s t = (files : List NamedFile) → AreAsListed in_tells files (left s.inbox) (names_to_come s.engine) → AreAsListed in_tells files (left t.inbox) (names_to_come t.engine)

    pub goes_by : {A : Type 0} (result : Result A EngineError) (s t : Seen D I O C) → s.cause ≡ None → t.cause ≡ stopped_by result → InOrder t → IsOfSameRun s.engine t.engine
        → OnOk result (IsNoEarlier s.engine.store.log.number t.engine.store.log.number) → WritesLog moment_of images s.engine.store.log.number s.disk t.disk
        → CountsEachFault result (faults s.disk) (faults t.disk) (in_faults s.inbox) (in_faults t.inbox) (out_faults s.outbox) (out_faults t.outbox) → time s.clock ≤ time t.clock → (AreGiven given s.engine → AreGiven given t.engine)
        → OnOk result (KeepBytes s t)
        → (IsTrue tells → IsTrue in_tells → IsTrue out_tells
        → PlaysOn result tells held moment_of images s.engine t.engine (time t.clock) s.disk t.disk (left s.inbox) (left t.inbox) (outgoing standing puts s.outbox) (outgoing standing puts t.outbox))
        → Goes s t
    goes_by {A} result s t none noted_is order same log alone devices later moments bytes plays = record {
      run = λ telling in_telling out_telling opened first start was.
          let before = subst (λ (o : Option Cause). IsPlayedTo o tells held moment_of images s.engine opened first start (time s.clock) s.disk (left s.inbox) (outgoing standing puts s.outbox)) none was in
          subst (λ (o : Option Cause). IsPlayedTo o tells held moment_of images t.engine opened first start (time t.clock) t.disk (left t.inbox) (outgoing standing puts t.outbox)) (sym noted_is)
          (played_by tells held moment_of images t.engine opened first start (time t.clock) t.disk (left t.inbox) (outgoing standing puts t.outbox) result
          (plays telling in_telling out_telling opened first start (time s.clock) later before));
      order = order;
      stands = λ cause is. none_or_some cause (sym none ∙ is);
      same = same;
      log = λ is. went_well result (IsNoEarlier s.engine.store.log.number t.engine.store.log.number) (sym noted_is ∙ is) log;
      alone = alone;
      devices = counts_by result (newly_noted s.cause t.cause) (faults s.disk) (faults t.disk) (in_faults s.inbox) (in_faults t.inbox) (out_faults s.outbox) (out_faults t.outbox) refused devices;
      later = later;
      moments = moments;
      bytes = λ is. went_well result (KeepBytes s t) (sym noted_is ∙ is) bytes;
    }
      where
        refused : (error : EngineError) → IsErrOf (newly_noted s.cause t.cause) error → IsErrOf result error
        refused error is = it_refused result error (subst (λ (c : Option Cause). IsErrOf (newly_noted None c) error) noted_is (subst (λ (c : Option Cause). IsErrOf (newly_noted c t.cause) error) none is))
