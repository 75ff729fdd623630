-- What stays of an engine where a session has ended.
use Rattle.std.proofs.Common.{◌≡◌, ℕ, Bool, true, false, true≢false, List, sym, ap, subst, ◌∙◌}
use Rattle.std.specs.Prelude.{filter, None, Ok}
use Rattle.disk_trait.specs.Files.{Files}
use Rattle.flowfile_record.specs.NamedFile.{NamedFile}
use Rattle.machine_model.specs.Acknowledged.{steps}
use Rattle.machine_model.specs.State.{Machine}
use Rattle.store_core.specs.Store.{kept_by}
use Rattle.run_law.specs.Going.{IsRunningAt}
use Rattle.run_law.specs.Puts.{Outgoing, Start}
use Rattle.run_law.specs.Turns.{last_worker}
use Rattle.run_law.specs.Work.{IsAtWork}
use Rattle.engine_steps.specs.Commit.{IsUnjournaled}
use Rattle.engine_steps.specs.Ending.{SessionHasEnded}
use Rattle.engine_steps.specs.Engine.{AreTakeable, EngineState, IsOfSameRun}
use Rattle.engine_steps.specs.Flights.{has_session}
use Rattle.engine_steps.specs.Leaving.{LeavesEngine, MayGoOn}
use Rattle.engine_steps.specs.Ready.{IsReadyInMemory}
use Rattle.engine_steps.specs.Running.{IsRunning}
use Rattle.engine_steps.specs.declared.commit.Committed.{Committed}
use Rattle.engine_steps.proofs.Flights.{given_back_too_large}

module _ (session : ℕ) (e f : EngineState) (ended : SessionHasEnded session e f) where
  -- the journal, what is to come and what the store keeps
  pub ended_unjournaled : IsUnjournaled e f
  ended_unjournaled = (
    ap (λ (x : EngineState). x.journal) ended.rest,
    record {
      names = ended.coming;
      last = ap (λ (x : EngineState). x.last) ended.rest;
      since = ap (λ (x : EngineState). x.since_reclaim) ended.rest;
    },
    ap (λ (x : EngineState). kept_by x.store) ended.rest,
  )

  -- the run's constants
  pub ended_same_run : IsOfSameRun e f
  ended_same_run = record {
    flow = ap (λ (x : EngineState). x.flow) ended.rest;
    most = ap (λ (x : EngineState). x.most) ended.rest;
    checkpoint = ap (λ (x : EngineState). x.checkpoint) ended.rest;
    too_large = ap (λ (x : EngineState). x.listing.too_large) ended.rest ∙ given_back_too_large (filter (has_session session) e.out) e.listing;
    lot = ap (λ (x : EngineState). x.store.lot) ended.rest;
    id = ap (λ (x : EngineState). (kept_by x.store).store) ended.rest;
  }

  module _ {D : Type 0} (moment : D → ℕ) (images : D → ℕ → Files → Type 0) (disk : D) (left : List NamedFile) where
    -- the run
    pub ended_runs : (opened : Machine) (first : D) (start : Start) (time : ℕ) (out : Outgoing) → IsRunning moment images e opened first start time disk left out → IsRunning moment images f opened first start time disk left out
    ended_runs opened first start time out run = record {
      reached = run.reached;
      to = record {
        run = subst (λ (x : EngineState). IsRunningAt x.flow start time moment images x.store.lot opened first disk x.journal run.reached left out) (sym ended.rest) run.to.run;
        coming = run.to.coming ∙ sym ended.coming;
        last = subst (λ (x : EngineState). x.last ≡ last_worker None (steps x.journal)) (sym ended.rest) run.to.last;
      };
    }

    -- it may go on
    pub ended_leaves : (tells : Bool) (held : D → Files) (in_tells : Bool) → MayGoOn tells held moment images in_tells left e disk → IsReadyInMemory f
        → LeavesEngine {A = Committed} (Ok Committed.Changed) tells held moment images in_tells left e f disk
    ended_leaves tells held in_tells may memory = record {
      ready = λ other. record { work = subst (λ (x : EngineState). IsAtWork x.flow tells held moment images x.store disk) (sym ended.rest) may.ready.work; memory = memory };
      left = λ telling. subst (AreTakeable left) (sym ended.coming) (may.left telling);
      works = λ is. absurd cc;
      known = λ is. absurd cc;
      failed = λ failed. absurd (true≢false (sym failed ∙ ap (λ (x : EngineState). x.failed) ended.rest ∙ may.works));
      from_put = λ is. absurd cc;
      why = record { limited = λ limit is. absurd cc; damaged = λ damage is. absurd cc };
    }
