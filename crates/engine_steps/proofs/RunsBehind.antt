-- How a run goes on over the calls that tend, one behind the other.
use Rattle.std.proofs.Common.{◌≡◌, ◌∙◌, ℕ, Bool, ap, sym}
use Rattle.std.specs.Prelude.{Err, IsErrOf, Ok, Result}
use Rattle.disk_trait.specs.Files.{Files}
use Rattle.run_law.specs.Laws.{FaultsEnd, SparedRunsGoOn}
use Rattle.engine_steps.specs.Engine.{EngineState}
use Rattle.engine_steps.specs.Ready.{expiry_in}
use Rattle.engine_steps.specs.Running.{undone_step}
use Rattle.engine_steps.specs.TendingParts.{RunsOnSpared, RunsOnTended}
use Rattle.engine_steps.specs.declared.error.EngineError.{EngineError}
use Rattle.engine_steps.proofs.AsRead.{read_well, same_error}
use Rattle.engine_steps.proofs.RunsOn.{runs_idle, stops_wanting}

same_answer : {A : Type 0} (x y : A) → ◌≡◌ {A = Result A EngineError} (Ok x) (Ok y) → x ≡ y
same_answer x y is = cc

module _ {D : Type 0} {tells : Bool} {held : D → Files} {moment : D → ℕ} {images : D → ℕ → Files → Type 0} where
  -- ---- the same of another answer

  module _ {A B : Type 0} {e f : EngineState} {old new : D} {r : Result B EngineError} {result : Result A EngineError} where
    -- .. that is the same error
    module _ (error : EngineError) (was : r ≡ Err error) (is : result ≡ Err error) where
      pub spared_in_err : RunsOnSpared r tells held moment images e f old new → RunsOnSpared result tells held moment images e f old new
      spared_in_err runs = record {
        goes_on = λ well opened first start time left out run. runs.goes_on (λ disk. well (is ∙ ap Err (same_error error EngineError.Disk (sym was ∙ disk)))) opened first start time left out run;
        stopped = λ other fails opened first start time left out next run. runs.stopped other (was ∙ ap Err (same_error error other (sym is ∙ fails))) opened first start time left out next run;
      }

      pub tended_in_err : {at : ℕ} (some : B) (expired : A) → RunsOnTended r some tells held moment images at e f old new → RunsOnTended result expired tells held moment images at e f old new
      tended_in_err some expired runs = record {
        goes_on = λ well opened first start time left out by run. runs.goes_on (λ disk. well (is ∙ ap Err (same_error error EngineError.Disk (sym was ∙ disk)))) opened first start time left out by run;
        idle = λ well none opened first start time left out run.
            runs.idle (λ disk. well (is ∙ ap Err (same_error error EngineError.Disk (sym was ∙ disk)))) (λ done. read_well some error (sym done ∙ was)) opened first start time left out run;
        stopped = λ other fails opened first start time left out by run. runs.stopped other (was ∙ ap Err (same_error error other (sym is ∙ fails))) opened first start time left out by run;
      }

    -- .. where both ended well
    pub spared_in_ok : (x : B) (y : A) → r ≡ Ok x → result ≡ Ok y → RunsOnSpared r tells held moment images e f old new → RunsOnSpared result tells held moment images e f old new
    spared_in_ok x y was is runs = record {
      goes_on = λ well opened first start time left out run. runs.goes_on (λ disk. read_well x EngineError.Disk (sym was ∙ disk)) opened first start time left out run;
      stopped = λ other fails opened first start time left out next run. read_well y other (sym is ∙ fails);
    }

    -- .. where files expired
    pub tended_in_ok : {at : ℕ} (x : B) (expired : A) → r ≡ Ok x → result ≡ Ok expired → RunsOnTended r x tells held moment images at e f old new → RunsOnTended result expired tells held moment images at e f old new
    tended_in_ok x expired was is runs = record {
      goes_on = λ well opened first start time left out by run. runs.goes_on (λ disk. read_well x EngineError.Disk (sym was ∙ disk)) opened first start time left out by run;
      idle = λ well none opened first start time left out run. absurd (none is);
      stopped = λ other fails opened first start time left out by run. read_well expired other (sym is ∙ fails);
    }

  -- ---- two calls, of which the first ended well

  module _ {A B : Type 0} {e mid f : EngineState} {old between new : D} {r : Result B EngineError} {result : Result A EngineError} (x : B) (was : r ≡ Ok x) where
    pub spared_behind : RunsOnSpared r tells held moment images e mid old between → RunsOnSpared result tells held moment images mid f between new → RunsOnSpared result tells held moment images e f old new
    spared_behind before runs = record {
      goes_on = λ well opened first start time left out run.
          runs.goes_on well opened first start time left out (before.goes_on (λ disk. read_well x EngineError.Disk (sym was ∙ disk)) opened first start time left out run);
      stopped = λ error fails opened first start time left out next run.
          runs.stopped error fails opened first start time left out next (before.goes_on (λ disk. read_well x EngineError.Disk (sym was ∙ disk)) opened first start time left out run);
    }

    -- it let nothing expire
    pub tended_behind : {at : ℕ} (some : B) (expired : A) → (x ≡ some → ⊥) → RunsOnTended r some tells held moment images at e mid old between
        → RunsOnSpared result tells held moment images mid f between new → RunsOnTended result expired tells held moment images at e f old new
    tended_behind {at = at} some expired none before runs = record {
      goes_on = λ well opened first start time left out by run.
          runs.goes_on well opened first start at left out (before.goes_on (λ disk. read_well x EngineError.Disk (sym was ∙ disk)) opened first start time left out by run);
      idle = λ well other opened first start time left out run.
          runs.goes_on well opened first start time left out
          (before.idle (λ disk. read_well x EngineError.Disk (sym was ∙ disk)) (λ done. none (same_answer x some (sym was ∙ done))) opened first start time left out run);
      stopped = λ error fails opened first start time left out by run.
          runs.stopped error fails opened first start at left out (undone_step error (expiry_in e at)) (before.goes_on (λ disk. read_well x EngineError.Disk (sym was ∙ disk)) opened first start time left out by run);
    }

  -- ---- nothing was done

  pub tended_idle : {A : Type 0} {result : Result A EngineError} (expired : A) → SparedRunsGoOn moment images → FaultsEnd tells held moment images → (e : EngineState) (disk : D) (at : ℕ)
      → ((error : EngineError) → IsErrOf result error → error ≡ EngineError.Memory) → RunsOnTended result expired tells held moment images at e e disk disk
  tended_idle expired law between e disk at wanting = record {
    goes_on = λ well opened first start time left out by run. runs_idle tells held moment images e opened first disk start time at by left out run law;
    idle = λ well none opened first start time left out run. run;
    stopped = λ error fails opened first start time left out by run. stops_wanting tells held moment images e opened first disk start time at by left out run between error (wanting error fails) (undone_step error (expiry_in e at));
  }
