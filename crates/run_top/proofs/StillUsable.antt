-- That an engine stays usable as a session is checked out or ends, and that work stays done.
use Rattle.std.proofs.Common.{◌≡◌, ℕ, Bool, true, false, true≢false, List, refl, sym, ◌∙◌, ap, subst}
use Rattle.std.specs.Prelude.{None, Option, Result}
use Rattle.disk_trait.specs.Files.{Files}
use Rattle.flowfile_record.specs.NamedFile.{NamedFile}
use Rattle.machine_model.specs.declared.flow.Flow.{Flow}
use Rattle.machine_model.specs.declared.given.Given.{Given}
use Rattle.store_core.specs.Store.{StoreState, kept_by}
use Rattle.run_law.specs.Work.{IsAtWork}
use Rattle.engine_session.specs.Done.{HasBytesFrom, WorkIsDone}
use Rattle.engine_session.specs.declared.done.Done.{Done}
use Rattle.engine_steps.specs.Checkout.{HasCheckedOut}
use Rattle.engine_steps.specs.Ending.{EndsSession}
use Rattle.engine_steps.specs.Engine.{AreTakeable, EngineState}
use Rattle.engine_steps.specs.Errors.{Reopens}
use Rattle.engine_steps.specs.Flights.{is_in_flight, names_to_come}
use Rattle.engine_steps.specs.Ready.{IsReadyInMemory, IsUsableWith}
use Rattle.engine_steps.specs.declared.error.EngineError.{EngineError}

-- ---- the engine

-- where it need not be opened anew, it needn't before, and its flow, its store and the names that are to come are as before
record IsAsBefore (e f : EngineState) : Type 0 where
  works : e.failed ≡ false
  flow_is : f.flow ≡ e.flow
  store_is : f.store ≡ e.store
  names : names_to_come f ≡ names_to_come e

module _ {D : Type 0} (tells : Bool) (held : D → Files) (moment : D → ℕ) (images : D → ℕ → Files → Type 0) (in_tells : Bool) (left : List NamedFile) (e f : EngineState) (disk : D)
    (usable : IsUsableWith tells held moment images in_tells left e disk) (ready : f.failed ≡ false → IsReadyInMemory f) where
  usable_as : (f.failed ≡ false → IsAsBefore e f) → IsUsableWith tells held moment images in_tells left f disk
  usable_as as_before = record {
    usable = λ works.
        let before = as_before works in
        record {
          work = subst (λ (flow : Flow). IsAtWork flow tells held moment images f.store disk) (sym before.flow_is)
              (subst (λ (s : StoreState). IsAtWork e.flow tells held moment images s disk) (sym before.store_is) (usable.usable before.works).work);
          memory = ready works;
        };
    takeable = λ works telling. let before = as_before works in subst (AreTakeable left) (sym before.names) (usable.takeable before.works telling);
  }

  pub usable_checked_out : (at session : ℕ) → HasCheckedOut at session e f → IsUsableWith tells held moment images in_tells left f disk
  usable_checked_out at session out =
      usable_as (λ works. record {
        works = sym (ap (λ (x : EngineState). x.failed) out.rest) ∙ works;
        flow_is = ap (λ (x : EngineState). x.flow) out.rest;
        store_is = ap (λ (x : EngineState). x.store) out.rest;
        names = out.coming;
      })

  pub usable_ended : (session : ℕ) → is_in_flight session e.out ≡ true → EndsSession session e f → IsUsableWith tells held moment images in_tells left f disk
  usable_ended session flying ends = usable_as (λ works. before works e.failed refl)
    where
      before : f.failed ≡ false → (failed : Bool) → e.failed ≡ failed → IsAsBefore e f
      before works true was = absurd (true≢false (sym was ∙ sym (ap (λ (x : EngineState). x.failed) (ends.dropped was)) ∙ works))
      before works false was =
          let ended = ends.ended flying was in
          record {
            works = was;
            flow_is = ap (λ (x : EngineState). x.flow) ended.rest;
            store_is = ap (λ (x : EngineState). x.store) ended.rest;
            names = ended.coming;
          }

-- a store that need not be opened anew behind a call needn't before it
pub works_before : {W A : Type 0} (result : Result A EngineError) (e f : EngineState) (old new : W) → Reopens result e f old new → f.failed ≡ false → e.failed ≡ false
works_before result e f old new reopens works = of e.failed refl
  where
    of : (failed : Bool) → e.failed ≡ failed → e.failed ≡ false
    of true was = absurd (true≢false (sym was ∙ sym (ap (λ (x : EngineState). x.failed) (reopens.untouched was).0) ∙ works))
    of false was = was

-- ---- the run

pub same_at_checkout : (at session : ℕ) (e f : EngineState) → HasCheckedOut at session e f → (f.flow ≡ e.flow) × ((kept_by f.store).store ≡ (kept_by e.store).store)
same_at_checkout at session e f out = (ap (λ (x : EngineState). x.flow) out.rest, ap (λ (x : EngineState). (kept_by x.store).store) out.rest)

pub same_ended : (session : ℕ) (e f : EngineState) → is_in_flight session e.out ≡ true → EndsSession session e f → (f.flow ≡ e.flow) × ((kept_by f.store).store ≡ (kept_by e.store).store)
same_ended session e f flying ends = of e.failed refl
  where
    of : (failed : Bool) → e.failed ≡ failed → (f.flow ≡ e.flow) × ((kept_by f.store).store ≡ (kept_by e.store).store)
    of true was = let same = ends.dropped was in (ap (λ (x : EngineState). x.flow) same, ap (λ (x : EngineState). (kept_by x.store).store) same)
    of false was = let ended = ends.ended flying was in (ap (λ (x : EngineState). x.flow) ended.rest, ap (λ (x : EngineState). (kept_by x.store).store) ended.rest)

-- ---- the work

-- that of a session that receives no file, whatever is left
pub done_without_file : (flow : Flow) (store : ℕ) (in_tells : Bool) (was_left left : List NamedFile) (done : Done) → WorkIsDone flow store in_tells was_left done → done.given.file ≡ None → WorkIsDone flow store in_tells left done
done_without_file flow store in_tells was_left left done of none =
    let file : of.job.given.file ≡ None = sym (ap (λ (g : Given). g.file) of.work.given.but_bytes) ∙ none in
    record {
      job = of.job;
      read = of.read;
      received = subst (λ (f : Option (List ℕ)). HasBytesFrom in_tells left f of.job.given.bytes) (sym file) (subst (λ (f : Option (List ℕ)). HasBytesFrom in_tells was_left f of.job.given.bytes) file of.received);
      work = of.work;
    }

-- of an engine of the same flow and store
pub done_in_run : (e f : EngineState) (in_tells : Bool) (left : List NamedFile) (done : Done) → f.flow ≡ e.flow → (kept_by f.store).store ≡ (kept_by e.store).store → WorkIsDone e.flow (kept_by e.store).store in_tells left done
    → WorkIsDone f.flow (kept_by f.store).store in_tells left done
done_in_run e f in_tells left done flow_is id_is of =
    subst (λ (flow : Flow). WorkIsDone flow (kept_by f.store).store in_tells left done) (sym flow_is)
    (subst (λ (id : ℕ). WorkIsDone e.flow id in_tells left done) (sym id_is) of)
