-- What holds of the engine and its devices under the lock.
use Rattle.std.specs.Prelude.{◌≡◌, ℕ, Bool, List, Option, None, Some}
use Rattle.disk_trait.specs.Files.{Files}
use Rattle.flowfile_record.specs.NamedFile.{NamedFile}
use Rattle.machine_model.specs.declared.flow.Flow.{Flow}
use Rattle.store_core.specs.Store.{kept_by}
use Rattle.engine_steps.specs.Flights.{names_to_come}
use Rattle.flow_workers.specs.Going.{WorkGoesOn, DeskIsInOrder}
use Rattle.flow_workers.specs.Jobs.{AreAsListed}
use Rattle.flow_workers.specs.Seen.{AtDesk, LentNames, Seen}

-- They are in order. The flow and the store's id are those of the run, the devices are those that were lent, and each
-- file that is to come has the bytes that it had as the run began. Since then the run has gone on.
pub record IsUnderLock {D I O C : Type 0} (tells : Bool) (held : D → Files) (moment : D → ℕ)
    (images : D → ℕ → Files → Type 0) (faults : D → ℕ) (in_tells : Bool) (left : I → List NamedFile)
    (in_faults : I → ℕ) (out_tells : Bool) (standing : O → List ℕ → Option (List ℕ)) (puts : O → List NamedFile)
    (out_faults : O → ℕ) (time : C → ℕ) (given : ℕ → Type 0) (flow : Flow) (store : ℕ) (files : List NamedFile)
    (lent : LentNames) (began : Option (Seen D I O C)) (d : AtDesk D I O C) : Type 0 where
  pub order : DeskIsInOrder tells held moment images in_tells left time given d.seen
  pub flow_is : d.seen.engine.flow ≡ flow
  pub store_is : (kept_by d.seen.engine.store).store ≡ store
  pub lent_is : d.lent ≡ lent
  pub bytes : d.seen.cause ≡ None → AreAsListed in_tells files (left d.seen.inbox) (names_to_come d.seen.engine)
  pub goes : (s : Seen D I O C) → began ≡ Some s → WorkGoesOn tells held moment images faults in_tells left in_faults
      out_tells standing puts out_faults time given s d.seen
