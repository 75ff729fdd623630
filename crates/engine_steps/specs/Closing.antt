-- What a close leaves, and how it refuses.
use Rattle.std.specs.Prelude.{◌≡◌, ◌⊎◌, ◌↔◌, ℕ, ◌+◌, Bool, true, IsTrue, List, [], length, Result, IfErr, IsErrOf}
use Rattle.disk_trait.specs.Faults.{CountsFaults}
use Rattle.disk_trait.specs.Files.{Files}
use Rattle.disk_trait.specs.Images.{IsOnly}
use Rattle.flowfile_record.specs.Stored.{kept_of}
use Rattle.flowfile_record.specs.declared.content.ContentRef.{ContentRef}
use Rattle.machine_model.specs.declared.flow.Flow.{Flow}
use Rattle.machine_model.specs.State.{Machine}
use Rattle.prov_store.specs.State.{counts_of}
use Rattle.store_core.specs.Flow.{flow_in}
use Rattle.store_core.specs.Store.{kept_by}
use Rattle.engine_change.specs.Committing.{identity_of}
use Rattle.engine_change.specs.Expiring.{HaveContents}
use Rattle.run_law.specs.Run.{IsStateOf, IsTidied}
use Rattle.engine_steps.specs.Engine.{EngineState}
use Rattle.engine_steps.specs.declared.close.Closed.{Closed}
use Rattle.engine_steps.specs.declared.error.EngineError.{EngineError}
use Rattle.engine_steps.specs.Flights.{names_to_come}
use Rattle.engine_steps.specs.declared.error.EngineError.TheVariants.{Disk, MustReopen}

-- The journal is handed over, what the store keeps, how many names are left in the inbox, those of sessions in flight
-- among them, and how many events there are of each kind. One image alone is left, and each claim that isn't empty has
-- the content of a kept file.
pub record EngineIsClosed {D : Type 0} (tells : Bool) (held : D → Files) (moment : D → ℕ)
    (images : D → ℕ → Files → Type 0) (e : EngineState) (new : D) (closed : Closed) : Type 0 where
  pub journal : closed.journal ≡ e.journal
  pub state : kept_of closed.state ≡ kept_by e.store
  pub left : closed.left ≡ length (names_to_come e) + e.listing.too_large
  pub events : closed.events.counts ≡ e.store.events.counts
  pub synced : IsOnly (held new) (images new (moment new))
  pub tidied : IsTrue tells → IsTidied e.flow e.store.lot (held new)

-- MustReopen comes exactly where the store must be opened anew, and then nothing is done. Else it is the disk that
-- fails.
pub record RefusesToClose {D A : Type 0} (result : Result A EngineError) (faults : D → ℕ) (e : EngineState)
    (old new : D) : Type 0 where
  pub reopen : IsErrOf result MustReopen ↔ (e.failed ≡ true)
  pub untouched : e.failed ≡ true → new ≡ old
  pub kinds : IfErr result (λ error. (error ≡ Disk) ⊎ (error ≡ MustReopen))
  pub disk : CountsFaults (faults old) (faults new) (IsErrOf result Disk)

-- ---- what is handed over is the machine's

-- The state is, of this flow, where references stand for bytes of their sizes and digests; no file is swapped out. And
-- so are the counts of events.
pub record ShowsState (flow : Flow) (m : Machine) (closed : Closed) : Type 0 where
  pub flow_is : flow_in (kept_of closed.state) ≡ identity_of flow
  pub in_queues : (kept_of closed.state).batches ≡ []
  pub contents : ContentRef → List ℕ
  pub read : HaveContents contents (kept_of closed.state)
  pub is : IsStateOf m contents (kept_of closed.state)
  pub counts : closed.events.counts ≡ counts_of m.state.events

-- .. and as many names of the inbox are left
pub record Shows (flow : Flow) (m : Machine) (closed : Closed) : Type 0 where
  pub state : ShowsState flow m closed
  pub left : closed.left ≡ length m.world.left
