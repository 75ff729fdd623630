-- What an engine has in memory stays ready over what it tends.
use Rattle.std.proofs.Common.{◌≡◌, ℕ, ◌≤◌, Bool, false, List, length, sym, ap, subst, ◌∙◌}
use Rattle.std.specs.Prelude.{All, None}
use Rattle.disk_trait.specs.Files.{Files}
use Rattle.flowfile_record.specs.Stored.{Kept}
use Rattle.machine_model.specs.declared.journal.Entry.{Entry}
use Rattle.flow_queue.specs.Queue.{QueueState}
use Rattle.store_core.specs.Flow.{flow_in}
use Rattle.store_core.specs.Store.{StoreState, kept_by}
use Rattle.engine_change.specs.Committing.{identity_of}
use Rattle.engine_queues.specs.Beside.{is_out}
use Rattle.engine_queues.specs.Queues.{AreQueuesOf}
use Rattle.run_law.specs.Work.{IsAtWork}
use Rattle.engine_session.specs.Taken.{TakenStays}
use Rattle.engine_steps.specs.Engine.{EngineState}
use Rattle.engine_steps.specs.Flights.{AreInFlight, taken_by}
use Rattle.engine_steps.specs.Ready.{EngineIsReady, IsReadyInMemory}
use Rattle.engine_steps.specs.Tending.{IsKeptWithout}
use Rattle.engine_steps.proofs.Expired.{files_stay}
use Rattle.engine_steps.proofs.Flights.{flights_stay}

module _ (e : EngineState) (t : StoreState) (ready : IsReadyInMemory e) where
  -- where the store keeps what it kept
  pub ready_spared : (since : ℕ) → kept_by t ≡ kept_by e.store → IsReadyInMemory (record e { store = t; since_reclaim = since; tended = None })
  ready_spared since kept = record {
    sound = ready.sound;
    flow_is = ap flow_in kept ∙ ready.flow_is;
    queues = subst (λ (k : Kept). AreQueuesOf e.flow k (taken_by e.out) e.queues) (sym kept) ready.queues;
    listing = ready.listing;
    distinct = ready.distinct;
    flights = subst (λ (k : Kept). AreInFlight e.flow k e.listing e.next_session e.out) (sym kept) ready.flights;
    most = ready.most;
    entries = ready.entries;
    due = λ moment is. absurd cc;
  }

  -- where files at rest expired, and the journal has room
  pub ready_expired : TakenStays → (queues : List QueueState) (journal : List Entry) (since : ℕ) (gone : List ℕ) → All (λ number. is_out (taken_by e.out) number ≡ false) gone
      → IsKeptWithout gone (kept_by e.store) (kept_by t) → flow_in (kept_by t) ≡ identity_of e.flow → AreQueuesOf e.flow (kept_by t) (taken_by e.out) queues → length journal ≤ e.most
      → IsReadyInMemory (record e { store = t; queues = queues; journal = journal; since_reclaim = since; tended = None })
  ready_expired law queues journal since gone at_rest kept flow_is are room = record {
    sound = ready.sound;
    flow_is = flow_is;
    queues = are;
    listing = ready.listing;
    distinct = ready.distinct;
    flights =
        flights_stay law e.flow (kept_by e.store) (kept_by t) e.listing e.next_session e.out ready.flights
        (files_stay (kept_by e.store) (kept_by t) gone (taken_by e.out) at_rest (ap (λ (k : Kept). k.files) kept));
    most = ready.most;
    entries = room;
    due = λ moment is. absurd cc;
  }

-- nothing was written
pub ready_unwritten : {D : Type 0} (tells : Bool) (held : D → Files) (moment : D → ℕ) (images : D → ℕ → Files → Type 0) (e : EngineState) (t : StoreState) (old new : D) → EngineIsReady tells held moment images e old → new ≡ old → t ≡ e.store
    → EngineIsReady tells held moment images (record e { store = t; tended = None }) new
ready_unwritten tells held moment images e t old new ready disk store = record {
  work = subst (λ d. IsAtWork e.flow tells held moment images t d) (sym disk) (subst (λ (s : StoreState). IsAtWork e.flow tells held moment images s old) (sym store) ready.work);
  memory = ready_spared e t ready.memory e.since_reclaim (ap kept_by store);
}
