-- An engine before its first step.
use Rattle.std.specs.Prelude.{◌≡◌, ℕ, ◌+◌, nat_le, Bool, false, IsTrue, List, [], Option, None, length}
use Rattle.std.specs.Option.{option_map_or}
use Rattle.flowfile_record.specs.NamedFile.{NamedFile, bytes_of}
use Rattle.flowfile_record.specs.declared.TheConstants.{CONTENT_MAX}
use Rattle.machine_model.specs.declared.flow.Flow.{Flow}
use Rattle.machine_model.specs.State.{State}
use Rattle.store_core.specs.Store.{StoreState, kept_by}
use Rattle.engine_choice.specs.Choice.{coming_of}
use Rattle.engine_queues.specs.Listing.{AreDistinct}
use Rattle.engine_queues.specs.Queues.{AreQueuesOf}
use Rattle.run_law.specs.Run.{machine_at}
use Rattle.engine_steps.specs.Engine.{AreTakeable, EngineState}
use Rattle.engine_steps.specs.Flights.{names_to_come}

-- It is to run this flow over this store, with queues of what the store keeps; no entry was made yet, and no session is
-- in flight.
pub record IsOpened (flow : Flow) (store : StoreState) (most checkpoint : ℕ) (e : EngineState) : Type 0 where
  pub flow_is : e.flow ≡ flow
  pub store_is : e.store ≡ store
  pub queues : AreQueuesOf flow (kept_by store) [] e.queues
  pub listing : e.listing.flow ≡ flow
  pub distinct : AreDistinct e.listing.listed
  pub journal : e.journal ≡ []
  pub last : e.last ≡ None
  pub since : e.since_reclaim ≡ 0
  pub works : e.failed ≡ false
  pub tended : e.tended ≡ None
  pub out : e.out ≡ []
  pub next_session : e.next_session ≡ 0
  pub most_is : e.most ≡ most
  pub checkpoint_is : e.checkpoint ≡ checkpoint

-- the file of this name is no longer than any content
abbrev pub fits_in : List NamedFile → List ℕ → Bool
fits_in left name = option_map_or (λ bytes. nat_le (length bytes) CONTENT_MAX) (bytes_of left name) false

-- All that the machine may take of the files that were left is to come, and can be taken of those that are left now; the
-- others are too large.
pub record IsToCome (tells : Bool) (left now_left : List NamedFile) (e : EngineState) : Type 0 where
  pub coming : IsTrue tells → (state : State) (standing : List ℕ → Option (List ℕ))
      → coming_of (machine_at state left standing).world ≡ names_to_come e
  pub takeable : IsTrue tells → AreTakeable now_left (names_to_come e)
  pub counted : IsTrue tells → length left ≡ length (names_to_come e) + e.listing.too_large
