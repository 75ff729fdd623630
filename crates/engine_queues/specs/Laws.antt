-- That what is kept in memory is seen as the machine's queues beside the sessions in flight, and tells whether a flow is
-- quiet or blocked.
use Rattle.std.specs.Prelude.{◌≡◌, ◌≢◌, ℕ, ◌&&◌, ◌||◌, not, nat_lt, Bool, true, false, All, List, [], length, filter, Option, None, Some, option_map, slice_get, if◌then◌else◌}
use Rattle.std.specs.List.{list_all, list_any, enumerate_from, find}
use Rattle.disk_trait.specs.Files.{Files}
use Rattle.flowfile_record.specs.Stored.{Kept}
use Rattle.flowfile_record.specs.declared.content.ContentRef.{ContentRef}
use Rattle.flowfile_record.specs.declared.event.Event.{Event}
use Rattle.prioritizer.specs.declared.prioritizer.Prioritizer.{Prioritizer}
use Rattle.checkpoint_store.specs.Consistent.{IsConsistent}
use Rattle.content_repo.specs.Claims.{content_in}
use Rattle.machine_model.specs.declared.flow.Flow.{Flow}
use Rattle.machine_model.specs.declared.flow.Processor.{Processor}
use Rattle.machine_model.specs.declared.flow.QueueLimits.{QueueLimits}
use Rattle.machine_model.specs.State.{State, World}
use Rattle.machine_model.specs.Stepping.{without_name}
use Rattle.machine_model.specs.Due.{due_expiry, due_swap_out, due_swap_in}
use Rattle.machine_model.specs.Files.{queues_of}
use Rattle.machine_model.specs.Order.{eligible_files}
use Rattle.machine_model.specs.Quiet.{blocked_but_for_swaps, gives_a_pick, has_source, holds_back_any, is_full, is_held_back, nothing_due, quiet_but_for_swaps}
use Rattle.machine_model.specs.View.{QueueView}
use Rattle.flow_queue.specs.Queue.{QueueState}
use Rattle.store_core.specs.State.{state_with}
use Rattle.store_core.specs.Store.{StoreState, kept_by, FilesHold}
use Rattle.engine_queues.specs.Beside.{beside, is_out}
use Rattle.engine_queues.specs.Listing.{Left, AreDistinct, names_left, with_mark}
use Rattle.engine_queues.specs.Queues.{AreQueuesOf, queue_seen}
use Rattle.engine_queues.specs.Views.{HaveSizes, kept_queues}

-- ---- two ways to see the queues of a flow

-- In each queue the same files are eligible, in the same order, and it is full by both or by neither. The same files
-- expire, the same batches go and come back, the same connections hold back, and nothing is due by both or by neither.
pub record SeesTheSame (flow : Flow) (one other : ℕ → QueueView) : Type 0 where
  pub eligible : (place moment : ℕ) (order : List Prioritizer) (limits : QueueLimits)
      → eligible_files order limits moment (one place).active
      ≡ eligible_files order limits moment (other place).active
  pub full : (place : ℕ) (limits : QueueLimits) → is_full limits (one place) ≡ is_full limits (other place)
  pub expiry : (moment : ℕ) → due_expiry flow one moment ≡ due_expiry flow other moment
  pub swap_out : due_swap_out flow one ≡ due_swap_out flow other
  pub swap_in : due_swap_in flow one ≡ due_swap_in flow other
  pub due : (moment : ℕ) → nothing_due flow one moment ≡ nothing_due flow other moment
  pub held_back : (processor : ℕ × Processor) → is_held_back flow one processor ≡ is_held_back flow other processor

-- what is kept shows the queues as those of the machine's state that it is, where contents have the sizes that
-- references say, and whichever files are out
abbrev pub KeptIsSeen : Type 0
KeptIsSeen =
    (flow : Flow) (contents : ContentRef → List ℕ) (events : List Event) (k : Kept) (out : List ℕ) → IsConsistent k
    → HaveSizes contents k
    → SeesTheSame flow (beside out (kept_queues k)) (beside out (queues_of (state_with contents events k)))

-- the queues of a flow in memory show what is kept beside the files that are out, and so the same as those of the
-- machine's state
abbrev pub QueuesShowKept : Type 0
QueuesShowKept =
    (flow : Flow) (k : Kept) (out : List ℕ) (queues : List QueueState) → IsConsistent k
    → length k.connections ≡ length flow.connections → AreQueuesOf flow k out queues
    → queue_seen queues ≡ beside out (kept_queues k)

abbrev pub QueuesAreSeen : Type 0
QueuesAreSeen =
    (flow : Flow) (contents : ContentRef → List ℕ) (events : List Event) (k : Kept) (out : List ℕ)
    (queues : List QueueState) → IsConsistent k → HaveSizes contents k
    → length k.connections ≡ length flow.connections → AreQueuesOf flow k out queues
    → SeesTheSame flow (queue_seen queues) (beside out (queues_of (state_with contents events k)))

-- where no file is out the queues are seen as they are
abbrev pub NoneIsOut : Type 0
NoneIsOut = (queues : ℕ → QueueView) → beside [] queues ≡ queues

-- what expires beside sessions in flight is none of the files that are out
abbrev pub ExpiredAreAtRest : Type 0
ExpiredAreAtRest =
    (flow : Flow) (out : List ℕ) (queues : ℕ → QueueView) (moment place : ℕ) (numbers : List ℕ)
    → due_expiry flow (beside out queues) moment ≡ Some (place, numbers)
    → All (λ number. is_out out number ≡ false) numbers

-- files that hold what a store has in memory have each live content in its size
abbrev pub HeldContentsHaveSizes : Type 0
HeldContentsHaveSizes =
    (s : StoreState) (files : Files) → FilesHold s files → HaveSizes (content_in files) (kept_by s)

-- ---- quiet and blocked

-- a processor wants to work, as these views show its queues
abbrev pub wants_by : (flow : Flow) (queues : ℕ → QueueView) → State → World → (moment : ℕ) → ℕ × Processor → Bool
wants_by flow queues state world moment (place, processor) =
    has_source processor.kind place state world
    || list_any (gives_a_pick queues moment place processor) (enumerate_from 0 flow.connections)

-- nothing waits, as these views show the queues, and no processor wants to work
abbrev pub is_quiet_by : (flow : Flow) (queues : ℕ → QueueView) → State → World → (moment : ℕ) → Bool
is_quiet_by flow queues state world moment =
    nothing_due flow queues moment
    && not (list_any (wants_by flow queues state world moment) (enumerate_from 0 flow.processors))

-- nothing waits, and full connections hold back each processor that wants to work: the first that holds one back
abbrev pub blocked_by : (flow : Flow) (queues : ℕ → QueueView) → State → World → (moment : ℕ) → Option ℕ
blocked_by flow queues state world moment =
    let processors = filter (wants_by flow queues state world moment) (enumerate_from 0 flow.processors) in
    if nothing_due flow queues moment && nat_lt 0 (length processors)
    && list_all (is_held_back flow queues) processors
    then option_map (λ c. c.0) (find (holds_back_any queues processors) (enumerate_from 0 flow.connections))
    else None

-- by views that see the same as the queues of a state, a flow is as quiet, and as blocked, but for swaps
abbrev pub QuietIsSeen : Type 0
QuietIsSeen =
    (flow : Flow) (queues : ℕ → QueueView) (state : State) (world : World) (moment : ℕ)
    → SeesTheSame flow queues (queues_of state)
    → quiet_but_for_swaps flow state world moment ≡ is_quiet_by flow queues state world moment

abbrev pub BlockedIsSeen : Type 0
BlockedIsSeen =
    (flow : Flow) (queues : ℕ → QueueView) (state : State) (world : World) (moment : ℕ)
    → SeesTheSame flow queues (queues_of state)
    → blocked_but_for_swaps flow state world moment ≡ blocked_by flow queues state world moment

-- ---- names of an inbox

-- a listing is as it was before once a name that was taken is given back, and names may be taken and given back in any
-- order
pub record GoBack (listing : Left) : Type 0 where
  pub as_before : (place : ℕ) → slice_get listing.taken place ≡ Some false
      → with_mark false place (with_mark true place listing) ≡ listing
  pub in_any_order : (one other : ℕ) (is_one is_other : Bool) → one ≢ other
      → with_mark is_other other (with_mark is_one one listing)
      ≡ with_mark is_one one (with_mark is_other other listing)

abbrev pub NamesGoBack : Type 0
NamesGoBack = (listing : Left) → GoBack listing

-- where each name is listed once, a name that is left and is then taken is gone from those that are left
abbrev pub NamesLeave : Type 0
NamesLeave =
    (listing : Left) (place : ℕ) (name : List ℕ) → AreDistinct listing.listed
    → slice_get listing.listed place ≡ Some name → slice_get listing.taken place ≡ Some false
    → names_left (with_mark true place listing) ≡ without_name (names_left listing) name
