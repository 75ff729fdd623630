-- What crates above cite: queues that have more room are those of the same state, and files that are kept are active.
use Rattle.std.proofs.Common.{◌≡◌, ℕ, ◌<◌, true, List, [], ◌∷◌, length, map, Some, refl, sym, ap, subst, ◌∙◌, arith}
use Rattle.std.specs.Prelude.{All, Contains, slice_get}
use Rattle.std.specs.Option.{option_map}
use Rattle.std.proofs.lemmas.Bool.{and_from, eq-eqb}
use Rattle.std.proofs.lemmas.List.{length-map}
use Rattle.std.proofs.lemmas.List.Elements.{All-head, All-tail, at_from_Contains}
use Rattle.std.proofs.lemmas.Option.{same_Some, slice_get-map, slice_get_within}
use Rattle.flowfile_record.specs.NumberedItems.{AscendsByNumber}
use Rattle.flowfile_record.specs.Stored.{Kept}
use Rattle.flowfile_record.specs.declared.change.Settled.{Settled}
use Rattle.flowfile_record.specs.declared.content.ContentRef.{ContentRef}
use Rattle.flowfile_record.specs.declared.event.Event.{Event}
use Rattle.flowfile_record.specs.declared.flow_file.FlowFile.{FlowFile}
use Rattle.flowfile_record.specs.declared.stored.ActiveFile.{ActiveFile}
use Rattle.record_codec.specs.ActiveFile.{active}
use Rattle.checkpoint_store.specs.Consistent.{IsConsistent}
use Rattle.kept_state.specs.Applied.{active_number}
use Rattle.kept_state.specs.Fits.{active_of, is_in_connection, are_active_in}
use Rattle.machine_model.specs.declared.flow.Flow.{Flow}
use Rattle.machine_model.specs.Files.{queues_of}
use Rattle.machine_model.specs.View.{QueueView}
use Rattle.flow_queue.specs.Queue.{QueueState}
use Rattle.flow_queue.proofs.Numbered.{item_of-at}
use Rattle.store_core.specs.State.{state_with}
use Rattle.engine_queues.specs.Beside.{beside}
use Rattle.engine_queues.specs.Laws.{KeptIsSeen, QueuesAreSeen, QueuesShowKept, SeesTheSame}
use Rattle.engine_queues.specs.Queues.{AreQueuesOf, queue_seen}
use Rattle.engine_queues.specs.Settling.{without_room, MaySettleOver}
use Rattle.engine_queues.specs.Views.{HaveSizes, kept_queues}
use Rattle.engine_queues.proofs.Besides.{none-is-out}
use Rattle.engine_queues.proofs.Changing.{at_place}

module _ (old new : List QueueState) (same : map without_room new ≡ map without_room old) where
  as_many : length new ≡ length old
  as_many = sym (length-map new without_room) ∙ ap length same ∙ length-map old without_room

  before : (place : ℕ) (queue : QueueState) → slice_get new place ≡ Some queue → (was : QueueState) × (slice_get old place ≡ Some was) × (without_room queue ≡ without_room was)
  before place queue got =
      let lt : place < length old = omega (arith, slice_get_within new place queue got, as_many) in
      let was = at_place old place lt in
      let is : Some (without_room queue) ≡ Some (without_room was.0) =
      ap (option_map without_room) (sym got) ∙ sym (slice_get-map without_room new place) ∙ ap (λ (l : List QueueState). slice_get l place) same
      ∙ slice_get-map without_room old place ∙ ap (option_map without_room) was.1 in
      (was.0, was.1, same_Some (without_room queue) (without_room was.0) is)

  pub are_same_queues : (flow : Flow) (k : Kept) (out : List ℕ) → AreQueuesOf flow k out old → AreQueuesOf flow k out new
  are_same_queues flow k out are = record {
    count = as_many ∙ are.count;
    each = λ place connection queue at got.
        let found = before place queue got in
        let was = are.each place connection found.0 at found.1 in
        record {
          order = ap (λ (q : QueueState). q.order) found.2 ∙ was.order;
          limits = ap (λ (q : QueueState). q.limits) found.2 ∙ was.limits;
          files = ap (λ (q : QueueState). q.files) found.2 ∙ was.files;
          batches = ap (λ (q : QueueState). q.batches) found.2 ∙ was.batches;
        };
  }

  pub may_still_settle : (flow : Flow) (k : Kept) (out : List ℕ) (settled : Settled) → MaySettleOver flow k out settled old → MaySettleOver flow k out settled new
  may_still_settle flow k out settled over = record {
    of_kept = are_same_queues flow k out over.of_kept;
    live = over.live;
    connections = over.connections;
    consistent = over.consistent;
    no_batches = over.no_batches;
    may = over.may;
  }

-- ---- files that are kept

pub kept_is_found : (files : List ActiveFile) (a : ActiveFile) → AscendsByNumber active_number files → Contains files a → active_of (active_number a) files ≡ Some a
kept_is_found files a ascends has =
    let at = at_from_Contains files a has in
    item_of-at active_number files at.0 (active_number a) a ascends at.1 (λ d. ap active_number (at.2 d)) ∙ ap Some (at.2 a)

-- the files that a session took of a connection are active there, by their numbers
pub taken_are_active : (k : Kept) (connection : ℕ) (taken : List FlowFile) → IsConsistent k → All (λ (file : FlowFile). Contains k.files (active connection file)) taken
    → are_active_in k.files connection (map (λ (file : FlowFile). file.number) taken) ≡ true
taken_are_active k connection [] consistent all = refl
taken_are_active k connection (file ∷ taken) consistent all =
    let found = kept_is_found k.files (active connection file) consistent.numbers (All-head (λ (f : FlowFile). Contains k.files (active connection f)) file taken all) in
    let here : is_in_connection connection (active_of file.number k.files) ≡ true = ap (is_in_connection connection) found ∙ eq-eqb connection connection refl in
    let later = taken_are_active k connection taken consistent (All-tail (λ (f : FlowFile). Contains k.files (active connection f)) file taken all) in
    and_from (is_in_connection connection (active_of file.number k.files)) (are_active_in k.files connection (map (λ (f : FlowFile). f.number) taken)) here later

-- ---- where no session is in flight

pub shown_alone : QueuesShowKept → (flow : Flow) (k : Kept) (queues : List QueueState) → IsConsistent k → length k.connections ≡ length flow.connections → AreQueuesOf flow k [] queues
    → queue_seen queues ≡ kept_queues k
shown_alone law flow k queues consistent count are = law flow k [] queues consistent count are ∙ none-is-out (kept_queues k)

pub seen_alone : QueuesAreSeen → (flow : Flow) (contents : ContentRef → List ℕ) (events : List Event) (k : Kept) (queues : List QueueState) → IsConsistent k → HaveSizes contents k
    → length k.connections ≡ length flow.connections → AreQueuesOf flow k [] queues → SeesTheSame flow (queue_seen queues) (queues_of (state_with contents events k))
seen_alone law flow contents events k queues consistent sizes count are =
    subst (λ (views : ℕ → QueueView). SeesTheSame flow (queue_seen queues) views) (none-is-out (queues_of (state_with contents events k)))
    (law flow contents events k [] queues consistent sizes count are)

pub kept_alone : KeptIsSeen → (flow : Flow) (contents : ContentRef → List ℕ) (events : List Event) (k : Kept) → IsConsistent k → HaveSizes contents k
    → SeesTheSame flow (kept_queues k) (queues_of (state_with contents events k))
kept_alone law flow contents events k consistent sizes =
    subst (λ (views : ℕ → QueueView). SeesTheSame flow views (queues_of (state_with contents events k))) (none-is-out (kept_queues k))
    (subst (λ (views : ℕ → QueueView). SeesTheSame flow (beside [] (kept_queues k)) views) (none-is-out (queues_of (state_with contents events k)))
    (law flow contents events k [] consistent sizes))
