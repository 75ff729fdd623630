-- That a new state is valid, and that steps and replays keep it so.
use Rattle.std.proofs.Common.{◌≡◌, ◌≢◌, ◌⊎◌, inl, inr, ℕ, zero, suc, ◌<◌, ◌≤◌, Bool, true, false, cond, List, [], ◌∷◌, ◌++◌, map, length, refl, sym, ap, subst, ◌∙◌, arith}
use Rattle.std.specs.Prelude.{◌==◌, All, IfSome, Option, Some, None, slice_set}
use Rattle.std.specs.List.{flat_map, enumerate_from}
use Rattle.std.proofs.lemmas.Bool.{and_parts, eqb-true}
use Rattle.std.proofs.lemmas.List.{length-map}
use Rattle.std.proofs.lemmas.List.Elements.{All-nil, All-cons, All-head, All-tail}
use Rattle.std.proofs.lemmas.List.FromFn.{length-enumerate_from}
use Rattle.machine_model.specs.declared.flow.Connection.{Connection}
use Rattle.machine_model.specs.declared.flow.Flow.{Flow}
use Rattle.machine_model.specs.declared.kind.Kind.{Kind}
use Rattle.machine_model.specs.declared.kind.Kind.TheVariants.{GenerateFlowFile}
use Rattle.flowfile_record.specs.declared.worked.Outcome.{Outcome}
use Rattle.machine_model.specs.Files.{queue_at, is_number_among, is_in_batch}
use Rattle.machine_model.specs.Laws.{EndsAllInTurn, HasTaken, NewStatesAreValid, StepsStayValid, ReplaysStayValid}
use Rattle.machine_model.specs.Placing.{EndedSession, settled_files, settlement_clones}
use Rattle.machine_model.specs.Settling.{settle, newcomers, counts_after}
use Rattle.machine_model.specs.State.{QueuedFile, State}
use Rattle.machine_model.specs.Stepping.{age_step, aged, expire_step, expired, without_files, swap_out_step, swapped_out, swap_in_step, swapped_in}
use Rattle.machine_model.specs.Valid.{IsValid, IsWellNumbered, AreByArrival, AreNumbered, HasBatchBelow, AreEventsInRow, EventsTellKin}
use Rattle.machine_model.proofs.BatchPlaces.{Has, at, has-among, among-has, after-has, set-has, filter-has, change-has, has-below}
use Rattle.machine_model.proofs.EventRows.{row-kept}
use Rattle.machine_model.proofs.EventsTell.{kin-kept}
use Rattle.machine_model.proofs.GivenIn.{IsNextIndex}
use Rattle.machine_model.proofs.Ordered.{pairs_nil}
use Rattle.machine_model.proofs.Options.{if_when, when_passes}
use Rattle.machine_model.proofs.Preserved.{IsKept, step-kept, replay-kept}
use Rattle.machine_model.proofs.QueueOrder.{IsBelow, queues-rise, filter-by_arrival, change-by_arrival}
use Rattle.machine_model.proofs.Settled.{newcomers-steady}
use Rattle.machine_model.proofs.Stepped.{well-numbered-kept}

-- ---- as many queues and counts

length-set : {X : Type 0} (xs : List X) (i : ℕ) (x : X) → length (slice_set xs i x) ≡ length xs
length-set [] i x = refl
length-set (y ∷ xs) zero x = refl
length-set (y ∷ xs) (suc i) x = ap suc (length-set xs i x)

length-counts : (kind : Kind) (place index : ℕ) (counts : List ℕ) → length (counts_after kind place index counts) ≡ length counts
length-counts (GenerateFlowFile count text) place index counts = length-set counts place index
length-counts _ place index counts = refl

-- ---- queues by arrival

all_below : (next : ℕ) (files others : List QueuedFile) → All (λ file. (1 ≤ file.arrival) × (file.arrival < next)) (files ++ others)
    → All (λ file. file.arrival < next) files × All (λ file. (1 ≤ file.arrival) × (file.arrival < next)) others
all_below next [] others h = (All-nil (λ file. file.arrival < next), h)
all_below next (file ∷ files) others h =
    let rest = all_below next files others (All-tail (λ (file : QueuedFile). (1 ≤ file.arrival) × (file.arrival < next)) file (files ++ others) h) in
    (All-cons (λ file. file.arrival < next) file files (All-head (λ (file : QueuedFile). (1 ≤ file.arrival) × (file.arrival < next)) file (files ++ others) h).1 rest.0, rest.1)

queues_below : (next : ℕ) (queues : List (List QueuedFile)) → All AreByArrival queues → All (λ file. (1 ≤ file.arrival) × (file.arrival < next)) (flat_map (λ queue. queue) queues) → All (IsBelow next) queues
queues_below next [] ordered within = All-nil (IsBelow next)
queues_below next (queue ∷ queues) ordered within =
    let parts = all_below next queue (flat_map (λ queue. queue) queues) within in
    All-cons (IsBelow next) queue queues (All-head AreByArrival queue queues ordered, parts.0) (queues_below next queues (All-tail AreByArrival queue queues ordered) parts.1)

below : (flow : Flow) (state : State) → IsValid flow state → All (IsBelow state.next_arrival) state.queues
below flow state valid = queues_below state.next_arrival state.queues valid.by_arrival valid.numbered.arrivals.within

all_at : (P : List QueuedFile → Type 0) (queues : List (List QueuedFile)) (place : ℕ) → P [] → All P queues → P (at queues place)
all_at P [] place none all = none
all_at P (queue ∷ queues) zero none all = All-head P queue queues all
all_at P (queue ∷ queues) (suc place) none all = all_at P queues place none (All-tail P queue queues all)

all_set : (P : List QueuedFile → Type 0) (queues : List (List QueuedFile)) (place : ℕ) (queue : List QueuedFile) → All P queues → P queue → All P (slice_set queues place queue)
all_set P [] place queue all is = all
all_set P (first ∷ queues) zero queue all is = All-cons P queue queues is (All-tail P first queues all)
all_set P (first ∷ queues) (suc place) queue all is =
    All-cons P first (slice_set queues place queue) (All-head P first queues all) (all_set P queues place queue (All-tail P first queues all) is)

no-files-below : (next : ℕ) → IsBelow next []
no-files-below next = (pairs_nil (λ (earlier later : QueuedFile). earlier.arrival < later.arrival), All-nil (λ (file : QueuedFile). file.arrival < next))

-- ---- a batch in one queue

-- a place that had the batch, or the one that gets the next batch
abbrev From : State → (next place other batch : ℕ) → Type 0
From state next place other batch = Has (at state.queues other) batch ⊎ ((other ≡ place) × (batch ≡ next))

one_place : (flow : Flow) (state : State) (place one other batch : ℕ) → IsValid flow state → From state state.next_batch place one batch → From state state.next_batch place other batch → one ≡ other
one_place flow state place one other batch valid (inl h) (inl k) = valid.batches one other batch (among-has (at state.queues one) batch h) (among-has (at state.queues other) batch k)
one_place flow state place one other batch valid (inl h) (inr k) = absurd (omega (arith, k.1, has-below state.queues one batch state.next_batch valid.numbered.batches h))
one_place flow state place one other batch valid (inr h) (inl k) = absurd (omega (arith, h.1, has-below state.queues other batch state.next_batch valid.numbered.batches k))
one_place flow state place one other batch valid (inr h) (inr k) = h.0 ∙ sym k.0

-- ---- each kind of step

settle-valid : (flow : Flow) (session : EndedSession) (outcome : Outcome) → HasTaken session → IsNextIndex session.processor.kind session.place session.state.counts session.given.index → EndsAllInTurn (length session.taken) outcome
    → IsValid flow session.state → IsValid flow (settle session outcome)
settle-valid flow session outcome taken next ends valid =
    let state = session.state in
    let files = settled_files session outcome.files in
    let coming = newcomers files (settlement_clones session outcome.files) in
    let steady = newcomers-steady files (settlement_clones session outcome.files) in
    record {
      queues = length-map (enumerate_from 0 state.queues) _ ∙ length-enumerate_from 0 state.queues ∙ valid.queues;
      counts = length-counts session.processor.kind session.place session.given.index state.counts ∙ valid.counts;
      numbered = well-numbered-kept.others.settling session outcome taken next ends valid.numbered;
      by_arrival = queues-rise files coming state.next_arrival state.queues steady (below flow state valid);
      batches = λ one other batch h k. valid.batches one other batch
          (among-has (at state.queues one) batch (after-has batch files coming state.next_arrival state.queues one steady (has-among _ batch h)))
          (among-has (at state.queues other) batch (after-has batch files coming state.next_arrival state.queues other steady (has-among _ batch k)));
      events = row-kept.others.settling session outcome taken next ends valid.events;
      kin = kin-kept.others.settling session outcome taken next ends valid.kin;
    }

-- what a queue has that stands in another's place
from_set : (state : State) (place : ℕ) (queue : List QueuedFile) (other batch : ℕ) → (Has queue batch → Has (at state.queues place) batch ⊎ (batch ≡ state.next_batch))
    → Has (at (slice_set state.queues place queue) other) batch → From state state.next_batch place other batch
from_set state place queue other batch from h =
    elim (set-has batch state.queues place queue other h) [
      | inl old ↦ inl old
      | inr new ↦ elim (from new.1) [
        | inl was ↦ inl (subst (λ p. Has (at state.queues p) batch) (sym new.0) was)
        | inr is ↦ inr (new.0, is)
      ]
    ]

-- a queue's own step is valid, where it brings no batch but the next one
requeued-valid : (flow : Flow) (state : State) (place : ℕ) (queue : List QueuedFile) → IsValid flow state → ((batch : ℕ) → Has queue batch → Has (at state.queues place) batch ⊎ (batch ≡ state.next_batch))
    → (one other batch : ℕ) → Has (at (slice_set state.queues place queue) one) batch → Has (at (slice_set state.queues place queue) other) batch → one ≡ other
requeued-valid flow state place queue valid from one other batch h k =
    one_place flow state place one other batch valid (from_set state place queue one batch (from batch) h) (from_set state place queue other batch (from batch) k)

queue-below : (flow : Flow) (state : State) (place : ℕ) → IsValid flow state → IsBelow state.next_arrival (at state.queues place)
queue-below flow state place valid = all_at (IsBelow state.next_arrival) state.queues place (no-files-below state.next_arrival) (below flow state valid)

expire-valid : (flow : Flow) (state : State) (place : ℕ) (numbers : List ℕ) (moment : ℕ) (connection : Connection) → IsValid flow state → IfSome (expire_step state place numbers moment connection) (IsValid flow)
expire-valid flow state place numbers moment connection valid =
    let queue = queue_at state place in
    let rest = without_files queue numbers in
    if_when _ (expired state place connection numbers moment) (IsValid flow) (λ passes. record {
      queues = length-set state.queues place rest ∙ valid.queues;
      counts = valid.counts;
      numbered = when_passes _ _ IsWellNumbered passes (well-numbered-kept.others.expiry state place numbers moment connection valid.numbered);
      by_arrival = all_set AreByArrival state.queues place rest valid.by_arrival (filter-by_arrival state.next_arrival _ queue (queue-below flow state place valid));
      batches = λ one other batch h k. requeued-valid flow state place rest valid (λ batch h. inl (filter-has batch _ queue h)) one other batch (has-among _ batch h) (has-among _ batch k);
      events = when_passes _ _ AreEventsInRow passes (row-kept.others.expiry state place numbers moment connection valid.events);
      kin = when_passes _ _ EventsTellKin passes (kin-kept.others.expiry state place numbers moment connection valid.kin);
    })

some_same : (one other : ℕ) → ◌≡◌ {A = Option ℕ} (Some one) (Some other) → other ≡ one
some_same one other h = cc

out-each : (b : Bool) (batch other : ℕ) (file : QueuedFile) → (cond b (record file { batch = Some batch }) file).batch ≡ Some other → (file.batch ≡ Some other) ⊎ (other ≡ batch)
out-each true batch other file h = inr (some_same batch other h)
out-each false batch other file h = inl h

in-each : (b : Bool) (next other : ℕ) (file : QueuedFile) → (cond b (record file { batch = None }) file).batch ≡ Some other → (file.batch ≡ Some other) ⊎ (other ≡ next)
in-each true next other file h = absurd (none_is_some h)
  where
    none_is_some : ◌≡◌ {A = Option ℕ} None (Some other) → ⊥
    none_is_some h = cc
in-each false next other file h = inl h

either_arrival : (b : Bool) (one other : QueuedFile) → one.arrival ≡ other.arrival → (cond b one other).arrival ≡ other.arrival
either_arrival true one other same = same
either_arrival false one other same = refl

swap_out-valid : (flow : Flow) (state : State) (place : ℕ) (numbers : List ℕ) (batch : ℕ) (connection : Connection) → IsValid flow state → IfSome (swap_out_step state place numbers batch connection) (IsValid flow)
swap_out-valid flow state place numbers batch connection valid =
    let queue = queue_at state place in
    let out = map (swapped_out numbers batch) queue in
    if_when _ _ (IsValid flow) (λ passes.
    let is_next : batch ≡ state.next_batch = eqb-true batch state.next_batch (and_parts _ (batch == state.next_batch) passes).1 in
    record {
      queues = length-set state.queues place out ∙ valid.queues;
      counts = valid.counts;
      numbered = when_passes _ _ IsWellNumbered passes (well-numbered-kept.others.swap_out state place numbers batch connection valid.numbered);
      by_arrival = all_set AreByArrival state.queues place out valid.by_arrival
          (change-by_arrival state.next_arrival (swapped_out numbers batch) (λ file. either_arrival (is_number_among numbers file.number) _ file refl) queue (queue-below flow state place valid));
      batches = λ one other new h k. requeued-valid flow state place out valid
          (λ new h. change-has new state.next_batch (swapped_out numbers batch)
          (λ file is. elim (out-each (is_number_among numbers file.number) batch new file is) [ inl old ↦ inl old | inr e ↦ inr (e ∙ is_next) ]) queue h)
          one other new (has-among _ new h) (has-among _ new k);
      events = record { line = valid.events.line; numbers = valid.events.numbers; last_event = valid.events.last_event };
      kin = valid.kin;
    })

swap_in-valid : (flow : Flow) (state : State) (place batch : ℕ) (connection : Connection) → IsValid flow state → IfSome (swap_in_step state place batch connection) (IsValid flow)
swap_in-valid flow state place batch connection valid =
    let queue = queue_at state place in
    let back = map (swapped_in batch) queue in
    if_when _ _ (IsValid flow) (λ passes. record {
      queues = length-set state.queues place back ∙ valid.queues;
      counts = valid.counts;
      numbered = when_passes _ _ IsWellNumbered passes (well-numbered-kept.others.swap_in state place batch connection valid.numbered);
      by_arrival = all_set AreByArrival state.queues place back valid.by_arrival
          (change-by_arrival state.next_arrival (swapped_in batch) (λ file. either_arrival (is_in_batch batch file) _ file refl) queue (queue-below flow state place valid));
      batches = λ one other new h k. requeued-valid flow state place back valid
          (λ new h. change-has new state.next_batch (swapped_in batch) (λ file is. in-each (is_in_batch batch file) state.next_batch new file is) queue h)
          one other new (has-among _ new h) (has-among _ new k);
      events = record { line = valid.events.line; numbers = valid.events.numbers; last_event = valid.events.last_event };
      kin = valid.kin;
    })

age-valid : (flow : Flow) (state : State) (line : ℕ) → IsValid flow state → IfSome (age_step state line) (IsValid flow)
age-valid flow state line valid =
    if_when _ (aged state line) (IsValid flow) (λ passes. record {
      queues = valid.queues;
      counts = valid.counts;
      numbered = when_passes _ _ IsWellNumbered passes (well-numbered-kept.aging state line valid.numbered);
      by_arrival = valid.by_arrival;
      batches = valid.batches;
      events = when_passes _ _ AreEventsInRow passes (row-kept.aging state line valid.events);
      kin = when_passes _ _ EventsTellKin passes (kin-kept.aging state line valid.kin);
    })

-- ---- all steps

valid-kept : (flow : Flow) → IsKept (IsValid flow)
valid-kept flow = record {
  others = record {
    settling = λ session outcome taken next ends valid. settle-valid flow session outcome taken next ends valid;
    expiry = expire-valid flow;
    swap_out = swap_out-valid flow;
    swap_in = swap_in-valid flow;
  };
  aging = age-valid flow;
}

pub step-valid : StepsStayValid
step-valid flow machine one valid = step-kept (IsValid flow) (valid-kept flow) flow machine one valid

pub replay-valid : ReplaysStayValid
replay-valid flow machine steps valid = replay-kept (IsValid flow) (valid-kept flow) flow machine steps valid

-- ---- a new state

abbrev nothing : List QueuedFile
nothing = []

no-files : {X : Type 0} (xs : List X) → flat_map (λ queue. queue) (map (λ (x : X). nothing) xs) ≡ []
no-files [] = refl
no-files (x ∷ xs) = no-files xs

no-queue : {X : Type 0} (xs : List X) (place batch : ℕ) → Has (at (map (λ (x : X). nothing) xs) place) batch → ⊥
no-queue [] place batch h = h
no-queue (x ∷ xs) zero batch h = h
no-queue (x ∷ xs) (suc place) batch h = no-queue xs place batch h

all-empty : {X : Type 0} (xs : List X) → All AreByArrival (map (λ (x : X). nothing) xs)
all-empty [] = All-nil AreByArrival
all-empty (x ∷ xs) = All-cons AreByArrival [] _ (pairs_nil (λ (earlier later : QueuedFile). earlier.arrival < later.arrival)) (all-empty xs)

none-numbered : (key : QueuedFile → ℕ) (files : List QueuedFile) → files ≡ [] → AreNumbered key 1 files
none-numbered key files none = rw none (record {
  first = omega arith;
  differ = pairs_nil (λ one other. key one ≢ key other);
  within = All-nil (λ file. (1 ≤ key file) × (key file < 1));
})

pub new-valid : NewStatesAreValid
new-valid flow lot =
    let none = no-files flow.connections in
    record {
      queues = length-map flow.connections (λ connection. []);
      counts = length-map flow.processors (λ processor. 0);
      numbered = record {
        numbers = none-numbered (λ file. file.number) _ none;
        arrivals = none-numbered (λ file. file.arrival) _ none;
        first_batch = omega arith;
        batches = rw none (All-nil (HasBatchBelow 1));
      };
      by_arrival = all-empty flow.connections;
      batches = λ one other batch h k. absurd (no-queue flow.connections one batch (has-among _ batch h));
      events = record { line = refl; numbers = refl; last_event = refl };
      kin = refl;
    }
