-- That the settlement leaves the state that the machine's does.
use Rattle.std.proofs.Common.{◌≡◌, inl, inr, ℕ, suc, ◌+◌, ◌^◌, ◌<◌, ◌≤◌, List, [], ◌∷◌, ◌++◌, map, length, refl, sym, ap, subst, ◌∙◌, arith, length-append}
use Rattle.std.specs.Prelude.{◌==◌, Option, Some, None, find, slice_get, unwrap_or}
use Rattle.std.specs.FinSet.{union, from_list}
use Rattle.std.specs.List.{flat_map, enumerate_from}
use Rattle.std.proofs.lemmas.List.{length-map}
use Rattle.std.proofs.lemmas.List.Concat.{flat_map-append}
use Rattle.flowfile_record.specs.Kin.{kin_of_all, kin_of}
use Rattle.flowfile_record.specs.declared.change.Settled.{Settled}
use Rattle.flowfile_record.specs.declared.flow_file.FlowFile.{FlowFile}
use Rattle.machine_model.specs.declared.kind.Kind.{Kind}
use Rattle.machine_model.specs.declared.kind.Kind.TheVariants.{GenerateFlowFile}
use Rattle.machine_model.specs.Changing.{placed_into, queue_after, state_after, with_arrival}
use Rattle.flowfile_record.specs.Counts.{with_count}
use Rattle.machine_model.specs.Events.{Draft, drafts, numbered_from}
use Rattle.machine_model.specs.Files.{queue_at}
use Rattle.machine_model.specs.Placing as placing
use Rattle.machine_model.specs.Placing.{SettledFile, SettlementClone, Destination, settlement_clones, wanted_clones, count_made}
use Rattle.machine_model.specs.Settling.{arriving, counts_after, newcomers, settle, staying, staying_as}
use Rattle.machine_model.specs.State.{Kin, QueuedFile}
use Rattle.machine_model.specs.Stepping.{without_files}
use Rattle.machine_model.specs.Valid.{EventsTellKin}
use Rattle.machine_model.proofs.Among.{Among}
use Rattle.machine_model.proofs.Drafted.{length-numbered}
use Rattle.machine_model.proofs.EventsTell.{settle-tells}
use Rattle.machine_model.proofs.KinSets.{kin_joined}
use Rattle.machine_model.proofs.Places.{place_of}
use Rattle.machine_model.proofs.Tally.{Each, each-append, each-map}
use Rattle.settlement.specs.Placing.{arrived, firsts, placed_from, returned, wanted}
use Rattle.settlement.specs.Telling.{all_drafts, numbered_wrapping}
use Rattle.settlement.specs.Whole.{generator_count, placing_at, told_of}
use Rattle.settlement.specs.declared.file.EndedFile.{EndedFile}
use Rattle.settlement.proofs.ByArrival.{put_all}
use Rattle.settlement.proofs.AddedEvents.{numbers-fit}
use Rattle.settlement.proofs.Arriving.{Below, Comer, HasBytes, arriving-same, as_placed, as_queued, comer, comers, comers-placed, comers-queued, put-arriving}
use Rattle.settlement.proofs.Clones.{all_clones, as_newcomers, before_clones, clones-into, clones_from, clones_in, length-clones}
use Rattle.settlement.proofs.EndedFiles.{Case, by_bytes, ended_of, place, session}
use Rattle.settlement.proofs.Listing.{fold-append}
use Rattle.settlement.proofs.Placed as placed
use Rattle.settlement.proofs.Queues.{Stands, arrival-below, files_of, placed-append, queue-stays}
use Rattle.settlement.proofs.ToldEvents.{as_ended, drafts-same, told, wanted-same}

-- ---- a settlement over the machine's files

abbrev pub settled_over : Case → List EndedFile → Settled
settled_over c files =
    let first_clone = c.state.next_number + count_made c.ended.outcome.files in
    let at = placing_at (place c) c.ended.connection c.state.next_arrival in
    record {
      processor = c.ended.processor;
      moment = c.given.moment;
      gone = map (λ file. file.number) c.ended.taken;
      placed = returned at files ++ arrived at first_clone files;
      events = numbered_wrapping (c.state.last_event + 1) (all_drafts (told_of c.processor c.ended.taken c.given files) c.ended.outcome.sent first_clone);
      next_number = first_clone + length (wanted files);
      next_arrival = c.state.next_arrival + (length (firsts files) + length (wanted files));
      count = generator_count c.processor.kind c.ended.processor c.given.index;
    }

abbrev pub ended_all : Case → List EndedFile
ended_all c = map (ended_of c) (files_of c)

abbrev pub first_clone : Case → ℕ
first_clone c = c.state.next_number + count_made c.ended.outcome.files

abbrev clones_of : Case → List SettlementClone
clones_of c = settlement_clones (session c) c.ended.outcome.files

-- ---- queues

-- what arrives in a queue, the clones being as newcomers with their contents
arrived_same : (c : Case) (k : ℕ)
    → let at = placing_at (place c) c.ended.connection c.state.next_arrival in
    let all = (settled_over c (ended_all c)).placed in
    placed_into c.bytes all k (arrived at (first_clone c) (ended_all c))
    ≡ placed_into c.bytes all k (placed_from c.state.next_arrival (map (as_placed c) (comers (files_of c) (clones_of c))))
arrived_same c k =
    let at = placing_at (place c) c.ended.connection c.state.next_arrival in
    let all = (settled_over c (ended_all c)).placed in
    let news = placed_from c.state.next_arrival (firsts (ended_all c)) in
    let clones = clones_in at (first_clone c) (ended_all c) in
    let alike = as_newcomers at (first_clone c) (ended_all c) in
    placed-append c all k news clones
    ∙ ap (λ queue. placed_into c.bytes all k news ++ queue) (clones-into c.bytes all (before_clones at (ended_all c)) k clones alike (all_clones at (first_clone c) (ended_all c)))
    ∙ sym (placed-append c all k news alike)
    ∙ ap (placed_into c.bytes all k)
    (sym (placed.placed-append c.state.next_arrival (firsts (ended_all c)) (clones_from (first_clone c) (wanted (ended_all c))))
    ∙ ap (placed_from c.state.next_arrival) (comers-placed c (first_clone c) (files_of c)))

-- what stays keeps its arrival
stays_below : (arrival : ℕ) (file : QueuedFile) (found : Option SettledFile) → file.arrival < arrival → Below arrival (staying_as file found)
stays_below arrival file None below = (below, tt)
stays_below arrival file (Some found) below = by_goal found.goes refl
  where
    by_goal : (goes : Destination) → found.goes ≡ goes → Below arrival (staying_as file (Some found))
    by_goal placing.Returns same = rw same (below, tt)
    by_goal (placing.Queues first others) same = rw same tt
    by_goal (placing.Drops relationship) same = rw same tt
    by_goal placing.Leaves same = rw same tt

all_below : (arrival : ℕ) (files : List SettledFile) (queue : List QueuedFile) → ((file : QueuedFile) → Among file queue → file.arrival < arrival) → Below arrival (staying files queue)
all_below arrival files [] below = tt
all_below arrival files (file ∷ queue) below =
    each-append (λ (file : QueuedFile). file.arrival < arrival) (staying_as file (find (λ other. other.number == file.number) files)) (staying files queue)
    (stays_below arrival file (find (λ other. other.number == file.number) files) (below file (inl refl))) (all_below arrival files queue (λ other there. below other (inr there)))

has_comer : (c : Case) (file : SettledFile) (goes : Destination) → HasBytes c file → Each (λ (one : Comer). HasBytes c one.2) (comer file goes)
has_comer c file (placing.Queues first others) has = (has, tt)
has_comer c file placing.Returns has = tt
has_comer c file (placing.Drops relationship) has = tt
has_comer c file placing.Leaves has = tt

has_firsts : (c : Case) (files : List SettledFile) → Each (HasBytes c) files → Each (λ (one : Comer). HasBytes c one.2) (flat_map (λ file. comer file file.goes) files)
has_firsts c [] has = tt
has_firsts c (file ∷ files) has =
    each-append (λ (one : Comer). HasBytes c one.2) (comer file file.goes) _ (has_comer c file file.goes has.0) (has_firsts c files has.1)

has_clones : (c : Case) (number : ℕ) (clones : List (SettledFile × ℕ)) → Each (λ (clone : SettledFile × ℕ). HasBytes c clone.0) clones
    → Each (λ (one : Comer). HasBytes c one.2) (map (λ (clone : SettlementClone). (clone.connection, clone.number, clone.original)) (placing.clones_from number clones))
has_clones c number [] has = tt
has_clones c number (clone ∷ clones) has = (has.0, has_clones c (number + 1) clones has.1)

has_wanted : (c : Case) (files : List SettledFile) → Each (HasBytes c) files → Each (λ (clone : SettledFile × ℕ). HasBytes c clone.0) (wanted_clones files)
has_wanted c [] has = tt
has_wanted c (file ∷ files) has =
    each-append (λ (clone : SettledFile × ℕ). HasBytes c clone.0) (map (λ connection. (file, connection)) (placing.further_connections file.goes)) (wanted_clones files)
    (each-map (λ (clone : SettledFile × ℕ). HasBytes c clone.0) (λ connection. (file, connection)) (placing.further_connections file.goes) (λ connection. has.0)) (has_wanted c files has.1)

has_comers : (c : Case) → Each (HasBytes c) (files_of c) → Each (λ (one : Comer). HasBytes c one.2) (comers (files_of c) (clones_of c))
has_comers c has =
    each-append (λ (one : Comer). HasBytes c one.2) (flat_map (λ file. comer file file.goes) (files_of c)) _ (has_firsts c (files_of c) has)
    (has_clones c (first_clone c) (wanted_clones (files_of c)) (has_wanted c (files_of c) has))

queue_same : (c : Case) → Stands c → (k : ℕ)
    → queue_after c.bytes (settled_over c (ended_all c)) (k, queue_at c.state k)
    ≡ staying (files_of c) (queue_at c.state k) ++ arriving c.state.next_arrival k (newcomers (files_of c) (clones_of c))
queue_same c s k =
    let at = placing_at (place c) c.ended.connection c.state.next_arrival in
    let left = without_files (queue_at c.state k) (map (λ (file : FlowFile). file.number) c.ended.taken) in
    let all = (settled_over c (ended_all c)).placed in
    let news = comers (files_of c) (clones_of c) in
    ap (put_all left) (placed-append c all k (returned at (ended_all c)) (arrived at (first_clone c) (ended_all c)))
    ∙ fold-append with_arrival left (placed_into c.bytes all k (returned at (ended_all c))) (placed_into c.bytes all k (arrived at (first_clone c) (ended_all c)))
    ∙ ap (λ queue. put_all queue (placed_into c.bytes all k (arrived at (first_clone c) (ended_all c)))) (queue-stays c all s k)
    ∙ ap (put_all (staying (files_of c) (queue_at c.state k))) (arrived_same c k)
    ∙ ap (put_all (staying (files_of c) (queue_at c.state k))) (arriving-same c all c.state.next_arrival k news (has_comers c s.bytes))
    ∙ put-arriving c.state.next_arrival k news (staying (files_of c) (queue_at c.state k)) (all_below c.state.next_arrival (files_of c) (queue_at c.state k) (arrival-below c s k))
    ∙ ap (λ xs. staying (files_of c) (queue_at c.state k) ++ arriving c.state.next_arrival k xs) (sym (comers-queued (files_of c) (clones_of c)))

map_among : {X Y : Type 0} (f g : X → Y) (xs : List X) → ((x : X) → Among x xs → f x ≡ g x) → map f xs ≡ map g xs
map_among f g [] each = refl
map_among f g (x ∷ xs) each = λ i. each x (inl refl) i ∷ map_among f g xs (λ y there. each y (inr there)) i

queues_same : (c : Case) → Stands c → map (queue_after c.bytes (settled_over c (ended_all c))) (enumerate_from 0 c.state.queues) ≡ (settle (session c) c.ended.outcome).queues
queues_same c s =
    map_among (queue_after c.bytes (settled_over c (ended_all c))) (λ queue. staying (files_of c) queue.1 ++ arriving c.state.next_arrival queue.0 (newcomers (files_of c) (clones_of c))) (enumerate_from 0 c.state.queues)
    (λ numbered there.
    let at = place_of 0 c.state.queues numbered there in
    let same : numbered.0 ≡ at.place = omega (arith, at.number) in
    let queue : queue_at c.state numbered.0 ≡ numbered.1 = ap (λ k. unwrap_or (slice_get c.state.queues k) []) same ∙ ap (λ found. unwrap_or found []) at.is in
    let one : (numbered.0, queue_at c.state numbered.0) ≡ numbered = λ i. (numbered.0, queue i) in
    subst (λ (q : ℕ × List QueuedFile). queue_after c.bytes (settled_over c (ended_all c)) q ≡ staying (files_of c) q.1 ++ arriving c.state.next_arrival q.0 (newcomers (files_of c) (clones_of c))) one (queue_same c s numbered.0))

-- ---- counters and counts

counts_same : (kind : Kind) (place index : ℕ) (counts : List ℕ) → with_count (generator_count kind place index) counts ≡ counts_after kind place index counts
counts_same (GenerateFlowFile count text) place index counts = refl
counts_same _ place index counts = refl

clone_count : (c : Case) → length (wanted (ended_all c)) ≡ length (clones_of c)
clone_count c =
    ap length (wanted-same c (files_of c)) ∙ length-map (wanted_clones (files_of c)) (as_ended c) ∙ sym (counted (first_clone c) (wanted_clones (files_of c)))
  where
    counted : (number : ℕ) (clones : List (SettledFile × ℕ)) → length (placing.clones_from number clones) ≡ length clones
    counted number [] = refl
    counted number (clone ∷ clones) = ap suc (counted (number + 1) clones)

newcomer_count : (c : Case) → length (firsts (ended_all c)) + length (wanted (ended_all c)) ≡ length (newcomers (files_of c) (clones_of c))
newcomer_count c =
    ap (λ n. length (firsts (ended_all c)) + n) (sym (length-clones (first_clone c) (wanted (ended_all c))))
    ∙ sym (length-append (firsts (ended_all c)) (clones_from (first_clone c) (wanted (ended_all c))))
    ∙ ap length (comers-placed c (first_clone c) (files_of c))
    ∙ length-map (comers (files_of c) (clones_of c)) (as_placed c)
    ∙ sym (length-map (comers (files_of c) (clones_of c)) as_queued)
    ∙ ap length (sym (comers-queued (files_of c) (clones_of c)))

-- ---- events and kin

-- the events aren't so many that their numbers wouldn't fit
abbrev pub EventsFit : Case → Type 0
EventsFit c = c.state.last_event + 1 + length (all_drafts (told c (files_of c)) c.ended.outcome.sent (first_clone c)) ≤ 2 ^ 64

-- with the sizes and the digests of their bytes
abbrev settled_told : Case → Settled
settled_told c = settled_over c (ended_all (by_bytes c))

events_same : (c : Case) → EventsFit c → (settled_told c).events ≡ numbered_from (c.state.last_event + 1) (drafts (session c) c.ended.outcome)
events_same c fit =
    let all = drafts (session c) c.ended.outcome in
    let same = drafts-same c c.ended.outcome in
    let many : length (all_drafts (told c (files_of c)) c.ended.outcome.sent (first_clone c)) ≡ length all = ap length same ∙ length-map all (λ (draft : Draft). draft.event) in
    ap (numbered_wrapping (c.state.last_event + 1)) same ∙ numbers-fit (c.state.last_event + 1) all (omega (arith, fit, many))

event_count : (c : Case) → EventsFit c → length (settled_told c).events ≡ length (drafts (session c) c.ended.outcome)
event_count c fit = ap length (events_same c fit) ∙ length-numbered (c.state.last_event + 1) (drafts (session c) c.ended.outcome)

kin_same : (c : Case) → EventsTellKin c.state → EventsFit c → ◌≡◌ {A = Kin} (union c.state.kin (from_list (kin_of_all (settled_told c).events))) (settle (session c) c.ended.outcome).kin
kin_same c tell fit =
    let more = (settled_told c).events in
    ap (λ kin. union kin (from_list (kin_of_all more))) tell
    ∙ kin_joined (kin_of_all c.state.events) (kin_of_all more)
    ∙ ap from_list (sym (flat_map-append kin_of c.state.events more))
    ∙ ap (λ events. from_list (kin_of_all (c.state.events ++ events))) (events_same c fit)
    ∙ sym (settle-tells (session c) c.ended.outcome tell)

-- ---- the state

pub over-queues : (c : Case) → Stands c → (state_after c.bytes c.state (settled_over c (ended_all c))).queues ≡ (settle (session c) c.ended.outcome).queues
over-queues c s = queues_same c s

pub over-events : (c : Case) → EventsFit c → (state_after c.bytes c.state (settled_told c)).events ≡ (settle (session c) c.ended.outcome).events
over-events c fit = ap (λ events. c.state.events ++ events) (events_same c fit)

pub over-kin : (c : Case) → EventsTellKin c.state → EventsFit c → (state_after c.bytes c.state (settled_told c)).kin ≡ (settle (session c) c.ended.outcome).kin
over-kin c tell fit = kin_same c tell fit

pub over-last : (c : Case) → EventsFit c → (state_after c.bytes c.state (settled_told c)).last_event ≡ (settle (session c) c.ended.outcome).last_event
over-last c fit = ap (λ count. c.state.last_event + count) (event_count c fit)

-- all else
pub over-rest : (c : Case)
    → record (state_after c.bytes c.state (settled_over c (ended_all c))) {
      queues = (settle (session c) c.ended.outcome).queues;
      events = (settle (session c) c.ended.outcome).events;
      kin = (settle (session c) c.ended.outcome).kin;
      last_event = (settle (session c) c.ended.outcome).last_event;
    }
    ≡ settle (session c) c.ended.outcome
over-rest c = λ i. record (settle (session c) c.ended.outcome) {
  next_number = first_clone c + clone_count c i;
  next_arrival = c.state.next_arrival + newcomer_count c i;
  counts = counts_same c.processor.kind c.ended.processor c.given.index c.state.counts i;
}
