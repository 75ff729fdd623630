-- That the summary of what a run left is that of the machine's state.
use Rattle.std.proofs.Common.{◌≡◌, ℕ, ◌+◌, ◌-◌, ◌==◌, Bool, true, false, cond, List, [], ◌∷◌, ◌++◌, length, map, refl, sym, ap, ◌∙◌, inl, inr, arith}
use Rattle.std.specs.Prelude.{All, codes, decimal, filter, fold, nat_lt, slice_index}
use Rattle.std.specs.List.{enumerate_from, flat_map, sum_by, zip}
use Rattle.std.proofs.lemmas.Bool.{cases_Bool}
use Rattle.std.proofs.lemmas.List.Elements.{All-head, All-tail}
use Rattle.std.proofs.lemmas.List.Sums.{sum_by-cons}
use Rattle.flowfile_record.specs.Events.{code_of}
use Rattle.flowfile_record.specs.Stored.{Kept, kept_of}
use Rattle.flowfile_record.specs.declared.content.ContentRef.{ContentRef}
use Rattle.flowfile_record.specs.declared.event.Event.{Event}
use Rattle.flowfile_record.specs.declared.stored.ActiveFile.{ActiveFile}
use Rattle.flowfile_record.specs.declared.stored.SwapBatch.{SwapBatch}
use Rattle.machine_model.specs.Changing.{with_arrival}
use Rattle.machine_model.specs.Files.{content_bytes}
use Rattle.machine_model.specs.State.{Machine, QueuedFile, State}
use Rattle.machine_model.specs.declared.flow.Connection.{Connection}
use Rattle.machine_model.specs.declared.flow.Flow.{Flow}
use Rattle.prov_store.specs.State.{counts_of}
use Rattle.store_core.specs.Flow as store
use Rattle.store_core.specs.State.{queue_of, queued_active}
use Rattle.store_core.proofs.Sound.{unmap}
use Rattle.engine_change.specs.Expiring.{StandsForItsBytes}
use Rattle.flow_report.specs.Summary.{connection_batches, connection_bytes, connections_text, count_text, connection_files, kinds, summary}
use Rattle.flow_report.specs.Texts.{connection_text, line_of}
use Rattle.flow_query.proofs.Counted.{length-queue}
use Rattle.run_law.specs.declared.ended.Ended.{Ended}
use Rattle.engine_steps.specs.Closing.{Shows}
use Rattle.engine_steps.specs.declared.close.Closed.{Closed}
use Rattle.run_top.specs.Printing.{closing_text, count_of_kind, end_line, end_text, machine_summary, queue_line}

-- ---- the bytes of a queue

bytes_with : (q : QueuedFile) (queue : List QueuedFile) → content_bytes (with_arrival queue q) ≡ length q.bytes + content_bytes queue
bytes_with q [] = sum_by-cons (λ (x : QueuedFile). length x.bytes) q []
bytes_with q (x ∷ queue) =
    elim (cases_Bool (nat_lt x.arrival q.arrival)) [
      | inl t ↦
          ap (λ (b : Bool). content_bytes (cond b (x ∷ with_arrival queue q) (q ∷ x ∷ queue))) t
          ∙ omega (arith, sum_by-cons (λ (y : QueuedFile). length y.bytes) x (with_arrival queue q), bytes_with q queue, sum_by-cons (λ (y : QueuedFile). length y.bytes) x queue)
      | inr f ↦ ap (λ (b : Bool). content_bytes (cond b (x ∷ with_arrival queue q) (q ∷ x ∷ queue))) f ∙ sum_by-cons (λ (y : QueuedFile). length y.bytes) q (x ∷ queue)
    ]

bytes_fold : (files front : List QueuedFile) → content_bytes (fold with_arrival front files) ≡ content_bytes front + content_bytes files
bytes_fold [] front = omega arith
bytes_fold (f ∷ files) front =
    let rest = bytes_fold files (with_arrival front f) in
    omega (arith, rest, bytes_with f front, sum_by-cons (λ (y : QueuedFile). length y.bytes) f files)

abbrev HaveSizes : (ContentRef → List ℕ) → List ActiveFile → Type 0
HaveSizes contents files = All (λ a. StandsForItsBytes contents a.file.content) files

module _ (contents : ContentRef → List ℕ) (place : ℕ) where
  abbrev Here : List ActiveFile → List ActiveFile
  Here files = filter (λ a. a.connection == place) files

  bytes_listed : (files : List ActiveFile) → HaveSizes contents files → content_bytes (map (queued_active contents) (Here files)) ≡ sum_by (λ a. a.file.content.size) (Here files)
  bytes_listed [] all = refl
  bytes_listed (a ∷ files) all =
      by (a.connection == place) (All-head (λ x. StandsForItsBytes contents x.file.content) a files all).size (bytes_listed files (All-tail (λ x. StandsForItsBytes contents x.file.content) a files all))
    where
      by : (t : Bool) → length (contents a.file.content) ≡ a.file.content.size → content_bytes (map (queued_active contents) (Here files)) ≡ sum_by (λ x. x.file.content.size) (Here files)
          → content_bytes (map (queued_active contents) (cond t (a ∷ Here files) (Here files))) ≡ sum_by (λ x. x.file.content.size) (cond t (a ∷ Here files) (Here files))
      by true size rest =
          omega (arith, size, rest, sum_by-cons (λ (y : QueuedFile). length y.bytes) (queued_active contents a) (map (queued_active contents) (Here files)), sum_by-cons (λ (x : ActiveFile). x.file.content.size) a (Here files))
      by false size rest = rest

  queue_bytes : (files : List ActiveFile) → HaveSizes contents files → content_bytes (queue_of contents files place) ≡ sum_by (λ a. a.file.content.size) (Here files)
  queue_bytes files all = omega (arith, bytes_fold (map (queued_active contents) (Here files)) [], bytes_listed files all)

-- ---- the lines of connections

module _ (contents : ContentRef → List ℕ) (k : Kept) (none : k.batches ≡ []) (all : HaveSizes contents k.files) where
  files_are : (place : ℕ) → connection_files place k ≡ length (queue_of contents k.files place)
  files_are place =
      let batches : sum_by (λ (b : SwapBatch). b.files) (connection_batches place k) ≡ 0 = ap (λ (l : List SwapBatch). sum_by (λ (b : SwapBatch). b.files) (filter (λ b. b.connection == place) l)) none in
      omega (arith, batches, length-queue contents k.files place)

  bytes_are : (place : ℕ) → connection_bytes place k ≡ content_bytes (queue_of contents k.files place)
  bytes_are place =
      let batches : sum_by (λ (b : SwapBatch). b.bytes) (connection_batches place k) ≡ 0 = ap (λ (l : List SwapBatch). sum_by (λ (b : SwapBatch). b.bytes) (filter (λ b. b.connection == place) l)) none in
      omega (arith, batches, queue_bytes contents place k.files all)

  lines_are : (from : ℕ) (connections : List Connection)
      → flat_map (λ at. connection_text at.1.id (connection_files at.0 k) (connection_bytes at.0 k)) (enumerate_from from connections)
      ≡ flat_map queue_line (zip connections (map (λ c. queue_of contents k.files c.0) (enumerate_from from (map (λ (c : Connection). c.id) connections))))
  lines_are from [] = refl
  lines_are from (c ∷ connections) =
      let rest = lines_are (from + 1) connections in
      ap (λ (n : ℕ). connection_text c.id n (connection_bytes from k) ++ flat_map (λ at. connection_text at.1.id (connection_files at.0 k) (connection_bytes at.0 k)) (enumerate_from (from + 1) connections)) (files_are from)
      ∙ ap (λ (n : ℕ). connection_text c.id (length (queue_of contents k.files from)) n ++ flat_map (λ at. connection_text at.1.id (connection_files at.0 k) (connection_bytes at.0 k)) (enumerate_from (from + 1) connections)) (bytes_are from)
      ∙ ap (λ (l : List ℕ). queue_line (c, queue_of contents k.files from) ++ l) rest

-- ---- the counts of events

counts_are : (events : List Event) → flat_map (λ kind. count_text kind (slice_index (counts_of events) (code_of kind - 1))) kinds ≡ flat_map (λ kind. count_text kind (count_of_kind events kind)) kinds
unfolding counts_of
counts_are events = refl

-- ---- all of it

pub summary_is : (flow : Flow) (m : Machine) (closed : Closed) → Shows flow m closed → summary flow (kept_of closed.state) closed.left closed.events ≡ machine_summary flow m
summary_is flow m closed shows =
    let k : Kept = kept_of closed.state in
    let sizes : HaveSizes shows.state.contents k.files = unmap (StandsForItsBytes shows.state.contents) k.files shows.state.read in
    let ids : k.connections ≡ map (λ (c : Connection). c.id) flow.connections = ap (λ (f : store.Flow). f.connections) shows.state.flow_is in
    let queues : map (λ c. queue_of shows.state.contents k.files c.0) (enumerate_from 0 k.connections) ≡ m.state.queues = ap (λ (s : State). s.queues) shows.state.is.is in
    let connections : connections_text flow.connections k ≡ flat_map queue_line (zip flow.connections m.state.queues)
    = lines_are shows.state.contents k shows.state.in_queues sizes 0 flow.connections
    ∙ ap (λ (l : List (List ℕ)). flat_map queue_line (zip flow.connections (map (λ c. queue_of shows.state.contents k.files c.0) (enumerate_from 0 l)))) (sym ids)
    ∙ ap (λ (l : List (List QueuedFile)). flat_map queue_line (zip flow.connections l)) queues in
    let events : flat_map (λ kind. count_text kind (slice_index closed.events.counts (code_of kind - 1))) kinds ≡ flat_map (λ kind. count_text kind (count_of_kind m.state.events kind)) kinds
    = ap (λ (l : List ℕ). flat_map (λ kind. count_text kind (slice_index l (code_of kind - 1))) kinds) shows.state.counts ∙ counts_are m.state.events in
    λ i. connections i ++ (line_of (codes "inbox " ∷ decimal (shows.left i) ∷ []) ++ events i)

pub text_is : (flow : Flow) (ended : Ended) (m : Machine) (closed : Closed) → Shows flow m closed → closing_text flow ended closed ≡ end_text flow ended m
text_is flow ended m closed shows = ap (λ (l : List ℕ). l ++ end_line flow ended) (summary_is flow m closed shows)
