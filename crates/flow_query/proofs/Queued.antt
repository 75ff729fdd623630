-- The lines of queues, from what is kept of their files.
use Rattle.std.proofs.Common.{◌≡◌, ℕ, ◌+◌, ◌<◌, ◌≤◌, ◌==◌, ◌^◌, Bool, true, false, cond, List, [], ◌∷◌, ◌++◌, length, map, drop, get_or, Ok, Err, refl, sym, ap, ◌∙◌, inl, inr, arith, length-drop}
use Rattle.std.specs.Prelude.{All, filter, fold, nat_lt}
use Rattle.std.specs.List.{enumerate_from, flat_map, sum_by, zip}
use Rattle.std.proofs.lemmas.Bool.{cases_Bool}
use Rattle.std.proofs.lemmas.List.{length-map, length-take-le}
use Rattle.std.proofs.lemmas.List.Elements.{All-nil, All-head, All-tail, All-weaker}
use Rattle.std.proofs.lemmas.List.Sums.{sum_by-cons, sum_by-le}
use Rattle.std.proofs.lemmas.List.FromFn.{length-enumerate_from, get_or-enumerate_from}
use Rattle.disk_trait.specs.Files.{Files}
use Rattle.disk_trait.specs.declared.file_name.Failed.{Failed}
use Rattle.flowfile_record.specs.NumberedItems.{with_item, with_items}
use Rattle.flowfile_record.specs.Stored.{Kept}
use Rattle.flowfile_record.specs.declared.TheConstants.{CONTENT_MAX}
use Rattle.flowfile_record.specs.declared.content.ContentRef.{ContentRef}
use Rattle.flowfile_record.specs.declared.stored.ActiveFile.{ActiveFile}
use Rattle.flowfile_record.proofs.ByNumber.{All-with, length-with_items}
use Rattle.checkpoint_store.specs.Consistent.{IsConsistent, IsFileIn}
use Rattle.content_repo.specs.Claims.{claim, content_in}
use Rattle.machine_model.specs.Changing.{with_arrival}
use Rattle.machine_model.specs.Files.{content_bytes}
use Rattle.machine_model.specs.State.{QueuedFile, State}
use Rattle.flow_report.specs.Texts.{connection_text}
use Rattle.flow_report.specs.Writing.{Writes}
use Rattle.store_core.specs.Seen.{no_flow, SeenState, kept_seen, IsSeenOn}
use Rattle.store_core.specs.State.{queued_active, queue_of, state_with, stands_for, live_contents}
use Rattle.store_core.proofs.Agreeing.{sound_of, stands_by_kept}
use Rattle.store_core.proofs.Seeing.{state_is}
use Rattle.store_core.proofs.Sound.{IsSoundIn, each_sound, unmap}
use Rattle.flow_query.specs.Parts.{waiting_arrival, waiting_size, waiting_of, waiting_in, waiting_at, waiting_text, line_text, lines_text}
use Rattle.flow_query.specs.Texts.{queued_text, queue_text, queues_text}
use Rattle.flow_query.specs.declared.waiting.Waiting.{Waiting}
use Rattle.flow_query.proofs.Arrivals.{all_in}
use Rattle.flow_query.proofs.Written.{Leaves, item-more, item-failed, items-done}

-- what a queued file's line says
abbrev shown : QueuedFile → Waiting
shown q = record { arrival = q.arrival; number = q.number; size = length q.bytes }

abbrev sized : (arrival number size : ℕ) → Waiting
sized arrival number size = record { arrival = arrival; number = number; size = size }

-- ---- one queue

put_shown : (q : QueuedFile) (queue : List QueuedFile) → map shown (with_arrival queue q) ≡ with_item waiting_arrival (shown q) (map shown queue)
put_shown q [] = refl
put_shown q (x ∷ queue) =
    elim (cases_Bool (nat_lt x.arrival q.arrival)) [
      | inl t ↦
          ap (λ (b : Bool). map shown (cond b (x ∷ with_arrival queue q) (q ∷ x ∷ queue))) t
          ∙ ap (λ (l : List Waiting). shown x ∷ l) (put_shown q queue)
          ∙ sym (ap (λ (b : Bool). cond b (shown x ∷ with_item waiting_arrival (shown q) (map shown queue)) (shown q ∷ shown x ∷ map shown queue)) t)
      | inr f ↦
          ap (λ (b : Bool). map shown (cond b (x ∷ with_arrival queue q) (q ∷ x ∷ queue))) f
          ∙ sym (ap (λ (b : Bool). cond b (shown x ∷ with_item waiting_arrival (shown q) (map shown queue)) (shown q ∷ shown x ∷ map shown queue)) f)
    ]

all_put : (files front : List QueuedFile) → map shown (fold with_arrival front files) ≡ with_items waiting_arrival (map shown files) (map shown front)
all_put [] front = refl
all_put (q ∷ files) front = all_put files (with_arrival front q) ∙ ap (with_items waiting_arrival (map shown files)) (put_shown q front)

-- each content is as long as its reference says
abbrev pub HaveSizes : (ContentRef → List ℕ) → List ActiveFile → Type 0
HaveSizes contents files = All (λ a. length (contents a.file.content) ≡ a.file.content.size) files

module _ (contents : ContentRef → List ℕ) (place : ℕ) where
  shown_by : (t : Bool) (a : ActiveFile) (files : List ActiveFile) → shown (queued_active contents a) ≡ waiting_of a
      → map shown (map (queued_active contents) (filter (λ x. x.connection == place) files)) ≡ waiting_in files place
      → map shown (map (queued_active contents) (cond t (a ∷ filter (λ x. x.connection == place) files) (filter (λ x. x.connection == place) files)))
      ≡ map waiting_of (cond t (a ∷ filter (λ x. x.connection == place) files) (filter (λ x. x.connection == place) files))
  shown_by true a files one rest =
      ap (λ (w : Waiting). w ∷ map shown (map (queued_active contents) (filter (λ x. x.connection == place) files))) one ∙ ap (λ (l : List Waiting). waiting_of a ∷ l) rest
  shown_by false a files one rest = rest

  shown_one : (a : ActiveFile) → length (contents a.file.content) ≡ a.file.content.size → shown (queued_active contents a) ≡ waiting_of a
  shown_one a size = ap (λ (n : ℕ). sized a.file.arrival a.file.number n) size

  shown_in : (files : List ActiveFile) → HaveSizes contents files → map shown (map (queued_active contents) (filter (λ a. a.connection == place) files)) ≡ waiting_in files place
  shown_in [] sizes = refl
  shown_in (a ∷ files) sizes =
      shown_by (a.connection == place) a files (shown_one a (All-head (λ x. length (contents x.file.content) ≡ x.file.content.size) a files sizes))
      (shown_in files (All-tail (λ x. length (contents x.file.content) ≡ x.file.content.size) a files sizes))

  shown_at : (files : List ActiveFile) → HaveSizes contents files → map shown (queue_of contents files place) ≡ waiting_at files place
  shown_at files sizes =
      all_put (map (queued_active contents) (filter (λ a. a.connection == place) files)) [] ∙ ap (λ (l : List Waiting). with_items waiting_arrival l []) (shown_in files sizes)

sizes_shown : (queue : List QueuedFile) → sum_by waiting_size (map shown queue) ≡ content_bytes queue
sizes_shown [] = refl
sizes_shown (q ∷ queue) =
    omega (arith, sum_by-cons waiting_size (shown q) (map shown queue), sum_by-cons (λ (x : QueuedFile). length x.bytes) q queue, sizes_shown queue)

texts_shown : (store : ℕ) (queue : List QueuedFile) → flat_map (waiting_text store) (map shown queue) ≡ flat_map (queued_text store) queue
texts_shown store [] = refl
texts_shown store (q ∷ queue) = ap (λ (l : List ℕ). queued_text store q ++ l) (texts_shown store queue)

line_shown : (store : ℕ) (id : List ℕ) (queue : List QueuedFile) (waiting : List Waiting) → map shown queue ≡ waiting → line_text store id waiting ≡ queue_text store (id, queue)
line_shown store id queue waiting are =
    ap (line_text store id) (sym are)
    ∙ ap (λ (n : ℕ). connection_text id n (sum_by waiting_size (map shown queue)) ++ flat_map (waiting_text store) (map shown queue)) (length-map queue shown)
    ∙ ap (λ (n : ℕ). connection_text id (length queue) n ++ flat_map (waiting_text store) (map shown queue)) (sizes_shown queue)
    ∙ ap (λ (l : List ℕ). connection_text id (length queue) (content_bytes queue) ++ l) (texts_shown store queue)

-- ---- all queues

lines_each : (store : ℕ) (contents : ContentRef → List ℕ) (files : List ActiveFile) (from : ℕ) (ids : List (List ℕ)) → HaveSizes contents files
    → flat_map (λ p. line_text store p.1 (waiting_at files p.0)) (enumerate_from from ids)
    ≡ flat_map (queue_text store) (zip ids (map (λ c. queue_of contents files c.0) (enumerate_from from ids)))
lines_each store contents files from [] sizes = refl
lines_each store contents files from (id ∷ ids) sizes =
    let first : line_text store id (waiting_at files from) ≡ queue_text store (id, queue_of contents files from) =
    line_shown store id (queue_of contents files from) (waiting_at files from) (shown_at contents from files sizes) in
    let rest = lines_each store contents files (from + 1) ids sizes in
    ap (λ (l : List ℕ). l ++ flat_map (λ p. line_text store p.1 (waiting_at files p.0)) (enumerate_from (from + 1) ids)) first
    ∙ ap (λ (l : List ℕ). queue_text store (id, queue_of contents files from) ++ l) rest

sound_size : (files : Files) (at : ContentRef) → IsSoundIn files at → length (content_in files at) ≡ at.size
sound_size files at sound =
    let covered : at.offset + at.size ≤ length (files (claim at.slot)) = sound.covered in
    length-take-le at.size (drop at.offset (files (claim at.slot))) (omega (arith, length-drop at.offset (files (claim at.slot)), covered))

have_sizes : (files : Files) (s : SeenState) → IsSeenOn files s → HaveSizes (content_in files) (kept_seen s).files
have_sizes files s seen =
    let k = kept_seen s in
    let whole = sound_of files k (state_with (content_in files) seen.events.events k) (sym (stands_by_kept no_flow 0 files k seen.kept) ∙ seen.stands) in
    All-weaker (λ (a : ActiveFile). IsSoundIn files a.file.content) (λ (a : ActiveFile). length (content_in files a.file.content) ≡ a.file.content.size)
    (λ a sound. sound_size files a.file.content sound) k.files (unmap (IsSoundIn files) k.files (each_sound files (live_contents k) whole.contents))

pub lines_are : (files : Files) (s : SeenState) (state : State) → IsSeenOn files s → stands_for no_flow 0 files ≡ Ok state
    → lines_text (kept_seen s) ≡ queues_text state.store (kept_seen s).connections state.queues
lines_are files s state seen is =
    let k = kept_seen s in
    lines_each k.store (content_in files) k.files 0 k.connections (have_sizes files s seen)
    ∙ ap (λ (x : State). queues_text x.store k.connections x.queues) (sym (state_is files s state seen is))

-- ---- connection by connection

abbrev line_at : Kept → ℕ × List ℕ → List ℕ
line_at k p = line_text k.store p.1 (waiting_at k.files p.0)

-- the lines of the connections from a place on
abbrev pub lines_from : Kept → ℕ → List ℕ
lines_from k place = flat_map (line_at k) (drop place (enumerate_from 0 k.connections))

line_is : (k : Kept) (place : ℕ) (id : List ℕ) (queue : List Waiting) → place < length k.connections → id ≡ get_or k.connections place id → queue ≡ waiting_at k.files place
    → line_text k.store id queue ≡ line_at k (get_or (enumerate_from 0 k.connections) place (place, id))
line_is k place id queue within here are =
    ap (line_text k.store id) are
    ∙ ap (λ (l : List ℕ). line_at k (place, l)) here
    ∙ ap (line_at k) (ap (λ (n : ℕ). (n, get_or k.connections place id)) (omega arith) ∙ sym (get_or-enumerate_from 0 k.connections place (place, id) within))

many_ids : (k : Kept) → length (enumerate_from 0 k.connections) ≡ length k.connections
many_ids k = length-enumerate_from 0 k.connections

pub line_more : (k : Kept) (place : ℕ) (id name : List ℕ) (queue : List Waiting) (b b' b'' : List ℕ) → place < length k.connections → id ≡ get_or k.connections place id → name ≡ id
    → queue ≡ waiting_at k.files place → Leaves (lines_text k) (lines_from k place) b b' → Writes (line_text k.store name queue) b' b'' (Ok tt) → Leaves (lines_text k) (lines_from k (place + 1)) b b''
line_more k place id name queue b b' b'' within here same are left writes =
    item-more (line_at k) (lines_text k) (enumerate_from 0 k.connections) place (place, id) (line_text k.store name queue) b b' b'' (omega (arith, many_ids k))
    (ap (λ (l : List ℕ). line_text k.store l queue) same ∙ line_is k place id queue within here are) left writes

pub line_failed : (k : Kept) (place : ℕ) (id name : List ℕ) (queue : List Waiting) (b b' b'' : List ℕ) (e : Failed) → place < length k.connections → id ≡ get_or k.connections place id → name ≡ id
    → queue ≡ waiting_at k.files place → Leaves (lines_text k) (lines_from k place) b b' → Writes (line_text k.store name queue) b' b'' (Err e) → Writes (lines_text k) b b'' (Err e)
line_failed k place id name queue b b' b'' e within here same are left writes =
    item-failed (line_at k) (lines_text k) (enumerate_from 0 k.connections) place (place, id) (line_text k.store name queue) b b' b'' e (omega (arith, many_ids k))
    (ap (λ (l : List ℕ). line_text k.store l queue) same ∙ line_is k place id queue within here are) left writes

pub lines_done : (k : Kept) (place : ℕ) (b b' : List ℕ) → length k.connections ≤ place → Leaves (lines_text k) (lines_from k place) b b' → b' ≡ b ++ lines_text k
lines_done k place b b' past left = (items-done (line_at k) (lines_text k) (enumerate_from 0 k.connections) place b b' (omega (arith, many_ids k)) left).ok

-- ---- sizes fit

all_put_in : (P : Waiting → Type 0) (news items : List Waiting) → All P news → All P items → All P (with_items waiting_arrival news items)
all_put_in P [] items all others = others
all_put_in P (w ∷ news) items all others = all_put_in P news (with_item waiting_arrival w items) (All-tail P w news all) (All-with waiting_arrival P w items (All-head P w news all) others)

length-kept : (files : List ActiveFile) (place : ℕ) → length (waiting_in files place) ≤ length files
length-kept [] place = omega arith
length-kept (a ∷ files) place = by (a.connection == place) (length-kept files place)
  where
    by : (t : Bool) → length (waiting_in files place) ≤ length files
        → length (map waiting_of (cond t (a ∷ filter (λ x. x.connection == place) files) (filter (λ x. x.connection == place) files))) ≤ length (a ∷ files)
    by true le = omega (arith, le)
    by false le = omega (arith, le)

pub sizes_fit : (k : Kept) (place : ℕ) → IsConsistent k → sum_by waiting_size (waiting_at k.files place) < 2 ^ 64
sizes_fit k place consistent =
    let queue = waiting_at k.files place in
    let small : All (λ (w : Waiting). w.size ≤ CONTENT_MAX) queue =
    all_put_in (λ w. w.size ≤ CONTENT_MAX) (waiting_in k.files place) []
    (all_in place (λ w. w.size ≤ CONTENT_MAX) k.files (All-weaker (IsFileIn k) (λ (a : ActiveFile). a.file.content.size ≤ CONTENT_MAX) (λ a is. is.encoded.file.content.size) k.files consistent.files))
    (All-nil (λ w. w.size ≤ CONTENT_MAX)) in
    let bound = sum_by-le waiting_size CONTENT_MAX queue small in
    let many : length queue ≡ 0 + length (waiting_in k.files place) = length-with_items waiting_arrival (waiting_in k.files place) [] in
    let few = length-kept k.files place in
    let live = consistent.live_files in
    omega (arith, bound, many, few, live)
