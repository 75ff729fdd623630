-- What is kept is a valid state of the machine: its queues have the live files, each once, by arrival.
use Rattle.std.proofs.Common.{◌≡◌, ◌≢◌, ◌⊎◌, inl, inr, ℕ, zero, suc, ◌+◌, ◌<◌, ◌≤◌, Bool, true, false, cond, List, [], ◌∷◌, length, map, refl, sym, ap, subst, ◌∙◌, arith, get_or}
use Rattle.std.specs.Prelude.{◌==◌, All, Contains, IfSome, Option, None, Some, Ok, filter, fold, is_some, nat_lt, slice_get, unwrap_or}
use Rattle.std.specs.List.{AllPairs, enumerate_from, range_with_len}
use Rattle.std.proofs.lemmas.Bool.{cases_lt, eqb-true, eq-eqb}
use Rattle.std.proofs.lemmas.List.Elements.{All-nil, All-cons, All-map, All-weaker, All-contains}
use Rattle.std.proofs.lemmas.List.{length-map}
use Rattle.std.proofs.lemmas.List.FromFn.{length-enumerate_from}
use Rattle.std.proofs.lemmas.List.Kept.{AllPairs-cons}
use Rattle.disk_trait.specs.Files.{Files}
use Rattle.flowfile_record.specs.NumberedItems.{AscendsByNumber}
use Rattle.flowfile_record.specs.Stored.{Kept}
use Rattle.flowfile_record.specs.declared.content.ContentRef.{ContentRef}
use Rattle.flowfile_record.specs.declared.event.Event.{Event}
use Rattle.flowfile_record.specs.declared.stored.ActiveFile.{ActiveFile}
use Rattle.checkpoint_store.specs.Consistent.{AreDistinctBy, IsConsistent, IsFileIn}
use Rattle.content_repo.specs.Claims.{content_in}
use Rattle.machine_model.specs.declared.flow.Flow.{Flow}
use Rattle.machine_model.specs.Changing.{with_arrival}
use Rattle.machine_model.specs.Files.{queue_at}
use Rattle.machine_model.specs.State.{QueuedFile}
use Rattle.machine_model.specs.Valid.{AreByArrival, AreNumbered, HasBatch, HasBatchBelow, IsValid, files_of_all}
use Rattle.machine_model.proofs.Among.{Among, among_contained, contains_among, is_made, keeps, kept_by as passed_by, makes}
use Rattle.machine_model.proofs.Keyed.{counted, differ_from_once, numbered}
use Rattle.machine_model.proofs.Ordered.{pairs_nil}
use Rattle.machine_model.proofs.Tally.{at_most, at_place, bit, many, tally, tally-flat_map, tally-le, tally-map, tally-none, tally-plus, tally-same}
use Rattle.store_core.specs.Flow.{flow_in}
use Rattle.prov_store.specs.Events.{events_in}
use Rattle.prov_store.specs.State.{AreNumberedFrom}
use Rattle.store_core.specs.State.{queued_active, queue_of, state_with, stands_for}
use Rattle.store_core.specs.Store.{StoreState, kept_by, FilesHold}
use Rattle.store_core.specs.Valid.{IsLive}
use Rattle.store_core.proofs.Agreeing.{stands_by_kept, state_of_sound}
use Rattle.store_core.proofs.ByKey.{Ascends, ascends_fold}

-- ---- how much a queue weighs

tally_put : (w : QueuedFile → ℕ) (f : QueuedFile) (queue : List QueuedFile) → tally w (with_arrival queue f) ≡ w f + tally w queue
tally_put w f [] = refl
tally_put w f (first ∷ queue) =
    let rest = tally_put w f queue in
    elim (nat_lt first.arrival f.arrival) as (λ b. tally w (cond b (first ∷ with_arrival queue f) (f ∷ first ∷ queue)) ≡ w f + (w first + tally w queue)) [
      | true ↦ omega (arith, rest)
      | false ↦ refl
    ]

tally_fold : (w : QueuedFile → ℕ) (files queue : List QueuedFile) → tally w (fold with_arrival queue files) ≡ tally w queue + tally w files
tally_fold w [] queue = omega arith
tally_fold w (f ∷ files) queue = omega (arith, tally_fold w files (with_arrival queue f), tally_put w f queue)

tally_filter : {X : Type 0} (w : X → ℕ) (p : X → Bool) (xs : List X) → tally w (filter p xs) ≡ tally (λ x. cond (p x) (w x) 0) xs
tally_filter w p [] = refl
tally_filter w p (x ∷ xs) =
    let rest = tally_filter w p xs in
    elim (p x) as (λ b. tally w (cond b (x ∷ filter p xs) (filter p xs)) ≡ cond b (w x) 0 + tally (λ y. cond (p y) (w y) 0) xs) [
      | true ↦ omega (arith, rest)
      | false ↦ omega (arith, rest)
    ]

module _ (contents : ContentRef → List ℕ) where
  -- what a live file weighs in the queue of a place
  abbrev here : (QueuedFile → ℕ) → ℕ → ActiveFile → ℕ
  here w place a = cond (a.connection == place) (w (queued_active contents a)) 0

  tally_queue : (w : QueuedFile → ℕ) (files : List ActiveFile) (place : ℕ) → tally w (queue_of contents files place) ≡ tally (here w place) files
  tally_queue w files place =
      tally_fold w (map (queued_active contents) (filter (λ a. a.connection == place) files)) []
      ∙ (let mapped = tally-map w (queued_active contents) (filter (λ a. a.connection == place) files) in omega (arith, mapped))
      ∙ tally_filter (λ a. w (queued_active contents a)) (λ a. a.connection == place) files

  queue_within : (w : QueuedFile → ℕ) (files : List ActiveFile) (place : ℕ) → tally w (queue_of contents files place) ≤ tally w (map (queued_active contents) files)
  queue_within w files place =
      let one = tally_queue w files place in
      let all = tally-le (here w place) (λ a. w (queued_active contents a)) (λ a. at_most (a.connection == place) (w (queued_active contents a))) files in
      omega (arith, one, all, tally-map w (queued_active contents) files)

  places_within : (w : QueuedFile → ℕ) (files : List ActiveFile) (connections : List (List ℕ))
      → tally (λ (c : ℕ × List ℕ). tally (here w c.0) files) (enumerate_from 0 connections) ≤ tally (λ a. w (queued_active contents a)) files
  places_within w [] connections = omega (arith, tally-none (enumerate_from 0 connections))
  places_within w (a ∷ files) connections =
      let all = places_within w files connections in
      let places = enumerate_from 0 connections in
      let parts = tally-plus (λ (c : ℕ × List ℕ). here w c.0 a) (λ (c : ℕ × List ℕ). tally (here w c.0) files) places in
      let one = at_place a.connection (w (queued_active contents a)) 0 connections in
      omega (arith, parts, one, all)

  -- all queues together weigh no more than the live files
  queues_within : (w : QueuedFile → ℕ) (events : List Event) (k : Kept) → tally w (files_of_all (state_with contents events k)) ≤ tally w (map (queued_active contents) k.files)
  queues_within w events k =
      let places = enumerate_from 0 k.connections in
      let queues = map (λ (c : ℕ × List ℕ). queue_of contents k.files c.0) places in
      let flat = tally-flat_map w (λ (queue : List QueuedFile). queue) queues in
      let mapped = tally-map (tally w) (λ (c : ℕ × List ℕ). queue_of contents k.files c.0) places in
      let each = tally-same (λ (c : ℕ × List ℕ). tally w (queue_of contents k.files c.0)) (λ (c : ℕ × List ℕ). tally (here w c.0) k.files) (λ c. tally_queue w k.files c.0) places in
      omega (arith, flat, mapped, each, places_within w k.files k.connections, tally-map w (queued_active contents) k.files)

-- ---- numbers and arrivals

ascending_distinct : {A : Type 0} (number : A → ℕ) (items : List A) → AscendsByNumber number items → AreDistinctBy number items
ascending_distinct number [] ascends = tt
ascending_distinct number (item ∷ items) ascends = (
  All-weaker (λ later. number item < number later) (λ later. number item ≢ number later) (λ later lt e. omega (arith, lt, e)) items ascends.0,
  ascending_distinct number items ascends.1,
)

differ_mapped : {A : Type 0} (g : A → QueuedFile) (key : QueuedFile → ℕ) (xs : List A) → AreDistinctBy (λ a. key (g a)) xs → AllPairs (λ one other. key one ≢ key other) (map g xs)
differ_mapped g key [] distinct = pairs_nil (λ one other. key one ≢ key other)
differ_mapped g key (x ∷ xs) distinct =
    AllPairs-cons (λ one other. key one ≢ key other) (g x) (map g xs)
    (All-map (λ f. key (g x) ≢ key f) g xs distinct.0)
    (differ_mapped g key xs distinct.1)

module _ (contents : ContentRef → List ℕ) (events : List Event) (k : Kept) (is : IsConsistent k) where
  numbers_of_live : AreNumbered (λ f. f.number) k.next_number (map (queued_active contents) k.files)
  numbers_of_live = record {
    first = is.counters.next_number;
    differ = differ_mapped (queued_active contents) (λ f. f.number) k.files (ascending_distinct (λ a. a.file.number) k.files is.numbers);
    within = All-map (λ (f : QueuedFile). (1 ≤ f.number) × (f.number < k.next_number)) (queued_active contents) k.files
        (All-weaker (IsFileIn k) (λ a. (1 ≤ a.file.number) × (a.file.number < k.next_number))
        (λ a known. (let one = known.encoded.file.first_number in omega (arith, one), known.number)) k.files is.files);
  }

  arrivals_of_live : AreNumbered (λ f. f.arrival) k.next_arrival (map (queued_active contents) k.files)
  arrivals_of_live = record {
    first = is.counters.next_arrival;
    differ = differ_mapped (queued_active contents) (λ f. f.arrival) k.files is.arrivals;
    within = All-map (λ (f : QueuedFile). (1 ≤ f.arrival) × (f.arrival < k.next_arrival)) (queued_active contents) k.files
        (All-weaker (IsFileIn k) (λ a. (1 ≤ a.file.arrival) × (a.file.arrival < k.next_arrival)) (λ a known. (known.first_arrival, known.arrival)) k.files is.files);
  }

  numbered_all : (key : QueuedFile → ℕ) (next : ℕ) → AreNumbered key next (map (queued_active contents) k.files) → AreNumbered key next (files_of_all (state_with contents events k))
  numbered_all key next of_live =
      let all = files_of_all (state_with contents events k) in
      let live = counted key next (map (queued_active contents) k.files) of_live in
      let within : (n : ℕ) → many key n all ≤ many key n (map (queued_active contents) k.files) = λ n. queues_within contents (λ f. bit (key f == n)) events k in
      numbered key next all (record {
        first = live.first;
        once = λ n. omega (arith, within n, live.once n);
        none = λ n le. omega (arith, within n, live.none n le);
        some = omega (arith, within 0, live.some);
      })

  -- ---- by arrival

  ordered : (place : ℕ) → AreByArrival (queue_of contents k.files place)
  ordered place =
      let queue = queue_of contents k.files place in
      let live = counted (λ (f : QueuedFile). f.arrival) k.next_arrival (map (queued_active contents) k.files) arrivals_of_live in
      let apart = differ_from_once (λ (f : QueuedFile). f.arrival) queue (λ n. omega (arith, queue_within contents (λ f. bit (f.arrival == n)) k.files place, live.once n)) in
      let rises = rising queue (ascends_fold (λ (f : QueuedFile). f.arrival) (map (queued_active contents) (filter (λ a. a.connection == place) k.files)) [] tt) in
      λ i j d before within. let ne = apart i j d before within in let le = rises i j d before within in omega (arith, le, ne)
    where
      rising : (files : List QueuedFile) → Ascends (λ (f : QueuedFile). f.arrival) files → AllPairs (λ earlier later. earlier.arrival ≤ later.arrival) files
      rising [] ascends = pairs_nil (λ earlier later. earlier.arrival ≤ later.arrival)
      rising (f ∷ files) ascends = AllPairs-cons (λ earlier later. earlier.arrival ≤ later.arrival) f files ascends.0 (rising files ascends.1)

-- ---- what stands in a queue

past_first : (f first x : QueuedFile) (queue more : List QueuedFile) → (Among x more → Among x (f ∷ queue)) → Among x (first ∷ more) → Among x (f ∷ first ∷ queue)
past_first f first x queue more was (inl is) = inr (inl is)
past_first f first x queue more was (inr h) = further (was h)
  where
    further : Among x (f ∷ queue) → Among x (f ∷ first ∷ queue)
    further (inl is) = inl is
    further (inr h) = inr (inr h)

put_had : (f x : QueuedFile) (queue : List QueuedFile) → Among x (with_arrival queue f) → Among x (f ∷ queue)
put_had f x [] h = h
put_had f x (first ∷ queue) h =
    elim (nat_lt first.arrival f.arrival) as (λ b. Among x (cond b (first ∷ with_arrival queue f) (f ∷ first ∷ queue)) → Among x (f ∷ first ∷ queue)) [
      | true ↦ λ h. past_first f first x queue (with_arrival queue f) (λ h. put_had f x queue h) h
      | false ↦ λ h. h
    ] h

behind_first : (f first x : QueuedFile) (queue more : List QueuedFile) → (Among x (f ∷ queue) → Among x more) → Among x (f ∷ first ∷ queue) → Among x (first ∷ more)
behind_first f first x queue more put (inl is) = inr (put (inl is))
behind_first f first x queue more put (inr (inl is)) = inl is
behind_first f first x queue more put (inr (inr h)) = inr (put (inr h))

put_has : (f x : QueuedFile) (queue : List QueuedFile) → Among x (f ∷ queue) → Among x (with_arrival queue f)
put_has f x [] h = h
put_has f x (first ∷ queue) h =
    elim (nat_lt first.arrival f.arrival) as (λ b. Among x (cond b (first ∷ with_arrival queue f) (f ∷ first ∷ queue))) [
      | true ↦ behind_first f first x queue (with_arrival queue f) (λ h. put_has f x queue h) h
      | false ↦ h
    ]

of_first : (f x : QueuedFile) (queue files : List QueuedFile) → Among x (f ∷ queue) → Among x queue ⊎ Among x (f ∷ files)
of_first f x queue files (inl is) = inr (inl is)
of_first f x queue files (inr h) = inl h

fold_had : (x : QueuedFile) (files queue : List QueuedFile) → Among x (fold with_arrival queue files) → Among x queue ⊎ Among x files
fold_had x [] queue h = inl h
fold_had x (f ∷ files) queue h =
    elim (fold_had x files (with_arrival queue f) h) [
      | inl early ↦ of_first f x queue files (put_had f x queue early)
      | inr late ↦ inr (inr late)
    ]

fold_has : (x : QueuedFile) (files queue : List QueuedFile) → Among x queue ⊎ Among x files → Among x (fold with_arrival queue files)
fold_has x [] queue (inl h) = h
fold_has x [] queue (inr h) = absurd h
fold_has x (f ∷ files) queue (inl h) = fold_has x files (with_arrival queue f) (inl (put_has f x queue (inr h)))
fold_has x (f ∷ files) queue (inr (inl is)) = fold_has x files (with_arrival queue f) (inl (put_has f x queue (inl is)))
fold_has x (f ∷ files) queue (inr (inr h)) = fold_has x files (with_arrival queue f) (inr h)

-- ---- the queue at a place

abbrev Queues : Type 0
Queues = ℕ → List QueuedFile

abbrev at : Queues → (from : ℕ) → List (List ℕ) → ℕ → List QueuedFile
at queues from names place = unwrap_or (slice_get (map (λ (c : ℕ × List ℕ). queues c.0) (enumerate_from from names)) place) []

there : (queues : Queues) (from place : ℕ) (names : List (List ℕ)) → place < length names → at queues from names place ≡ queues (from + place)
there queues from place [] lt = absurd (omega (arith, lt))
there queues from zero (name ∷ names) lt = ap queues (omega arith)
there queues from (suc place) (name ∷ names) lt = there queues (from + 1) place names (omega (arith, lt)) ∙ ap queues (omega arith)

past : (queues : Queues) (from place : ℕ) (names : List (List ℕ)) → length names ≤ place → at queues from names place ≡ []
past queues from place [] le = refl
past queues from zero (name ∷ names) le = absurd (omega (arith, le))
past queues from (suc place) (name ∷ names) le = past queues (from + 1) place names (omega (arith, le))

module _ (contents : ContentRef → List ℕ) (events : List Event) (k : Kept) where
  queue_there : (place : ℕ) → place < length k.connections → queue_at (state_with contents events k) place ≡ queue_of contents k.files place
  queue_there place lt = there (queue_of contents k.files) 0 place k.connections lt ∙ ap (queue_of contents k.files) (omega arith)

  queue_past : (place : ℕ) → length k.connections ≤ place → queue_at (state_with contents events k) place ≡ []
  queue_past place le = past (queue_of contents k.files) 0 place k.connections le

  live_in_queue : (place : ℕ) (file : QueuedFile) → Among file (queue_of contents k.files place) → IsLive contents k place file
  live_in_queue place file h =
      elim (fold_had file (map (queued_active contents) (filter (λ a. a.connection == place) k.files)) [] h) [
        | inl none ↦ absurd none
        | inr made ↦
            let from = is_made (queued_active contents) (filter (λ a. a.connection == place) k.files) file made in
            let passed = passed_by (λ (a : ActiveFile). a.connection == place) k.files from.source from.there in
            record {
              active = from.source;
              there = contains_among from.source k.files passed.0;
              connection = eqb-true from.source.connection place passed.1;
              is = from.is;
            }
      ]

  pub queued_is_live : (place : ℕ) (file : QueuedFile) → Contains (queue_at (state_with contents events k) place) file → IsLive contents k place file
  queued_is_live place file has =
      elim (cases_lt place (length k.connections)) [
        | inl lt ↦ live_in_queue place file (among_contained file (queue_of contents k.files place) (subst (λ (queue : List QueuedFile). Contains queue file) (queue_there place lt) has))
        | inr le ↦ absurd (among_contained file [] (subst (λ (queue : List QueuedFile). Contains queue file) (queue_past place le) has))
      ]

  pub live_is_queued : (a : ActiveFile) → IsConsistent k → Contains k.files a → Contains (queue_at (state_with contents events k) a.connection) (queued_active contents a)
  live_is_queued a is has =
      let within = (All-contains (IsFileIn k) k.files a is.files has).connection in
      let passes = keeps (λ (b : ActiveFile). b.connection == a.connection) k.files a (among_contained a k.files has) (eq-eqb a.connection a.connection refl) in
      let mapped = makes (queued_active contents) (filter (λ b. b.connection == a.connection) k.files) a passes in
      let queue = fold_has (queued_active contents a) (map (queued_active contents) (filter (λ b. b.connection == a.connection) k.files)) [] (inr mapped) in
      subst (λ (files : List QueuedFile). Contains files (queued_active contents a)) (sym (queue_there a.connection within))
      (contains_among (queued_active contents a) (queue_of contents k.files a.connection) queue)

  -- ---- no file is swapped out

  none_of : (batch : Option ℕ) → bit (is_some batch) ≡ 0 → batch ≡ None
  none_of None none = refl
  none_of (Some n) some = absurd (omega (arith, some))

  unswapped : (next : ℕ) (files : List QueuedFile) → tally (λ f. bit (is_some f.batch)) files ≡ 0 → All (HasBatchBelow next) files
  unswapped next [] none = All-nil (HasBatchBelow next)
  unswapped next (f ∷ files) none =
      All-cons (HasBatchBelow next) f files
      (subst (λ (batch : Option ℕ). IfSome batch (λ n. (1 ≤ n) × (n < next))) (sym (none_of f.batch (omega (arith, none)))) tt)
      (unswapped next files (omega (arith, none)))

  no_batches : All (HasBatchBelow k.next_batch) (files_of_all (state_with contents events k))
  no_batches =
      let within = queues_within contents (λ f. bit (is_some f.batch)) events k in
      let live = tally-map (λ (f : QueuedFile). bit (is_some f.batch)) (queued_active contents) k.files in
      unswapped k.next_batch (files_of_all (state_with contents events k)) (omega (arith, within, live, tally-none k.files))

  no_batch : (place batch : ℕ) → HasBatch (queue_at (state_with contents events k) place) batch → ⊥
  no_batch place batch has =
      let queue = queue_at (state_with contents events k) place in
      let from = is_made (λ (f : QueuedFile). f.batch) queue (Some batch) (among_contained (Some batch) (map (λ f. f.batch) queue) has) in
      let live = queued_is_live place from.source (contains_among from.source queue from.there) in
      let never : None ≡ Some batch = ap (λ (f : QueuedFile). f.batch) live.is ∙ from.is in
      cc

  -- ---- the state

  pub kept_is_valid : (flow : Flow) → IsConsistent k → AreNumberedFrom 1 events → length events ≡ k.last_event → length k.connections ≡ length flow.connections → length k.counts ≡ length flow.processors
      → IsValid flow (state_with contents events k)
  kept_is_valid flow is in_row last connections counts =
      let no_line : k.line ≡ 0 = (is.encoded.first refl).1 in
      record {
        queues = length-map (enumerate_from 0 k.connections) (λ (c : ℕ × List ℕ). queue_of contents k.files c.0) ∙ length-enumerate_from 0 k.connections ∙ connections;
        counts = counts;
        numbered = record {
          numbers = numbered_all contents events k is (λ f. f.number) k.next_number (numbers_of_live contents events k is);
          arrivals = numbered_all contents events k is (λ f. f.arrival) k.next_arrival (arrivals_of_live contents events k is);
          first_batch = is.counters.next_batch;
          batches = no_batches;
        };
        by_arrival = All-map AreByArrival (λ (c : ℕ × List ℕ). queue_of contents k.files c.0) (enumerate_from 0 k.connections)
            (λ i d lt. ordered contents events k is (get_or (enumerate_from 0 k.connections) i d).0);
        batches = λ one other batch has _. absurd (no_batch one batch has);
        events = record {
          line = omega (arith, no_line);
          numbers = in_row ∙ ap (λ n. range_with_len (n + 1) (length events)) (sym no_line);
          last_event = omega (arith, last, no_line);
        };
        kin = refl;
      }

-- ---- files that hold it

pub held_stands : (s : StoreState) (files : Files) (events : List Event) → FilesHold s files → events_in files 0 (kept_by s).last_event ≡ Ok events
    → stands_for (flow_in (kept_by s)) s.lot files ≡ Ok (state_with (content_in files) events (kept_by s))
held_stands s files events holds says =
    stands_by_kept (flow_in (kept_by s)) s.lot files (kept_by s) holds.kept
    ∙ state_of_sound files (kept_by s) events holds.contents says
