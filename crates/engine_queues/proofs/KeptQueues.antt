-- The queues of the machine's state that is kept are what is kept shows, by arrival.
use Rattle.std.proofs.Common.{◌≡◌, ◌≢◌, ℕ, ◌≤◌, ◌==◌, Bool, true, false, cond, List, [], ◌∷◌, map, length, refl, sym, ap, subst, ◌∙◌, inl, inr, arith}
use Rattle.std.specs.Prelude.{All, Option, None, filter, fold, nat_lt}
use Rattle.std.specs.List.{cons_option, filter_map}
use Rattle.std.proofs.lemmas.Bool.{cases_lt, ne_eqb}
use Rattle.std.proofs.lemmas.List.Elements.{All-nil, All-cons, All-head, All-tail, All-filter, All-map, All-weaker}
use Rattle.std.proofs.lemmas.List.Kept.{AllPairs-cons}
use Rattle.flowfile_record.specs.Stored.{Kept}
use Rattle.flowfile_record.specs.declared.content.ContentRef.{ContentRef}
use Rattle.flowfile_record.specs.declared.event.Event.{Event}
use Rattle.flowfile_record.specs.declared.stored.ActiveFile.{ActiveFile}
use Rattle.checkpoint_store.specs.Consistent.{AreDistinctBy, IsConsistent, IsFileIn}
use Rattle.machine_model.specs.Changing.{with_arrival}
use Rattle.machine_model.specs.Files.{active_views, batch_view, batches, each_once, is_active, queue_at, queue_view, queues_of, view_of}
use Rattle.machine_model.specs.Laws.{ArrivalsDiffer}
use Rattle.machine_model.specs.State.{QueuedFile}
use Rattle.machine_model.specs.View.{FileView}
use Rattle.machine_model.proofs.Ordered.{pairs_nil}
use Rattle.store_core.specs.State.{queued_active, queue_of, state_with}
use Rattle.store_core.proofs.ByKey.{filter_fold, put}
use Rattle.engine_queues.proofs.Places.{queue_there, queue_past}
use Rattle.engine_queues.specs.Beside.{beside, queue_beside}
use Rattle.engine_queues.specs.Laws.{KeptIsSeen}
use Rattle.engine_queues.specs.Views.{HaveSizes, kept_queues, kept_views, view_of_kept}
use Rattle.engine_queues.proofs.Alike.{AreAlike, alike-same, arrival_of, by_arrival, by_arrival-alike}
use Rattle.engine_queues.proofs.Arranged.{arranged, arranged-each}
use Rattle.engine_queues.proofs.Besides.{arrival-beside, differ-beside}

-- ---- files of a queue, as they are seen

abbrev queued_at : QueuedFile → ℕ
queued_at file = file.arrival

seen_put : (file : QueuedFile) (queue : List QueuedFile) → map view_of (with_arrival queue file) ≡ put arrival_of (map view_of queue) (view_of file)
seen_put file [] = refl
seen_put file (first ∷ queue) =
    let rest = seen_put file queue in
    elim (nat_lt first.arrival file.arrival) as (λ b. map view_of (cond b (first ∷ with_arrival queue file) (file ∷ first ∷ queue))
    ≡ cond b (view_of first ∷ put arrival_of (map view_of queue) (view_of file)) (view_of file ∷ view_of first ∷ map view_of queue)) [
      | true ↦ ap (λ (views : List FileView). view_of first ∷ views) rest
      | false ↦ refl
    ]

seen_fold : (files queue : List QueuedFile) → map view_of (fold with_arrival queue files) ≡ fold (put arrival_of) (map view_of queue) (map view_of files)
seen_fold [] queue = refl
seen_fold (file ∷ files) queue = seen_fold files (with_arrival queue file) ∙ ap (λ (views : List FileView). fold (put arrival_of) views (map view_of files)) (seen_put file queue)

module _ (contents : ContentRef → List ℕ) where
  abbrev HasSize : ActiveFile → Type 0
  HasSize a = length (contents a.file.content) ≡ a.file.content.size

  seen_queued : (files : List ActiveFile) → All HasSize files → map view_of (map (queued_active contents) files) ≡ map (λ a. view_of_kept a.file) files
  seen_queued [] sizes = refl
  seen_queued (a ∷ files) sizes =
      let size = All-head HasSize a files sizes in
      let rest = seen_queued files (All-tail HasSize a files sizes) in
      λ i. record (view_of_kept a.file) { size = size i } ∷ rest i

  all_active : (files : List ActiveFile) → filter is_active (map (queued_active contents) files) ≡ map (queued_active contents) files
  all_active [] = refl
  all_active (a ∷ files) = ap (λ (l : List QueuedFile). queued_active contents a ∷ l) (all_active files)

  none_swapped : (files : List ActiveFile) → All (λ (file : QueuedFile). file.batch ≡ None) (map (queued_active contents) files)
  none_swapped [] = All-nil (λ (file : QueuedFile). file.batch ≡ None)
  none_swapped (a ∷ files) = All-cons (λ (file : QueuedFile). file.batch ≡ None) (queued_active contents a) (map (queued_active contents) files) refl (none_swapped files)

no_batches : (files : List QueuedFile) → All (λ (file : QueuedFile). file.batch ≡ None) files → filter_map (λ (file : QueuedFile). file.batch) files ≡ []
no_batches [] none = refl
no_batches (file ∷ files) none =
    ap (λ (batch : Option ℕ). cons_option batch (filter_map (λ (f : QueuedFile). f.batch) files)) (All-head (λ (f : QueuedFile). f.batch ≡ None) file files none)
    ∙ no_batches files (All-tail (λ (f : QueuedFile). f.batch ≡ None) file files none)

-- ---- the queue at a place

none_pass : {X : Type 0} (p : X → Bool) (xs : List X) → All (λ x. p x ≡ false) xs → filter p xs ≡ []
none_pass p [] none = refl
none_pass p (x ∷ xs) none =
    ap (λ (b : Bool). cond b (x ∷ filter p xs) (filter p xs)) (All-head (λ y. p y ≡ false) x xs none) ∙ none_pass p xs (All-tail (λ y. p y ≡ false) x xs none)

pub none_there : (k : Kept) (place : ℕ) → IsConsistent k → length k.connections ≤ place → filter (λ a. a.connection == place) k.files ≡ []
none_there k place is le =
    none_pass (λ (a : ActiveFile). a.connection == place) k.files
    (All-weaker (IsFileIn k) (λ a. (a.connection == place) ≡ false) (λ a known. let lt = known.connection in ne_eqb a.connection place (λ e. omega (arith, lt, le, e))) k.files is.files)

module _ (contents : ContentRef → List ℕ) (events : List Event) (k : Kept) (is : IsConsistent k) (sizes : HaveSizes contents k) (place : ℕ) where
  abbrev here : List ActiveFile
  here = filter (λ a. a.connection == place) k.files

  queue_is : queue_at (state_with contents events k) place ≡ queue_of contents k.files place
  queue_is = elim (cases_lt place (length k.connections)) [
    | inl lt ↦ queue_there contents events k place lt
    | inr le ↦ queue_past contents events k place le ∙ sym (ap (λ (files : List ActiveFile). fold with_arrival [] (map (queued_active contents) files)) (none_there k place is le))
  ]

  active_is : active_views (queue_of contents k.files place) ≡ arranged arrival_of (kept_views k place)
  active_is =
      ap (map view_of) (filter_fold queued_at is_active (map (queued_active contents) here) [] tt ∙ ap (fold with_arrival []) (all_active contents here))
      ∙ seen_fold (map (queued_active contents) here) []
      ∙ ap (arranged arrival_of) (seen_queued contents here (All-filter (λ a. a.connection == place) (HasSize contents) k.files (sizes_of k.files sizes)))
    where
      sizes_of : (files : List ActiveFile) → All (λ at. length (contents at) ≡ at.size) (map (λ a. a.file.content) files) → All (HasSize contents) files
      sizes_of [] all = All-nil (HasSize contents)
      sizes_of (a ∷ files) all =
          All-cons (HasSize contents) a files (All-head (λ at. length (contents at) ≡ at.size) a.file.content (map (λ b. b.file.content) files) all)
          (sizes_of files (All-tail (λ at. length (contents at) ≡ at.size) a.file.content (map (λ b. b.file.content) files) all))

  batches_are : batches (queue_of contents k.files place) ≡ []
  batches_are =
      ap each_once (no_batches (queue_of contents k.files place)
      (arranged-each queued_at (λ (file : QueuedFile). file.batch ≡ None) (map (queued_active contents) here) (none_swapped contents here)))

  pub seen_is : queues_of (state_with contents events k) place ≡ by_arrival (kept_queues k place)
  seen_is =
      ap queue_view queue_is
      ∙ (λ i. record { active = active_is i; batches = map (batch_view (queue_of contents k.files place)) (batches_are i) })

-- ---- arrivals

distinct_filter : {A B : Type 0} (part : A → B) (p : A → Bool) (xs : List A) → AreDistinctBy part xs → AreDistinctBy part (filter p xs)
distinct_filter part p [] distinct = tt
distinct_filter part p (x ∷ xs) distinct =
    let rest = distinct_filter part p xs distinct.1 in
    elim (p x) as (λ b. AreDistinctBy part (cond b (x ∷ filter p xs) (filter p xs))) [
      | true ↦ (All-filter p (λ y. part x ≢ part y) xs distinct.0, rest)
      | false ↦ rest
    ]

differ_seen : (files : List ActiveFile) → AreDistinctBy (λ a. a.file.arrival) files → ArrivalsDiffer (map (λ a. view_of_kept a.file) files)
differ_seen [] distinct = pairs_nil (λ (one other : FileView). one.arrival ≢ other.arrival)
differ_seen (a ∷ files) distinct =
    AllPairs-cons (λ (one other : FileView). one.arrival ≢ other.arrival) (view_of_kept a.file) (map (λ b. view_of_kept b.file) files)
    (All-map (λ (other : FileView). a.file.arrival ≢ other.arrival) (λ (b : ActiveFile). view_of_kept b.file) files distinct.0)
    (differ_seen files distinct.1)

pub arrivals_differ : (k : Kept) (place : ℕ) → IsConsistent k → ArrivalsDiffer (kept_views k place)
arrivals_differ k place is =
    differ_seen (filter (λ a. a.connection == place) k.files) (distinct_filter (λ (a : ActiveFile). a.file.arrival) (λ a. a.connection == place) k.files is.arrivals)

-- ---- all queues

pub kept-seen : KeptIsSeen
kept-seen flow contents events k out is sizes =
    alike-same flow (beside out (kept_queues k)) (beside out (queues_of (state_with contents events k))) (λ place.
    let shown = kept_queues k place in
    let seen : queue_beside out (queues_of (state_with contents events k) place) ≡ by_arrival (queue_beside out shown) =
    ap (queue_beside out) (seen_is contents events k is sizes place) ∙ arrival-beside out shown in
    subst (AreAlike (queue_beside out shown)) (sym seen)
    (by_arrival-alike (queue_beside out shown) (differ-beside out shown.active (arrivals_differ k place is))))
