-- The queues of what is kept, file by file.
use Rattle.std.proofs.Common.{◌≡◌, ◌≢◌, ℕ, ◌<◌, ◌==◌, nat_lt, Bool, true, false, cond, List, [], ◌∷◌, ◌++◌, length, map, set, get_or, inl, inr, refl, sym, ap, subst, ◌∙◌, arith}
use Rattle.std.specs.Prelude.{Some, All, Contains, filter, slice_get, option_map}
use Rattle.std.proofs.lemmas.Bool.{cases_eq, eq-eqb, ne_eqb, lt-ltb}
use Rattle.std.proofs.lemmas.List.{append-nil, map-append, length-map, length-set, get_or-set_same, get_or-set_other}
use Rattle.std.proofs.lemmas.List.Elements.{All-nil, All-cons, All-head, All-tail, All-map, All-filter, All-weaker, All-contains, Contains-append_right, filter-append}
use Rattle.std.proofs.lemmas.Option.{slice_get-map, slice_get_within, slice_get-get_or, get_or_from_slice_get}
use Rattle.flowfile_record.specs.NumberedItems.{AscendsByNumber}
use Rattle.flowfile_record.specs.Stored.{Kept}
use Rattle.flowfile_record.specs.declared.flow_file.FlowFile.{FlowFile}
use Rattle.flowfile_record.specs.declared.stored.ActiveFile.{ActiveFile}
use Rattle.machine_model.specs.declared.flow.Connection.{Connection}
use Rattle.machine_model.specs.declared.flow.Flow.{Flow}
use Rattle.machine_model.proofs.Ordered.{contains_head}
use Rattle.checkpoint_store.specs.Consistent.{AreDistinctBy, IsFileIn}
use Rattle.flow_queue.specs.declared.held.Held.{Held}
use Rattle.flow_queue.specs.Queue.{QueueState, IsApart, queue_with_file}
use Rattle.engine_queues.specs.Opening.{empty_queue}
use Rattle.engine_queues.specs.Queues.{held_of, IsQueueOf, AreQueuesOf}

-- what is kept with these files alone
abbrev pub with_files : Kept → List ActiveFile → Kept
with_files k files = record k { files = files }

-- ---- no files

pub are-empty : (flow : Flow) (k : Kept) → AreQueuesOf flow (with_files k []) [] (map empty_queue flow.connections)
are-empty flow k = record {
  count = length-map flow.connections empty_queue;
  each = λ place connection queue at there.
      let is : Some (empty_queue connection) ≡ Some queue = sym (ap (option_map empty_queue) at) ∙ sym (slice_get-map empty_queue flow.connections place) ∙ there in
      let same : empty_queue connection ≡ queue = cc in
      subst (IsQueueOf (with_files k []) [] place connection) same (record { order = refl; limits = refl; files = refl; batches = refl });
}

-- ---- one more file

-- a file comes behind others: its number is above theirs, and its arrival is another
abbrev pub ComesBehind : List ActiveFile → ActiveFile → Type 0
ComesBehind files active = All (λ other. (other.file.number < active.file.number) × (other.file.arrival ≢ active.file.arrival)) files

stands-behind : (before : List ActiveFile) (active : ActiveFile) (rest : List ActiveFile) → Contains (before ++ active ∷ rest) active
stands-behind before active rest = Contains-append_right before (active ∷ rest) active (contains_head active rest)

behind-numbers : (before : List ActiveFile) (active : ActiveFile) (rest : List ActiveFile) → AscendsByNumber (λ a. a.file.number) (before ++ active ∷ rest)
    → AreDistinctBy (λ a. a.file.arrival) (before ++ active ∷ rest) → ComesBehind before active
behind-numbers [] active rest ascends differ = All-nil (λ (other : ActiveFile). (other.file.number < active.file.number) × (other.file.arrival ≢ active.file.arrival))
behind-numbers (first ∷ before) active rest ascends differ =
    All-cons (λ (other : ActiveFile). (other.file.number < active.file.number) × (other.file.arrival ≢ active.file.arrival)) first before (
      All-contains (λ (later : ActiveFile). first.file.number < later.file.number) (before ++ active ∷ rest) active ascends.0 (stands-behind before active rest),
      All-contains (λ (later : ActiveFile). first.file.arrival ≢ later.file.arrival) (before ++ active ∷ rest) active differ.0 (stands-behind before active rest),
    )
    (behind-numbers before active rest ascends.1 differ.1)

pub comes-behind : (files before : List ActiveFile) (active : ActiveFile) (rest : List ActiveFile) → files ≡ before ++ active ∷ rest → AscendsByNumber (λ a. a.file.number) files
    → AreDistinctBy (λ a. a.file.arrival) files → ComesBehind before active
comes-behind files before active rest split ascends differ =
    behind-numbers before active rest (subst (AscendsByNumber (λ (a : ActiveFile). a.file.number)) split ascends) (subst (AreDistinctBy (λ (a : ActiveFile). a.file.arrival)) split differ)

pub connection-at : (connections : List Connection) (place : ℕ) → place < length connections → (connection : Connection) × (slice_get connections place ≡ Some connection)
connection-at [] place within = absurd (omega (arith, within))
connection-at (first ∷ connections) place within = (get_or (first ∷ connections) place first, slice_get-get_or (first ∷ connections) place first within)

-- its connection is there
pub connection-in : (k : Kept) (before : List ActiveFile) (active : ActiveFile) (rest : List ActiveFile) → All (IsFileIn k) k.files → k.files ≡ before ++ active ∷ rest
    → active.connection < length k.connections
connection-in k before active rest all split =
    (All-contains (IsFileIn k) k.files active all (subst (λ files. Contains files active) (sym split) (stands-behind before active rest))).connection

new : ActiveFile → Held
new active = record { file = active.file; in_flight = false }

-- of the files of a connection the same holds
behind-held : (k : Kept) (place : ℕ) (files : List ActiveFile) (active : ActiveFile) → ComesBehind files active
    → All (λ (held : Held). (held.file.number < active.file.number) × (held.file.arrival ≢ active.file.arrival)) (held_of [] (with_files k files) place)
behind-held k place files active behind =
    All-map (λ (held : Held). (held.file.number < active.file.number) × (held.file.arrival ≢ active.file.arrival)) (λ (a : ActiveFile). record { file = a.file; in_flight = false })
    (filter (λ (a : ActiveFile). a.connection == place) files)
    (All-filter (λ (a : ActiveFile). a.connection == place) (λ (a : ActiveFile). (a.file.number < active.file.number) × (a.file.arrival ≢ active.file.arrival)) files behind)

at-the-end : (file : FlowFile) (files : List Held) → All (λ (held : Held). held.file.number < file.number) files → queue_with_file file files ≡ files ++ (record { file = file; in_flight = false }) ∷ []
at-the-end file [] below = refl
at-the-end file (held ∷ files) below =
    let lt : nat_lt held.file.number file.number ≡ true = lt-ltb held.file.number file.number (All-head (λ (other : Held). other.file.number < file.number) held files below) in
    rw lt (ap (λ l. held ∷ l) (at-the-end file files (All-tail (λ (other : Held). other.file.number < file.number) held files below)))

held-more : (k : Kept) (place : ℕ) (files : List ActiveFile) (active : ActiveFile)
    → held_of [] (with_files k (files ++ active ∷ [])) place ≡ cond (active.connection == place) (held_of [] (with_files k files) place ++ new active ∷ []) (held_of [] (with_files k files) place)
unfolding new
held-more k place files active =
    let here : ActiveFile → Bool = λ a. a.connection == place in
    let seen : ActiveFile → Held = λ a. record { file = a.file; in_flight = false } in
    ap (map seen) (filter-append here files (active ∷ [])) ∙ map-append seen (filter here files) (filter here (active ∷ []))
    ∙ elim (active.connection == place) as (λ b. map seen (filter here files) ++ map seen (cond b (active ∷ []) []) ≡ cond b (map seen (filter here files) ++ new active ∷ []) (map seen (filter here files))) [
      | true ↦ refl
      | false ↦ append-nil (map seen (filter here files))
    ]

module _ (flow : Flow) (k : Kept) (files : List ActiveFile) (active : ActiveFile) (behind : ComesBehind files active) where
  held-behind : (place : ℕ) → All (λ (held : Held). (held.file.number < active.file.number) × (held.file.arrival ≢ active.file.arrival)) (held_of [] (with_files k files) place)
  held-behind place = behind-held k place files active behind

  pub is-apart : (held : List Held) → held ≡ held_of [] (with_files k files) active.connection → IsApart active.file held
  is-apart held is =
      subst (IsApart active.file) (sym is)
      (All-weaker (λ (held : Held). (held.file.number < active.file.number) × (held.file.arrival ≢ active.file.arrival)) (λ (held : Held). (held.file.number ≢ active.file.number) × (held.file.arrival ≢ active.file.arrival))
      (λ held h. ((λ e. let lt = h.0 in omega (arith, lt, e)), h.1)) _ (held-behind active.connection))

  held-now : (held : List Held) → held ≡ held_of [] (with_files k files) active.connection → queue_with_file active.file held ≡ held_of [] (with_files k (files ++ active ∷ [])) active.connection
  unfolding new
  held-now held is =
      ap (queue_with_file active.file) is
      ∙ at-the-end active.file (held_of [] (with_files k files) active.connection)
      (All-weaker (λ (held : Held). (held.file.number < active.file.number) × (held.file.arrival ≢ active.file.arrival)) (λ (held : Held). held.file.number < active.file.number) (λ held h. h.0) _ (held-behind active.connection))
      ∙ (let here : (active.connection == active.connection) ≡ true = eq-eqb active.connection active.connection refl in sym (held-more k active.connection files active ∙ rw here refl))

  pub one-more : (queues : List QueueState) (queue after : QueueState) → AreQueuesOf flow (with_files k files) [] queues → slice_get queues active.connection ≡ Some queue
      → after ≡ record queue { files = queue_with_file active.file queue.files; spare = after.spare; batch_room = after.batch_room } → AreQueuesOf flow (with_files k (files ++ active ∷ [])) [] (set queues active.connection after)
  one-more queues queue after are there is = record {
    count = length-set queues active.connection after ∙ are.count;
    each = λ place connection now at there_now.
        elim (cases_eq place active.connection) [
          | inl same ↦ at-it place connection now same at there_now
          | inr other ↦ elsewhere place connection now other at there_now
        ];
  }
    where
      within : active.connection < length queues
      within = slice_get_within queues active.connection queue there

      at-it : (place : ℕ) (connection : Connection) (now : QueueState) → place ≡ active.connection → slice_get flow.connections place ≡ Some connection
          → slice_get (set queues active.connection after) place ≡ Some now → IsQueueOf (with_files k (files ++ active ∷ [])) [] place connection now
      at-it place connection now same at there_now =
          let before = are.each active.connection connection queue (ap (slice_get flow.connections) (sym same) ∙ at) there in
          let it : after ≡ now = sym (get_or-set_same queues active.connection after after within) ∙ get_or_from_slice_get (set queues active.connection after) active.connection now after (ap (slice_get (set queues active.connection after)) (sym same) ∙ there_now) in
          subst (λ q. IsQueueOf (with_files k (files ++ active ∷ [])) [] place connection q) it
          (record {
            order = ap (λ q. q.order) is ∙ before.order;
            limits = ap (λ q. q.limits) is ∙ before.limits;
            files = ap (λ q. q.files) is ∙ held-now queue.files before.files ∙ ap (held_of [] (with_files k (files ++ active ∷ []))) (sym same);
            batches = ap (λ q. q.batches) is ∙ before.batches;
          })

      elsewhere : (place : ℕ) (connection : Connection) (now : QueueState) → place ≢ active.connection → slice_get flow.connections place ≡ Some connection
          → slice_get (set queues active.connection after) place ≡ Some now → IsQueueOf (with_files k (files ++ active ∷ [])) [] place connection now
      elsewhere place connection now other at there_now =
          let lt : place < length queues = omega (arith, slice_get_within (set queues active.connection after) place now there_now, length-set queues active.connection after) in
          let was : slice_get queues place ≡ Some now =
          slice_get-get_or queues place now lt ∙ ap (λ q. Some q) (sym (get_or-set_other queues active.connection place after now other) ∙ get_or_from_slice_get (set queues active.connection after) place now now there_now) in
          let before = are.each place connection now at was in
          let no : (active.connection == place) ≡ false = ne_eqb active.connection place (λ e. other (sym e)) in
          record {
            order = before.order;
            limits = before.limits;
            files = before.files ∙ sym (held-more k place files active ∙ rw no refl);
            batches = before.batches;
          }
