-- What is picked beside sessions in flight may be taken: it is picked of a state without the files that are out.
use Rattle.std.proofs.Common.{◌≡◌, ◌≢◌, ℕ, ◌<◌, ◌≤◌, ◌==◌, ◌&&◌, not, Bool, true, false, cond, List, [], ◌∷◌, ◌++◌, map, refl, sym, ap, subst, ◌∙◌, inl, inr}
use Rattle.std.specs.Prelude.{All, Contains, Option, Some, None, filter, find, is_some, option_map, option_and_then, slice_get, unwrap_or}
use Rattle.std.specs.List.{cons_option, enumerate_from, flat_map, list_all}
use Rattle.std.proofs.lemmas.Bool.{cases_Bool, and_parts, and_from, eqb-true, false≢true}
use Rattle.std.proofs.lemmas.List.{length-map}
use Rattle.std.proofs.lemmas.List.Elements.{All-nil, All-cons, All-filter, All-map, All-weaker, filter-append}
use Rattle.std.proofs.lemmas.List.Kept.{AllPairs-filter}
use Rattle.std.proofs.lemmas.Option.{slice_get-map}
use Rattle.machine_model.specs.declared.flow.Connection.{Connection}
use Rattle.machine_model.specs.declared.flow.Flow.{Flow}
use Rattle.machine_model.specs.declared.flow.QueueLimits.{QueueLimits}
use Rattle.machine_model.specs.declared.kind.TakeRule.{TakeRule}
use Rattle.machine_model.specs.declared.kind.TakeRule.TheVariants.{Source, One, Bin, Defragment}
use Rattle.prioritizer.specs.declared.prioritizer.Prioritizer.{Prioritizer}
use Rattle.machine_model.specs.Files.{active_files, active_views, are_active, are_distinct, file_numbered, is_active, queue_at, queue_view, view_of}
use Rattle.machine_model.specs.Laws.{OneConnectionHas}
use Rattle.machine_model.specs.Order.{eligible_files, in_order, is_eligible}
use Rattle.machine_model.specs.State.{QueuedFile, State}
use Rattle.machine_model.specs.Stepping.{admits, files_of, has_all, may_be_taken, source_of, taken_files, taken_from}
use Rattle.machine_model.specs.Valid.{AreByArrival, AreNumbered, HasBatch, HasBatchBelow, IsValid}
use Rattle.machine_model.specs.View.{FileView}
use Rattle.machine_model.proofs.Among.{Among, among_contained, contains_among, is_made, kept_by, makes}
use Rattle.engine_queues.specs.Beside.{file_beside, is_out, queue_beside}

-- the state without the files that are out
abbrev rests : (out : List ℕ) → QueuedFile → Bool
rests out file = not (is_out out file.number)

abbrev pub without_out : (out : List ℕ) → State → State
without_out out state = record state { queues = map (filter (rests out)) state.queues }

pub queue-without : (out : List ℕ) (state : State) (place : ℕ) → queue_at (without_out out state) place ≡ filter (rests out) (queue_at state place)
queue-without out state place =
    ap (λ (o : Option (List QueuedFile)). unwrap_or o []) (slice_get-map (filter (rests out)) state.queues place) ∙ by_there (slice_get state.queues place)
  where
    by_there : (o : Option (List QueuedFile)) → unwrap_or (option_map (filter (rests out)) o) [] ≡ filter (rests out) (unwrap_or o [])
    by_there None = refl
    by_there (Some queue) = refl

-- ---- it is valid

all-without : (keep : QueuedFile → Bool) (queues : List (List QueuedFile)) → flat_map (λ queue. queue) (map (filter keep) queues) ≡ filter keep (flat_map (λ queue. queue) queues)
all-without keep [] = refl
all-without keep (queue ∷ queues) =
    ap (λ (files : List QueuedFile). filter keep queue ++ files) (all-without keep queues) ∙ sym (filter-append keep queue (flat_map (λ q. q) queues))

numbered-without : (keep : QueuedFile → Bool) (number : QueuedFile → ℕ) (next : ℕ) (files : List QueuedFile) → AreNumbered number next files → AreNumbered number next (filter keep files)
numbered-without keep number next files are = record {
  first = are.first;
  differ = AllPairs-filter (λ (one other : QueuedFile). number one ≢ number other) keep files are.differ;
  within = All-filter keep (λ (file : QueuedFile). (1 ≤ number file) × (number file < next)) files are.within;
}

arrived-without : (keep : QueuedFile → Bool) (queues : List (List QueuedFile)) → All AreByArrival queues → All AreByArrival (map (filter keep) queues)
arrived-without keep queues all =
    All-map AreByArrival (filter keep) queues
    (All-weaker AreByArrival (λ (queue : List QueuedFile). AreByArrival (filter keep queue))
    (λ queue by_arrival. AllPairs-filter (λ (earlier later : QueuedFile). earlier.arrival < later.arrival) keep queue by_arrival) queues all)

batch-before : (keep : QueuedFile → Bool) (queue : List QueuedFile) (batch : ℕ) → HasBatch (filter keep queue) batch → HasBatch queue batch
batch-before keep queue batch has =
    let made = is_made (λ (file : QueuedFile). file.batch) (filter keep queue) (Some batch) (among_contained (Some batch) (map (λ (file : QueuedFile). file.batch) (filter keep queue)) has) in
    let there = (kept_by keep queue made.source made.there).0 in
    subst (λ (b : Option ℕ). Contains (map (λ (file : QueuedFile). file.batch) queue) b) made.is
    (contains_among made.source.batch (map (λ (file : QueuedFile). file.batch) queue) (makes (λ (file : QueuedFile). file.batch) queue made.source there))

pub valid-without : (out : List ℕ) (flow : Flow) (state : State) → IsValid flow state → IsValid flow (without_out out state)
valid-without out flow state valid =
    let files = flat_map (λ (queue : List QueuedFile). queue) state.queues in
    let same = sym (all-without (rests out) state.queues) in
    let batch : (place b : ℕ) → HasBatch (queue_at (without_out out state) place) b → HasBatch (queue_at state place) b =
    λ place b has. batch-before (rests out) (queue_at state place) b (subst (λ (queue : List QueuedFile). HasBatch queue b) (queue-without out state place) has) in
    record {
      queues = length-map state.queues (filter (rests out)) ∙ valid.queues;
      counts = valid.counts;
      numbered = record {
        numbers = subst (AreNumbered (λ file. file.number) state.next_number) same (numbered-without (rests out) (λ file. file.number) state.next_number files valid.numbered.numbers);
        arrivals = subst (AreNumbered (λ file. file.arrival) state.next_arrival) same (numbered-without (rests out) (λ file. file.arrival) state.next_arrival files valid.numbered.arrivals);
        first_batch = valid.numbered.first_batch;
        batches = subst (All (HasBatchBelow state.next_batch)) same (All-filter (rests out) (HasBatchBelow state.next_batch) files valid.numbered.batches);
      };
      by_arrival = arrived-without (rests out) state.queues valid.by_arrival;
      batches = λ one other b has_one has_other. valid.batches one other b (batch one b has_one) (batch other b has_other);
      events = record { line = valid.events.line; numbers = valid.events.numbers; last_event = valid.events.last_event };
      kin = valid.kin;
    }

-- ---- the same files are eligible

module _ (out : List ℕ) (limits : QueueLimits) (moment : ℕ) where
  abbrev may : FileView → Bool
  may = is_eligible limits moment

  one-eligible : (view : FileView) (one other : List FileView) → filter may one ≡ filter may other → filter may (view ∷ one) ≡ filter may (view ∷ other)
  one-eligible view one other rest = elim (may view) as (λ b. cond b (view ∷ filter may one) (filter may one) ≡ cond b (view ∷ filter may other) (filter may other)) [
    | true ↦ ap (λ (l : List FileView). view ∷ l) rest
    | false ↦ rest
  ]

  same-eligible : (queue : List QueuedFile) → filter may (map (file_beside out) (active_views queue)) ≡ filter may (active_views (filter (rests out) queue))
  same-eligible [] = refl
  same-eligible (file ∷ queue) =
      let rest = same-eligible queue in
      elim (cases_Bool (is_active file)) [
        | inl a ↦ elim (cases_Bool (is_out out file.number)) [
          | inl t ↦ rw (a, t) rest
          | inr f ↦ rw (a, f, a) (one-eligible (view_of file) (map (file_beside out) (active_views queue)) (active_views (filter (rests out) queue)) rest)
        ]
        | inr n ↦ elim (cases_Bool (is_out out file.number)) [ inl t ↦ rw (n, t) rest | inr f ↦ rw (n, f, n) rest ]
      ]

  pub eligible-beside : (order : List Prioritizer) (queue : List QueuedFile)
      → eligible_files order limits moment (queue_beside out (queue_view queue)).active ≡ eligible_files order limits moment (active_views (filter (rests out) queue))
  eligible-beside order queue = ap (in_order order) (same-eligible queue)

-- ---- the same files are taken

find-kept : {X : Type 0} (p keep : X → Bool) (xs : List X) → ((x : X) → p x ≡ true → keep x ≡ true) → find p (filter keep xs) ≡ find p xs
find-kept p keep [] same = refl
find-kept {X} p keep (x ∷ xs) same = by_tests (p x) (keep x) refl (same x) (find-kept p keep xs same)
  where
    by_tests : (a b : Bool) → p x ≡ a → (p x ≡ true → b ≡ true) → find p (filter keep xs) ≡ find p xs
        → find p (cond b (x ∷ filter keep xs) (filter keep xs)) ≡ cond a (Some x) (find p xs)
    by_tests true true e kept rest = ap (λ b. cond b (Some x) (find p (filter keep xs))) e
    by_tests true false e kept rest = absurd (false≢true (kept e))
    by_tests false true e kept rest = ap (λ b. cond b (Some x) (find p (filter keep xs))) e ∙ rest
    by_tests false false e kept rest = rest

filters-commute : {X : Type 0} (p q : X → Bool) (xs : List X) → filter p (filter q xs) ≡ filter q (filter p xs)
filters-commute p q [] = refl
filters-commute {X} p q (x ∷ xs) = by_tests (p x) (q x) refl refl (filters-commute p q xs)
  where
    one : (test : X → Bool) (l : List X) (b : Bool) → test x ≡ b → filter test (x ∷ l) ≡ cond b (x ∷ filter test l) (filter test l)
    one test l b e = ap (λ c. cond c (x ∷ filter test l) (filter test l)) e

    by_tests : (a b : Bool) → p x ≡ a → q x ≡ b → filter p (filter q xs) ≡ filter q (filter p xs)
        → filter p (cond b (x ∷ filter q xs) (filter q xs)) ≡ filter q (cond a (x ∷ filter p xs) (filter p xs))
    by_tests true true e k rest = one p (filter q xs) true e ∙ ap (λ (l : List X). x ∷ l) rest ∙ sym (one q (filter p xs) true k)
    by_tests true false e k rest = rest ∙ sym (one q (filter p xs) false k)
    by_tests false true e k rest = one p (filter q xs) false e ∙ rest
    by_tests false false e k rest = rest

found-rests : (out : List ℕ) (n : ℕ) (files : List QueuedFile) → is_some (file_numbered (filter (rests out) files) n) ≡ true → is_out out n ≡ false
found-rests out n [] is = absurd (false≢true is)
found-rests out n (file ∷ files) is = elim (cases_Bool (is_out out file.number)) [
  | inl t ↦ let later : is_some (file_numbered (filter (rests out) files) n) ≡ true = rw t at is in found-rests out n files later
  | inr f ↦ elim (cases_Bool (file.number == n)) [
    | inl e ↦ ap (is_out out) (sym (eqb-true file.number n e)) ∙ f
    | inr o ↦ let later : is_some (file_numbered (filter (rests out) files) n) ≡ true = rw (f, o) at is in found-rests out n files later
  ]
]

numbered-rests : (out : List ℕ) (n : ℕ) (files : List QueuedFile) → is_out out n ≡ false → file_numbered (filter (rests out) files) n ≡ file_numbered files n
numbered-rests out n files at_rest =
    find-kept (λ (file : QueuedFile). file.number == n) (rests out) files
    (λ file e. ap not (ap (is_out out) (eqb-true file.number n e) ∙ at_rest))

active-at : (out : List ℕ) (n : ℕ) (queue : List QueuedFile) → file_numbered (active_files (filter (rests out) queue)) n ≡ file_numbered (filter (rests out) (active_files queue)) n
active-at out n queue = ap (λ (files : List QueuedFile). file_numbered files n) (filters-commute is_active (rests out) queue)

-- the numbers that are active there are active in the whole queue, and not out
pub record AreAtRest (out : List ℕ) (queue : List QueuedFile) (numbers : List ℕ) : Type 0 where
  pub at_rest : All (λ n. is_out out n ≡ false) numbers
  pub active : are_active queue numbers ≡ true
  pub files : files_of (filter (rests out) queue) numbers ≡ files_of queue numbers

are-at-rest : (out : List ℕ) (queue : List QueuedFile) (numbers : List ℕ) → are_active (filter (rests out) queue) numbers ≡ true → AreAtRest out queue numbers
are-at-rest out queue [] active = record { at_rest = All-nil (λ n. is_out out n ≡ false); active = refl; files = refl }
are-at-rest out queue (n ∷ numbers) active =
    let parts = and_parts (is_some (file_numbered (active_files (filter (rests out) queue)) n)) (are_active (filter (rests out) queue) numbers) active in
    let found : is_some (file_numbered (filter (rests out) (active_files queue)) n) ≡ true = ap is_some (sym (active-at out n queue)) ∙ parts.0 in
    let here : is_out out n ≡ false = found-rests out n (active_files queue) found in
    let whole : is_some (file_numbered (active_files queue) n) ≡ true = ap is_some (sym (numbered-rests out n (active_files queue) here)) ∙ found in
    let rest = are-at-rest out queue numbers parts.1 in
    record {
      at_rest = All-cons (λ m. is_out out m ≡ false) n numbers here rest.at_rest;
      active = and_from (is_some (file_numbered (active_files queue) n)) (are_active queue numbers) whole rest.active;
      files = λ i. cons_option (numbered-rests out n queue here i) (rest.files i);
    }

-- a session may take these files of the whole state
pub record MayTakeAtRest (flow : Flow) (state : State) (out : List ℕ) (place : ℕ) (rule : TakeRule) (numbers : List ℕ) (moment : ℕ) : Type 0 where
  pub files : List QueuedFile
  pub taken : taken_files flow state place rule numbers moment ≡ Some files
  pub at_rest : All (λ n. is_out out n ≡ false) numbers

find-among : {X : Type 0} (p : X → Bool) (xs : List X) (x : X) → find p xs ≡ Some x → Among x xs × (p x ≡ true)
find-among p [] x is = absurd cc
find-among {X} p (y ∷ xs) x is = by_test (p y) refl is (λ later. find-among p xs x later)
  where
    by_test : (b : Bool) → p y ≡ b → cond b (Some y) (find p xs) ≡ Some x → (find p xs ≡ Some x → Among x xs × (p x ≡ true)) → Among x (y ∷ xs) × (p x ≡ true)
    by_test true holds is rest = let same : y ≡ x = cc in (inl same, ap p (sym same) ∙ holds)
    by_test false fails is rest = let later = rest is in (inr later.0, later.1)

module _ (one_has : OneConnectionHas) (out : List ℕ) (flow : Flow) (state : State) (valid : IsValid flow state) (processor : ℕ) (rule : TakeRule) (moment : ℕ) where
  abbrev less : State
  less = without_out out state

  found-whole : (number : ℕ) (numbers : List ℕ) (source : ℕ × Connection) (files : List QueuedFile) → source_of flow less processor (number ∷ numbers) ≡ Some source
      → taken_from less rule (number ∷ numbers) moment source ≡ Some files
      → (option_and_then (taken_from state rule (number ∷ numbers) moment) (source_of flow state processor (number ∷ numbers)) ≡ Some files) × All (λ n. is_out out n ≡ false) (number ∷ numbers)
  found-whole number numbers source files is takes =
      let all = number ∷ numbers in
      let at = find-among (has_all less processor all) (enumerate_from 0 flow.connections) source is in
      let parts = and_parts (source.1.target == processor) (are_active (queue_at less source.0) all) at.1 in
      let queue = queue_at state source.0 in
      let active = subst (λ (files : List QueuedFile). are_active files all ≡ true) (queue-without out state source.0) parts.1 in
      let rested = are-at-rest out queue all active in
      let has : has_all state processor all source ≡ true = and_from (source.1.target == processor) (are_active queue all) parts.0 rested.active in
      let whole = one_has flow state processor number numbers source valid (contains_among source (enumerate_from 0 flow.connections) at.0) has in
      let same : files_of (queue_at less source.0) all ≡ files_of queue all = ap (λ (files : List QueuedFile). files_of files all) (queue-without out state source.0) ∙ rested.files in
      let given : List QueuedFile → Option (List QueuedFile) = λ files.
      let views = map view_of files in
      cond (are_distinct all && list_all (may_be_taken source.1 moment) views && admits rule source.1.order views) (Some files) None in
      (ap (option_and_then (taken_from state rule all moment)) whole ∙ sym (ap given same) ∙ takes, rested.at_rest)

  by-source : (number : ℕ) (numbers : List ℕ) (files : List QueuedFile) (o : Option (ℕ × Connection)) → source_of flow less processor (number ∷ numbers) ≡ o
      → option_and_then (taken_from less rule (number ∷ numbers) moment) o ≡ Some files
      → (option_and_then (taken_from state rule (number ∷ numbers) moment) (source_of flow state processor (number ∷ numbers)) ≡ Some files) × All (λ n. is_out out n ≡ false) (number ∷ numbers)
  by-source number numbers files None e is = absurd cc
  by-source number numbers files (Some source) e is = found-whole number numbers source files e is

-- none takes no file but a source
pub takes-at-rest : OneConnectionHas → (out : List ℕ) (flow : Flow) (state : State) → IsValid flow state → (processor : ℕ) (rule : TakeRule) (moment : ℕ) (numbers : List ℕ) (files : List QueuedFile)
    → taken_files flow (without_out out state) processor rule numbers moment ≡ Some files → MayTakeAtRest flow state out processor rule numbers moment
takes-at-rest one_has out flow state valid processor Source moment [] files is = record { files = []; taken = refl; at_rest = All-nil (λ n. is_out out n ≡ false) }
takes-at-rest one_has out flow state valid processor Source moment (number ∷ numbers) files is = absurd cc
takes-at-rest one_has out flow state valid processor One moment [] files is = none-taken (source_of flow (without_out out state) processor []) is
  where
    none-taken : (o : Option (ℕ × Connection)) → option_and_then (taken_from (without_out out state) One [] moment) o ≡ Some files → MayTakeAtRest flow state out processor One [] moment
    none-taken None is = absurd cc
    none-taken (Some source) is = absurd cc
takes-at-rest one_has out flow state valid processor One moment (number ∷ numbers) files is =
    let it = by-source one_has out flow state valid processor One moment number numbers files (source_of flow (without_out out state) processor (number ∷ numbers)) refl is in
    record { files = files; taken = it.0; at_rest = it.1 }
takes-at-rest one_has out flow state valid processor (Bin min max) moment [] files is = none-taken (source_of flow (without_out out state) processor []) is
  where
    none-taken : (o : Option (ℕ × Connection)) → option_and_then (taken_from (without_out out state) (Bin min max) [] moment) o ≡ Some files → MayTakeAtRest flow state out processor (Bin min max) [] moment
    none-taken None is = absurd cc
    none-taken (Some source) is = absurd cc
takes-at-rest one_has out flow state valid processor (Bin min max) moment (number ∷ numbers) files is =
    let it = by-source one_has out flow state valid processor (Bin min max) moment number numbers files (source_of flow (without_out out state) processor (number ∷ numbers)) refl is in
    record { files = files; taken = it.0; at_rest = it.1 }
takes-at-rest one_has out flow state valid processor Defragment moment [] files is = none-taken (source_of flow (without_out out state) processor []) is
  where
    none-taken : (o : Option (ℕ × Connection)) → option_and_then (taken_from (without_out out state) Defragment [] moment) o ≡ Some files → MayTakeAtRest flow state out processor Defragment [] moment
    none-taken None is = absurd cc
    none-taken (Some source) is = absurd cc
takes-at-rest one_has out flow state valid processor Defragment moment (number ∷ numbers) files is =
    let it = by-source one_has out flow state valid processor Defragment moment number numbers files (source_of flow (without_out out state) processor (number ∷ numbers)) refl is in
    record { files = files; taken = it.0; at_rest = it.1 }
