-- What a Head alone says is consistent, and stays so as files join it.
use Rattle.std.proofs.Common.{◌≡◌, ◌≢◌, ◌==◌, ◌&&◌, ◌||◌, not, ℕ, suc, ◌+◌, ◌<◌, ◌≤◌, Bool, true, false, List, [], ◌∷◌, ◌++◌, length, map, All, bytes_eq, refl, ap, arith, length-append}
use Rattle.std.specs.List.{sum, list_any}
use Rattle.std.specs.Prelude.{nat_lt, nat_le}
use Rattle.std.proofs.lemmas.Bool.{and_parts, not-true, eqb-true, ltb-true, leb-true}
use Rattle.std.proofs.lemmas.Bool.Decides.{nat_tests}
use Rattle.std.proofs.lemmas.List.Elements.{All-nil, All-cons, All-push, All-weaker, All-same}
use Rattle.std.proofs.lemmas.Slice.Eq.{bytes_eq-Decides}
use Rattle.flowfile_record.specs.NumberedItems.{AscendsByNumber}
use Rattle.flowfile_record.specs.Stored.{Kept}
use Rattle.flowfile_record.specs.declared.limits.TheConstants.{LIVE_FILES_MAX, LIVE_BYTES_MAX}
use Rattle.flowfile_record.specs.declared.stored.ActiveFile.{ActiveFile}
use Rattle.flowfile_record.specs.declared.stored.SwapBatch.{SwapBatch}
use Rattle.record_codec.specs.ActiveFile.{IsActiveFile}
use Rattle.record_codec.specs.StoreHead.{head, IsHead}
use Rattle.record_codec.specs.declared.TheConstants.{SECOND_VERSION}
use Rattle.record_codec.specs.declared.block.TheConstants.{PAYLOAD_MAX}
use Rattle.record_codec.specs.declared.head.Head.{Head}
use Rattle.checkpoint_store.specs.Consistent.{IsConsistentIn, HasCounters, IsFileIn, IsBatchIn, AreDistinctBy, record_size}
use Rattle.checkpoint_store.specs.Reading.{are_distinct_names, has_counters, has_counts, kept_of_head, last_number, file_has_place, file_may_join}
use Rattle.checkpoint_store.proofs.Numbering.{sum_more}

-- ---- tests that failed on each item

or_parts : (a b : Bool) → (a || b) ≡ false → (a ≡ false) × (b ≡ false)
or_parts true b e = absurd cc
or_parts false b e = (refl, e)

any_none : {A : Type 0} (test : A → Bool) (items : List A) → list_any test items ≡ false → All (λ i. test i ≡ false) items
any_none test [] e = All-nil (λ i. test i ≡ false)
any_none test (item ∷ items) e =
    let parts = or_parts _ _ e in
    All-cons (λ i. test i ≡ false) item items parts.0 (any_none test items parts.1)

distinct_names : (names : List (List ℕ)) → are_distinct_names names ≡ true → AreDistinctBy (λ (name : List ℕ). name) names
distinct_names [] e = tt
distinct_names (name ∷ names) e =
    let parts = and_parts (not (list_any (λ other. bytes_eq other name) names)) (are_distinct_names names) e in
    let apart : (other : List ℕ) → bytes_eq other name ≡ false → name ≢ other = λ other isnt same. grind (arith, bytes_eq-Decides other name, isnt, same) in (
      All-weaker (λ other. bytes_eq other name ≡ false) (λ other. name ≢ other) apart names
          (any_none (λ other. bytes_eq other name) names (not-true (list_any (λ other. bytes_eq other name) names) parts.0)),
      distinct_names names parts.1,
    )

-- ---- an item behind others

distinct_more : {A B : Type 0} (part : A → B) (items : List A) (new : A) → AreDistinctBy part items → All (λ i. part i ≢ part new) items
    → AreDistinctBy part (items ++ new ∷ [])
distinct_more part [] new distinct apart = (All-nil (λ i. part new ≢ part i), tt)
distinct_more part (item ∷ items) new distinct apart = (
  All-push (λ i. part item ≢ part i) items new distinct.0 (apart 0 item (omega arith)),
  distinct_more part items new distinct.1 (λ k d lt. apart (suc k) d (omega (arith, lt))),
)

ascends_more : {A : Type 0} (number : A → ℕ) (items : List A) (new : A) → AscendsByNumber number items → All (λ i. number i < number new) items
    → AscendsByNumber number (items ++ new ∷ [])
ascends_more number [] new ascends below = (All-nil (λ i. number new < number i), tt)
ascends_more number (item ∷ items) new ascends below = (
  All-push (λ i. number item < number i) items new ascends.0 (below 0 item (omega arith)),
  ascends_more number items new ascends.1 (λ k d lt. below (suc k) d (omega (arith, lt))),
)

-- ---- the rules of a file

rules_of : (placed within known : Bool) → (placed && within && not known) ≡ true → (placed ≡ true) × (within ≡ true) × (known ≡ false)
rules_of placed within known is =
    let last = and_parts (placed && within) (not known) is in
    let first = and_parts placed within last.0 in
    (first.0, first.1, not-true known last.1)

last_five : (a b c d e f g : Bool) → (a && b && c && d && e && f && g) ≡ true → (c ≡ true) × (d ≡ true) × (e ≡ true) × (f ≡ true) × (g ≡ true)
last_five a b c d e f g is =
    let to_g = and_parts (a && b && c && d && e && f) g is in
    let to_f = and_parts (a && b && c && d && e) f to_g.0 in
    let to_e = and_parts (a && b && c && d) e to_f.0 in
    let to_d = and_parts (a && b && c) d to_e.0 in
    let to_c = and_parts (a && b) c to_d.0 in
    (to_c.1, to_d.1, to_e.1, to_f.1, to_g.1)

place_of : (k : Kept) (a : ActiveFile) → file_has_place k a ≡ true
    → (a.connection < length k.connections) × (a.file.number < k.next_number) × (0 < a.file.arrival) × (a.file.arrival < k.next_arrival) × (length k.files < LIVE_FILES_MAX)
place_of k a is =
    let five = last_five (length k.batches == 0) (nat_lt (last_number (λ (b : ActiveFile). b.file.number) k.files) a.file.number)
    (nat_lt a.connection (length k.connections)) (nat_lt a.file.number k.next_number) (nat_lt 0 a.file.arrival) (nat_lt a.file.arrival k.next_arrival) (nat_lt (length k.files) LIVE_FILES_MAX) is in (
      ltb-true a.connection (length k.connections) five.0,
      ltb-true a.file.number k.next_number five.1,
      ltb-true 0 a.file.arrival five.2,
      ltb-true a.file.arrival k.next_arrival five.3,
      ltb-true (length k.files) LIVE_FILES_MAX five.4,
    )

-- ---- what is kept

counted : (h : Head) → has_counters h ≡ true → HasCounters (kept_of_head h)
counted h is =
    let to_batch = and_parts (nat_lt 0 h.next_number && nat_lt 0 h.next_arrival) (nat_lt 0 h.next_batch) is in
    let to_arrival = and_parts (nat_lt 0 h.next_number) (nat_lt 0 h.next_arrival) to_batch.0 in
    record {
      next_number = ltb-true 0 h.next_number to_arrival.0;
      next_arrival = ltb-true 0 h.next_arrival to_arrival.1;
      next_batch = ltb-true 0 h.next_batch to_batch.1;
    }

-- each processor has one count, in the second version
one_each : (h : Head) → has_counts h ≡ true → h.version ≡ SECOND_VERSION → length h.counts ≡ length h.processors
one_each h is second =
    let tested : (h.version == SECOND_VERSION) ≡ true = ap (λ (v : ℕ). v == SECOND_VERSION) second in
    eqb-true (length h.counts) (length h.processors) (needed (h.version == SECOND_VERSION) (length h.counts == length h.processors) tested is)
  where
    needed : (second same : Bool) → second ≡ true → (not second || same) ≡ true → same ≡ true
    needed true same e is = is
    needed false same e is = absurd cc

-- what a Head says, which a block held
pub head_alone : (h : Head) → IsHead h → length (head h) ≤ PAYLOAD_MAX → are_distinct_names h.connections ≡ true → has_counters h ≡ true → has_counts h ≡ true → IsConsistentIn h.version (kept_of_head h)
head_alone h is small distinct counters counts = record {
  encoded = is;
  head_size = small;
  counts = one_each h counts;
  connections = distinct_names h.connections distinct;
  counters = counted h counters;
  files = All-nil (IsFileIn (kept_of_head h));
  numbers = tt;
  arrivals = tt;
  batches = All-nil (IsBatchIn (kept_of_head h));
  batch_numbers = tt;
  live_files = omega arith;
  live_bytes = omega arith;
}

-- a file more, where there are no batches
pub place_left : (k : Kept) (a : ActiveFile) → file_has_place k a ≡ true → length k.files < LIVE_FILES_MAX
place_left k a placed = (place_of k a placed).4

pub file_joins : (version : ℕ) (k : Kept) (a : ActiveFile) → IsConsistentIn version k → k.batches ≡ [] → IsActiveFile a → file_may_join k a ≡ true
    → All (λ b. b.file.number < a.file.number) k.files → IsConsistentIn version (record k { files = k.files ++ a ∷ [] })
file_joins version k a is none has joins below =
    let more : Kept = record k { files = k.files ++ a ∷ [] } in
    let rules = rules_of (file_has_place k a) (nat_le (sum (map record_size k.files) + record_size a) LIVE_BYTES_MAX)
    (list_any (λ (b : ActiveFile). b.file.arrival == a.file.arrival) k.files) joins in
    let place = place_of k a rules.0 in
    let kept : (b : ActiveFile) → IsFileIn k b → IsFileIn more b =
    λ b known. record { encoded = known.encoded; connection = known.connection; number = known.number; first_arrival = known.first_arrival; arrival = known.arrival } in
    let fresh = any_none (λ (b : ActiveFile). b.file.arrival == a.file.arrival) k.files rules.2 in
    let apart : (b : ActiveFile) → (b.file.arrival == a.file.arrival) ≡ false → b.file.arrival ≢ a.file.arrival = λ b isnt. grind (arith, nat_tests, isnt) in
    let no_files : sum (map (λ (b : SwapBatch). b.files) k.batches) ≡ 0 = ap (λ (l : List SwapBatch). sum (map (λ b. b.files) l)) none in
    let no_bytes : sum (map (λ (b : SwapBatch). b.encoded) k.batches) ≡ 0 = ap (λ (l : List SwapBatch). sum (map (λ b. b.encoded) l)) none in
    record {
      encoded = is.encoded;
      head_size = is.head_size;
      counts = is.counts;
      connections = is.connections;
      counters = record { next_number = is.counters.next_number; next_arrival = is.counters.next_arrival; next_batch = is.counters.next_batch };
      files = All-push (IsFileIn more) k.files a (All-weaker (IsFileIn k) (IsFileIn more) kept k.files is.files) (record {
        encoded = has;
        connection = place.0;
        number = place.1;
        first_arrival = place.2;
        arrival = place.3;
      });
      numbers = ascends_more (λ b. b.file.number) k.files a is.numbers below;
      arrivals = distinct_more (λ b. b.file.arrival) k.files a is.arrivals
          (All-weaker (λ b. (b.file.arrival == a.file.arrival) ≡ false) (λ b. b.file.arrival ≢ a.file.arrival) apart k.files fresh);
      batches = All-same (IsBatchIn more) k.batches [] none (All-nil (IsBatchIn more));
      batch_numbers = is.batch_numbers;
      live_files = omega (arith, no_files, length-append k.files (a ∷ []), place.4);
      live_bytes = omega (arith, no_bytes, sum_more record_size k.files a, leb-true (sum (map record_size k.files) + record_size a) LIVE_BYTES_MAX rules.1);
    }
