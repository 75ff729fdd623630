-- What was written is read back.
use Rattle.std.proofs.Common.{◌≡◌, ◌≢◌, ◌==◌, ◌&&◌, ◌||◌, not, ℕ, suc, ◌+◌, ◌-◌, ◌<◌, ◌≤◌, Bool, true, false, List, [], ◌∷◌, ◌++◌, length, map, drop, All, Some, Result, Ok, bytes_eq, refl, sym, ap, ◌∙◌, append_assoc, length-append, arith}
use Rattle.std.specs.List.{flat_map, sum, list_any}
use Rattle.std.specs.Prelude.{nat_lt, nat_le}
use Rattle.std.proofs.lemmas.Bool.{eqb-true}
use Rattle.std.proofs.lemmas.Bool.Decides.{nat_tests}
use Rattle.std.proofs.lemmas.Slice.Eq.{bytes_eq-Decides}
use Rattle.std.proofs.lemmas.List.{append-nil, drop_at}
use Rattle.std.proofs.lemmas.List.Concat.{flat_map-cons}
use Rattle.std.proofs.lemmas.List.Sums.{sum_by-cons}
use Rattle.disk_trait.specs.declared.damage.Damage.{Damage}
use Rattle.disk_trait.specs.declared.file_name.FileName.{FileName}
use Rattle.flowfile_record.specs.NumberedItems.{AscendsByNumber}
use Rattle.flowfile_record.specs.Stored.{Kept}
use Rattle.flowfile_record.specs.declared.stored.ActiveFile.{ActiveFile}
use Rattle.flowfile_record.specs.declared.stored.SwapBatch.{SwapBatch}
use Rattle.flowfile_record.proofs.FieldLaws.{whole_again}
use Rattle.record_codec.specs.ActiveFile.{active_file, active_file_at, IsActiveFile}
use Rattle.record_codec.specs.Block.{Reading, block}
use Rattle.record_codec.specs.Snapshot.{kind_code, swap_batch, ending, IsBatch, IsEnding}
use Rattle.record_codec.specs.SnapshotReading.{batch_at, ending_at}
use Rattle.record_codec.specs.StoreHead.{head, IsHead}
use Rattle.record_codec.specs.StoreHeadReading.{head_at}
use Rattle.record_codec.specs.declared.TheConstants.{SECOND_VERSION}
use Rattle.record_codec.specs.declared.block.TheConstants.{PAYLOAD_MAX, BLOCK_OVERHEAD}
use Rattle.record_codec.specs.declared.snapshot.SnapshotKind.TheVariants as kinds
use Rattle.record_codec.proofs.ActiveFiles.{active_file_is}
use Rattle.record_codec.proofs.Blocks.{reading_of-block, length-block}
use Rattle.record_codec.proofs.Sizes.{file_at_most, swap_batch_size}
use Rattle.record_codec.proofs.Snapshots.{batch_is, ending_is}
use Rattle.record_codec.proofs.StoreHeads.{head_is}
use Rattle.checkpoint_store.specs.Consistent.{IsConsistentIn, HasCounters, IsFileIn, AreDistinctBy, record_size}
use Rattle.checkpoint_store.specs.Reading.{Next, More, Last, last_number, file_has_place, file_may_join, batch_may_follow, are_distinct_names, has_counters, has_counts, kept_of_head, head_next, file_next, batch_next, end_next, first_block_kept, next_in, said, behind_block, go_on, blocks_from, snapshot_of}
use Rattle.checkpoint_store.specs.Snapshot.{head_in, head_block, file_block, batch_block, end_block, blocks_in, snapshot}
use Rattle.flowfile_record.specs.declared.limits.TheConstants.{LIVE_FILES_MAX, LIVE_BYTES_MAX}
use Rattle.checkpoint_store.proofs.Numbering.{last_is, sum_more, any_more, all_three}
use Rattle.checkpoint_store.proofs.Puts.{ascending_count}

abbrev number_of : ActiveFile → ℕ
number_of a = a.file.number

abbrev Following : Type 0
Following = Next → ℕ → Result Kept Damage

-- ---- a block in front of some bytes

module _ (file : FileName) where
  block_next : (most at kind : ℕ) (k more : Kept) (payload rest : List ℕ) → length payload ≤ PAYLOAD_MAX → next_in k kind payload ≡ Some (More more)
      → blocks_from (suc most) file at k (block kind payload ++ rest) ≡ blocks_from most file (at + (length payload + BLOCK_OVERHEAD)) more rest
  block_next most at kind k more payload rest small says =
      let following : Following = λ next size. go_on k size (λ m n. blocks_from most file (at + n) m (drop n (block kind payload ++ rest))) next in
      ap (λ (r : Reading). behind_block file at (next_in k) r following) (reading_of-block kind payload rest small)
      ∙ ap (said file at (length payload + BLOCK_OVERHEAD) following) says
      ∙ ap (blocks_from most file (at + (length payload + BLOCK_OVERHEAD)) more) (drop_at (block kind payload) rest (length payload + BLOCK_OVERHEAD) (length-block kind payload))

  block_last : (most at kind : ℕ) (k : Kept) (payload rest : List ℕ) → length payload ≤ PAYLOAD_MAX → next_in k kind payload ≡ Some Last
      → blocks_from (suc most) file at k (block kind payload ++ rest) ≡ Ok k
  block_last most at kind k payload rest small says =
      let following : Following = λ next size. go_on k size (λ m n. blocks_from most file (at + n) m (drop n (block kind payload ++ rest))) next in
      ap (λ (r : Reading). behind_block file at (next_in k) r following) (reading_of-block kind payload rest small)
      ∙ ap (said file at (length payload + BLOCK_OVERHEAD) following) says

  block_first : (version kind : ℕ) (k : Kept) (payload rest : List ℕ) → length payload ≤ PAYLOAD_MAX → first_block_kept version kind payload ≡ Some k
      → snapshot_of version file (block kind payload ++ rest) ≡ blocks_from (suc (length (block kind payload ++ rest))) file (length payload + BLOCK_OVERHEAD) k rest
  block_first version kind k payload rest small says =
      let following : Kept → ℕ → Result Kept Damage = λ m size. blocks_from (suc (length (block kind payload ++ rest))) file size m (drop size (block kind payload ++ rest)) in
      ap (λ (r : Reading). behind_block file 0 (first_block_kept version) r following) (reading_of-block kind payload rest small)
      ∙ ap (said file 0 (length payload + BLOCK_OVERHEAD) following) says
      ∙ ap (blocks_from (suc (length (block kind payload ++ rest))) file (length payload + BLOCK_OVERHEAD) k) (drop_at (block kind payload) rest (length payload + BLOCK_OVERHEAD) (length-block kind payload))

-- ---- what each block says

none_equal : (x : List ℕ) (ys : List (List ℕ)) → All (λ y. x ≢ y) ys → list_any (λ other. bytes_eq other x) ys ≡ false
none_equal x [] apart = refl
none_equal x (y ∷ ys) apart =
    let other : y ≢ x = λ e. apart 0 y (omega arith) (sym e) in
    let first : bytes_eq y x ≡ false = grind (arith, bytes_eq-Decides y x, other) in
    rw first (none_equal x ys (λ k d lt. apart (suc k) d (omega (arith, lt))))

distinct_names : (names : List (List ℕ)) → AreDistinctBy (λ (name : List ℕ). name) names → are_distinct_names names ≡ true
distinct_names [] distinct = refl
distinct_names (name ∷ names) distinct =
    let fresh = none_equal name names distinct.0 in
    rw fresh (distinct_names names distinct.1)

counted : (version : ℕ) (k : Kept) → HasCounters k → has_counters (head_in version k) ≡ true
counted version k has =
    let number : nat_lt 0 k.next_number ≡ true = grind (arith, nat_tests, has.next_number) in
    let arrival : nat_lt 0 k.next_arrival ≡ true = grind (arith, nat_tests, has.next_arrival) in
    let batch : nat_lt 0 k.next_batch ≡ true = grind (arith, nat_tests, has.next_batch) in
    all_three (nat_lt 0 k.next_number) (nat_lt 0 k.next_arrival) (nat_lt 0 k.next_batch) number arrival batch

one_each : (version : ℕ) (k : Kept) → (version ≡ SECOND_VERSION → length k.counts ≡ length k.processors) → has_counts (head_in version k) ≡ true
one_each version k same = go (version == SECOND_VERSION) (λ e. eqb-true version SECOND_VERSION e)
  where
    go : (second : Bool) → (second ≡ true → version ≡ SECOND_VERSION) → (not second || (length k.counts == length k.processors)) ≡ true
    go true is =
        let as_many = same (is refl) in
        grind (arith, nat_tests, as_many)
    go false is = refl

-- the version, the names, the counters and the counts of a Head
rules_hold : (version : ℕ) (a b c : Bool) → a ≡ true → b ≡ true → c ≡ true → ((version == version) && a && b && c) ≡ true
rules_hold version a b c p q r =
    let same : (version == version) ≡ true = grind (arith, nat_tests) in
    rw (same, p, q, r) refl

head_says : (version : ℕ) (k : Kept) → IsConsistentIn version k → first_block_kept version (kind_code kinds.Head) (head (head_in version k)) ≡ Some (kept_of_head (head_in version k))
head_says version k is =
    let rules = rules_hold version _ _ _ (distinct_names k.connections is.connections) (counted version k is.counters) (one_each version k is.counts) in
    ap (head_next version) (whole_again head_at head IsHead head_is (head_in version k) is.encoded) ∙ rw rules refl

file_says : (k : Kept) (a : ActiveFile) → IsActiveFile a → file_may_join k a ≡ true → next_in k (kind_code kinds.File) (active_file a) ≡ Some (More (record k { files = k.files ++ a ∷ [] }))
file_says k a has joins = ap (file_next k) (whole_again active_file_at active_file IsActiveFile active_file_is a has) ∙ rw joins refl

batch_says : (k : Kept) (b : SwapBatch) → IsBatch b → batch_may_follow k b ≡ true → next_in k (kind_code kinds.Batch) (swap_batch b) ≡ Some (More (record k { batches = k.batches ++ b ∷ [] }))
batch_says k b has follows = ap (batch_next k) (whole_again batch_at swap_batch IsBatch batch_is b has) ∙ rw follows refl

end_says : (k : Kept) → IsEnding (blocks_in k) → next_in k (kind_code kinds.End) (ending (blocks_in k)) ≡ Some Last
end_says k has =
    let same : (blocks_in k == blocks_in k) ≡ true = grind (arith, nat_tests) in
    ap (end_next k) (whole_again ending_at ending IsEnding ending_is (blocks_in k) has) ∙ rw same refl

-- ---- the files

abbrev with_files : Kept → List ActiveFile → Kept
with_files k files = record k { files = files; batches = [] }

-- these files may join those, one behind the other
record MayAllJoin (k : Kept) (taken left : List ActiveFile) : Type 0 where
  pub known : All (IsFileIn k) left
  pub ascends : AscendsByNumber number_of left
  pub above : All (λ a. last_number number_of taken < number_of a) left
  pub distinct : AreDistinctBy (λ a. a.file.arrival) left
  pub fresh : All (λ a. list_any (λ b. b.file.arrival == a.file.arrival) taken ≡ false) left
  pub count : length taken + length left ≤ LIVE_FILES_MAX
  pub bytes : sum (map record_size taken) + sum (map record_size left) ≤ LIVE_BYTES_MAX

seven : (a b c d e f g : Bool) → a ≡ true → b ≡ true → c ≡ true → d ≡ true → e ≡ true → f ≡ true → g ≡ true → (a && b && c && d && e && f && g) ≡ true
seven a b c d e f g p q r s t u v = rw (p, q, r, s, t, u, v) refl

joins_here : (k : Kept) (taken left : List ActiveFile) (a : ActiveFile) → MayAllJoin k taken (a ∷ left) → file_may_join (with_files k taken) a ≡ true
joins_here k taken left a may =
    let known = may.known 0 a (omega arith) in
    let above = may.above 0 a (omega arith) in
    let cons = sum_by-cons (λ x. x) (record_size a) (map record_size left) in
    let b1 : nat_lt (last_number number_of taken) a.file.number ≡ true = grind (arith, nat_tests, above) in
    let b2 : nat_lt a.connection (length k.connections) ≡ true = grind (arith, nat_tests, known.connection) in
    let b3 : nat_lt a.file.number k.next_number ≡ true = grind (arith, nat_tests, known.number) in
    let b7 : nat_lt 0 a.file.arrival ≡ true = grind (arith, nat_tests, known.first_arrival) in
    let b4 : nat_lt a.file.arrival k.next_arrival ≡ true = grind (arith, nat_tests, known.arrival) in
    let b5 : nat_lt (length taken) LIVE_FILES_MAX ≡ true = grind (arith, nat_tests, may.count) in
    let b6 : nat_le (sum (map record_size taken) + record_size a) LIVE_BYTES_MAX ≡ true = grind (arith, nat_tests, may.bytes, cons) in
    all_three (file_has_place (with_files k taken) a) _ _ (seven true _ _ _ _ _ _ refl b1 b2 b3 b7 b4 b5) b6 (ap not (may.fresh 0 a (omega arith)))

or_false : (a b : Bool) → a ≡ false → b ≡ false → (a || b) ≡ false
or_false a b p q = rw (p, q) refl

joins_on : (k : Kept) (taken left : List ActiveFile) (a : ActiveFile) → MayAllJoin k taken (a ∷ left) → MayAllJoin k (taken ++ a ∷ []) left
joins_on k taken left a may = record {
  known = λ i d lt. may.known (suc i) d (omega (arith, lt));
  ascends = may.ascends.1;
  above = λ i d lt. let later = may.ascends.0 i d lt in let last = last_is number_of a taken in omega (arith, later, last);
  distinct = may.distinct.1;
  fresh = λ i d lt.
      let apart = may.distinct.0 i d lt in
      any_more _ taken a ∙ or_false _ _ (may.fresh (suc i) d (omega (arith, lt))) (grind (arith, nat_tests, apart));
  count = let long = may.count in omega (arith, long, length-append taken (a ∷ []));
  bytes = let total = may.bytes in omega (arith, total, sum_more record_size taken a, sum_by-cons (λ x. x) (record_size a) (map record_size left));
}

files_read : (file : FileName) (k : Kept) (taken left : List ActiveFile) (most at count : ℕ) (rest : List ℕ) → MayAllJoin k taken left → count ≡ length left + most
    → (next : ℕ) × (blocks_from count file at (with_files k taken) (flat_map file_block left ++ rest) ≡ blocks_from most file next (with_files k (taken ++ left)) rest)
files_read file k taken [] most at count rest may is =
    let none : count ≡ most = omega (arith, is) in
    (at, ap (λ (n : ℕ). blocks_from n file at (with_files k taken) rest) none ∙ ap (λ (l : List ActiveFile). blocks_from most file at (with_files k l) rest) (sym (append-nil taken)))
files_read file k taken (a ∷ left) most at count rest may is =
    let has = (may.known 0 a (omega arith)).encoded in
    let small = file_at_most a has in
    let step = block_next file (length left + most) at (kind_code kinds.File) (with_files k taken) (with_files k (taken ++ a ∷ [])) (active_file a) (flat_map file_block left ++ rest)
    (omega (arith, small)) (file_says (with_files k taken) a has (joins_here k taken left a may)) in
    let others = files_read file k (taken ++ a ∷ []) left most (at + (length (active_file a) + BLOCK_OVERHEAD)) (length left + most) rest (joins_on k taken left a may) refl in
    let more : count ≡ suc (length left + most) = omega (arith, is) in (
      others.0,
      ap (λ (n : ℕ). blocks_from n file at (with_files k taken) (flat_map file_block (a ∷ left) ++ rest)) more
          ∙ ap (λ (l : List ℕ). blocks_from (suc (length left + most)) file at (with_files k taken) l)
          (ap (λ (l : List ℕ). l ++ rest) (flat_map-cons file_block a left) ∙ append_assoc (file_block a) (flat_map file_block left) rest)
          ∙ step ∙ others.1 ∙ ap (λ (l : List ActiveFile). blocks_from most file others.0 (with_files k l) rest) (append_assoc taken (a ∷ []) left),
    )

-- ---- the batches

abbrev with_batches : Kept → List SwapBatch → Kept
with_batches k batches = record k { batches = batches }

record MayAllFollow (taken left : List SwapBatch) : Type 0 where
  pub encoded : All IsBatch left
  pub ascends : AscendsByNumber (λ b. b.batch) left
  pub above : All (λ b. last_number (λ c. c.batch) taken < b.batch) left

batches_read : (file : FileName) (k : Kept) (taken left : List SwapBatch) (most at count : ℕ) (rest : List ℕ) → MayAllFollow taken left → count ≡ length left + most
    → (next : ℕ) × (blocks_from count file at (with_batches k taken) (flat_map batch_block left ++ rest) ≡ blocks_from most file next (with_batches k (taken ++ left)) rest)
batches_read file k taken [] most at count rest may is =
    let none : count ≡ most = omega (arith, is) in
    (at, ap (λ (n : ℕ). blocks_from n file at (with_batches k taken) rest) none ∙ ap (λ (l : List SwapBatch). blocks_from most file at (with_batches k l) rest) (sym (append-nil taken)))
batches_read file k taken (b ∷ left) most at count rest may is =
    let has = may.encoded 0 b (omega arith) in
    let above = may.above 0 b (omega arith) in
    let follows : nat_lt (last_number (λ (c : SwapBatch). c.batch) taken) b.batch ≡ true = grind (arith, nat_tests, above) in
    let step = block_next file (length left + most) at (kind_code kinds.Batch) (with_batches k taken) (with_batches k (taken ++ b ∷ [])) (swap_batch b) (flat_map batch_block left ++ rest)
    (omega (arith, swap_batch_size b)) (batch_says (with_batches k taken) b has follows) in
    let on : MayAllFollow (taken ++ b ∷ []) left = record {
      encoded = λ i d lt. may.encoded (suc i) d (omega (arith, lt));
      ascends = may.ascends.1;
      above = λ i d lt. let later = may.ascends.0 i d lt in let last = last_is (λ (c : SwapBatch). c.batch) b taken in omega (arith, later, last);
    } in
    let others = batches_read file k (taken ++ b ∷ []) left most (at + (length (swap_batch b) + BLOCK_OVERHEAD)) (length left + most) rest on refl in
    let more : count ≡ suc (length left + most) = omega (arith, is) in (
      others.0,
      ap (λ (n : ℕ). blocks_from n file at (with_batches k taken) (flat_map batch_block (b ∷ left) ++ rest)) more
          ∙ ap (λ (l : List ℕ). blocks_from (suc (length left + most)) file at (with_batches k taken) l)
          (ap (λ (l : List ℕ). l ++ rest) (flat_map-cons batch_block b left) ∙ append_assoc (batch_block b) (flat_map batch_block left) rest)
          ∙ step ∙ others.1 ∙ ap (λ (l : List SwapBatch). blocks_from most file others.0 (with_batches k l) rest) (append_assoc taken (b ∷ []) left),
    )

-- ---- the whole

no_fewer_bytes : {X : Type 0} (f : X → List ℕ) (xs : List X) → ((x : X) → 1 ≤ length (f x)) → length xs ≤ length (flat_map f xs)
no_fewer_bytes f [] some = omega arith
no_fewer_bytes f (x ∷ xs) some =
    let others = no_fewer_bytes f xs some in
    let first = some x in
    omega (arith, others, first, ap length (flat_map-cons f x xs), length-append (f x) (flat_map f xs))

pub read_back : (version : ℕ) (file : FileName) (k : Kept) (rest : List ℕ) → IsConsistentIn version k → snapshot_of version file (snapshot version k ++ rest) ≡ Ok k
read_back version file k rest is =
    let fs = flat_map file_block k.files in
    let bs = flat_map batch_block k.batches in
    let eb = end_block (blocks_in k) in
    let hb = head_block version k in
    let parted : snapshot version k ++ rest ≡ hb ++ (fs ++ (bs ++ (eb ++ rest))) =
    append_assoc (hb ++ fs ++ bs) eb rest ∙ append_assoc (hb ++ fs) bs (eb ++ rest) ∙ append_assoc hb fs (bs ++ (eb ++ rest)) in
    let files = no_fewer_bytes file_block k.files (λ a. omega (arith, length-block (kind_code kinds.File) (active_file a))) in
    let batches = no_fewer_bytes batch_block k.batches (λ b. omega (arith, length-block (kind_code kinds.Batch) (swap_batch b))) in
    let size = length (hb ++ (fs ++ (bs ++ (eb ++ rest)))) in
    let long : length k.files + length k.batches ≤ size =
    omega (arith, files, batches, length-append hb (fs ++ (bs ++ (eb ++ rest))), length-append fs (bs ++ (eb ++ rest)), length-append bs (eb ++ rest)) in
    let spare = size - (length k.files + length k.batches) in
    let first = block_first file version (kind_code kinds.Head) (kept_of_head (head_in version k)) (head (head_in version k)) (fs ++ (bs ++ (eb ++ rest))) is.head_size (head_says version k is) in
    let joins : MayAllJoin k [] k.files = record {
      known = is.files;
      ascends = is.numbers;
      above = λ i d lt. let one = (is.files i d lt).encoded.file.first_number in omega (arith, one);
      distinct = is.arrivals;
      fresh = λ i d lt. refl;
      count = let live = is.live_files in omega (arith, live);
      bytes = let live = is.live_bytes in omega (arith, live);
    } in
    let follows : MayAllFollow [] k.batches = record {
      encoded = λ i d lt. (is.batches i d lt).encoded;
      ascends = is.batch_numbers;
      above = λ i d lt. let one = (is.batches i d lt).first in omega (arith, one);
    } in
    let counted = ascending_count (λ (b : SwapBatch). b.batch) k.next_batch 0 k.batches is.batch_numbers (λ i d lt. (is.batches i d lt).batch) (λ i d lt. omega arith) (omega arith) in
    let ended : IsEnding (blocks_in k) = omega (arith, counted, is.live_files, is.encoded.next_batch) in
    let at_files = files_read file k [] k.files (length k.batches + suc spare) (length (head (head_in version k)) + BLOCK_OVERHEAD) (suc size) (bs ++ (eb ++ rest)) joins (omega (arith, long)) in
    let at_batches = batches_read file (with_files k k.files) [] k.batches (suc spare) at_files.0 (length k.batches + suc spare) (eb ++ rest) follows refl in
    ap (snapshot_of version file) parted ∙ first ∙ at_files.1 ∙ at_batches.1
    ∙ block_last file spare at_batches.0 (kind_code kinds.End) k (ending (blocks_in k)) rest (omega arith) (end_says k ended)
