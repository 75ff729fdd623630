-- What an entry that fits leaves is consistent.
use Rattle.std.proofs.Common.{◌≡◌, ◌≢◌, ℕ, ◌+◌, ◌^◌, ◌<◌, ◌≤◌, ◌==◌, ◌&&◌, not, nat_lt, nat_le, Bool, true, false, List, [], ◌∷◌, length, map, All, Option, None, Some, refl, sym, ap, ◌∙◌, inl, inr, subst, arith, length-set}
use Rattle.std.specs.Prelude.{is_none}
use Rattle.std.specs.List.{sum, list_any, list_all, filter}
use Rattle.std.specs.Option.{option_or}
use Rattle.std.proofs.lemmas.Bool.{cases_Bool, and_parts, or_parts, ltb-true, leb-true, ltb-false, eq-eqb, false≢true}
use Rattle.std.proofs.lemmas.List.Elements.{All-nil, All-cons, All-head, All-tail, All-filter, All-set, All-weaker}
use Rattle.std.proofs.lemmas.List.Sums.{sum_by-cons}
use Rattle.flowfile_record.specs.Encoding.{IsNumber}
use Rattle.flowfile_record.specs.NumberedItems.{with_item, AscendsByNumber}
use Rattle.flowfile_record.specs.Stored.{Kept}
use Rattle.flowfile_record.specs.declared.limits.TheConstants.{LIVE_FILES_MAX, LIVE_BYTES_MAX}
use Rattle.flowfile_record.specs.declared.stored.ActiveFile.{ActiveFile}
use Rattle.flowfile_record.specs.declared.stored.Counted.{Counted}
use Rattle.flowfile_record.specs.declared.stored.SwapBatch.{SwapBatch}
use Rattle.record_codec.specs.ActiveFile.{IsActiveFile}
use Rattle.record_codec.specs.EntryEncoding.{IsSession, IsExpire, IsGenerator}
use Rattle.record_codec.specs.declared.entry.SessionEntry.{SessionEntry}
use Rattle.record_codec.specs.declared.entry.ExpireEntry.{ExpireEntry}
use Rattle.record_codec.specs.declared.entry.LogEntry.TheVariants.{Session, Expire}
use Rattle.flowfile_record.proofs.Sizes.{numbers_size}
use Rattle.record_codec.specs.declared.TheConstants.{FORMAT_VERSION}
use Rattle.record_codec.proofs.StoreHeads.{head_size}
use Rattle.checkpoint_store.specs.Consistent.{AreDistinctBy, HasCounters, IsFileIn, IsBatchIn, IsConsistent, record_size}
use Rattle.checkpoint_store.specs.Snapshot.{head_in}
use Rattle.kept_state.specs.Applied.{active_number, is_file_among, left_after, with_files, session_applied, applied}
use Rattle.flowfile_record.specs.Counts.{with_count}
use Rattle.kept_state.specs.Arrivals.{arrival_of}
use Rattle.kept_state.specs.Changes.{no_files}
use Rattle.kept_state.specs.Fits.{are_distinct_numbers, are_active_in, are_active_in_one, placed_are_new, are_new, has_place, has_count, keeps_counters, session_suits, expire_fits, entry_suits, live}
use Rattle.kept_state.specs.Limits.{live_file_count, live_bytes, live_limit, limit_passed}
use Rattle.kept_state.specs.declared.limit.Which.{Which}
use Rattle.kept_state.specs.declared.limit.Which.TheVariants as which
use Rattle.kept_state.proofs.Apart.{AreApart, apart, absent, unused-files, lives}
use Rattle.kept_state.proofs.Items.{All-with, ascends-with, length-with, sum-with}

-- ---- what goes leaves the rest in order

pub ascends-filter : {A : Type 0} (number : A → ℕ) (test : A → Bool) (items : List A) → AscendsByNumber number items → AscendsByNumber number (filter test items)
ascends-filter number test [] ascends = tt
ascends-filter number test (x ∷ items) ascends =
    let rest = ascends-filter number test items ascends.1 in
    elim (cases_Bool (test x)) [
      | inl t ↦ rw t (All-filter test (λ later. number x < number later) items ascends.0, rest)
      | inr f ↦ rw f rest
    ]

pub distinct-filter : {A : Type 0} (part : A → ℕ) (test : A → Bool) (items : List A) → AreDistinctBy part items → AreDistinctBy part (filter test items)
distinct-filter part test [] distinct = tt
distinct-filter part test (x ∷ items) distinct =
    let rest = distinct-filter part test items distinct.1 in
    elim (cases_Bool (test x)) [
      | inl t ↦ rw t (All-filter test (λ y. part x ≢ part y) items distinct.0, rest)
      | inr f ↦ rw f rest
    ]

pub length-filter_le : {A : Type 0} (test : A → Bool) (items : List A) → length (filter test items) ≤ length items
length-filter_le test [] = omega arith
length-filter_le test (x ∷ items) =
    let rest = length-filter_le test items in
    elim (cases_Bool (test x)) [ inl t ↦ rw t (omega (arith, rest)) | inr f ↦ rw f (omega (arith, rest)) ]

pub sum-filter_le : {A : Type 0} (size : A → ℕ) (test : A → Bool) (items : List A) → sum (map size (filter test items)) ≤ sum (map size items)
sum-filter_le size test [] = omega arith
sum-filter_le size test (x ∷ items) =
    let rest = sum-filter_le size test items in
    let whole = sum_by-cons (λ y. y) (size x) (map size items) in
    elim (cases_Bool (test x)) [
      | inl t ↦ rw t (omega (arith, rest, whole, sum_by-cons (λ y. y) (size x) (map size (filter test items))))
      | inr f ↦ rw f (omega (arith, rest, whole))
    ]

-- ---- what is placed joins in order

pub All-with_files : (P : ActiveFile → Type 0) (placed files : List ActiveFile) → All P placed → All P files → All P (with_files placed files)
All-with_files P [] files new all = all
All-with_files P (a ∷ placed) files new all = All-with_files P placed (with_item active_number a files) (All-tail P a placed new) (All-with active_number P a files (All-head P a placed new) all)

pub ascends-with_files : (placed files : List ActiveFile) → AreApart active_number placed files → AscendsByNumber active_number files → AscendsByNumber active_number (with_files placed files)
ascends-with_files [] files apart ascends = ascends
ascends-with_files (a ∷ placed) files apart ascends =
    let none = absent (a ∷ placed) files apart in
    ascends-with_files placed (with_item active_number a files) apart.1 (ascends-with active_number a files none.0 ascends)

-- no file has this in it
apart_all : (part : ActiveFile → ℕ) (n : ℕ) (files : List ActiveFile) → list_any (λ b. part b == n) files ≡ false → All (λ b. n ≢ part b) files
apart_all part n [] none = All-nil (λ b. n ≢ part b)
apart_all part n (b ∷ files) none =
    let parts = or_parts (part b == n) (list_any (λ c. part c == n) files) none in
    All-cons (λ c. n ≢ part c) b files (λ e. false≢true (sym parts.0 ∙ eq-eqb (part b) n (sym e))) (apart_all part n files parts.1)

distinct-with : (part : ActiveFile → ℕ) (a : ActiveFile) (files : List ActiveFile) → list_any (λ b. part b == part a) files ≡ false → AreDistinctBy part files → AreDistinctBy part (with_item active_number a files)
distinct-with part a [] none distinct = (All-nil (λ y. part a ≢ part y), tt)
distinct-with part a (x ∷ files) none distinct =
    let parts = or_parts (part x == part a) (list_any (λ c. part c == part a) files) none in
    elim (cases_Bool (nat_lt (active_number x) (active_number a))) [
      | inl t ↦
          let first : part x ≢ part a = λ e. false≢true (sym parts.0 ∙ eq-eqb (part x) (part a) e) in
          rw t (All-with active_number (λ y. part x ≢ part y) a files first distinct.0, distinct-with part a files parts.1 distinct.1)
      | inr f ↦ rw f (apart_all part (part a) (x ∷ files) none, distinct)
    ]

pub distinct-with_files : (part : ActiveFile → ℕ) (placed files : List ActiveFile) → AreApart part placed files → AreDistinctBy part files → AreDistinctBy part (with_files placed files)
distinct-with_files part [] files apart distinct = distinct
distinct-with_files part (a ∷ placed) files apart distinct = distinct-with_files part placed (with_item active_number a files) apart.1 (distinct-with part a files apart.0 distinct)

pub length-with_files : (placed files : List ActiveFile) → length (with_files placed files) ≡ length files + length placed
length-with_files [] files = omega arith
length-with_files (a ∷ placed) files = omega (arith, length-with_files placed (with_item active_number a files), length-with active_number a files)

pub sum-with_files : (placed files : List ActiveFile) → sum (map record_size (with_files placed files)) ≡ sum (map record_size files) + sum (map record_size placed)
sum-with_files [] files = omega arith
sum-with_files (a ∷ placed) files =
    omega (arith, sum-with_files placed (with_item active_number a files), sum-with active_number record_size a files, sum_by-cons (λ y. y) (record_size a) (map record_size placed))

-- ---- a session's entry that suits what is kept

pub record Suits (k : Kept) (s : SessionEntry) : Type 0 where
  pub distinct : are_distinct_numbers s.gone ≡ true
  pub active : are_active_in_one k.files s.gone ≡ true
  pub numbers : AreApart active_number s.placed (left_after s.gone k.files)
  pub arrivals : AreApart arrival_of s.placed (left_after s.gone k.files)
  pub places : list_all (has_place k s) s.placed ≡ true
  pub counted : has_count k.counts s.generator ≡ true
  pub counters : keeps_counters k s ≡ true

apart_from : (part : _) (k : Kept) (placed left : List ActiveFile) → k.batches ≡ [] → are_new part (map (λ a. part a.file) placed) (live no_files (record k { files = left })) ≡ true → AreApart (λ a. part a.file) placed left
apart_from part k placed left none new =
    let plain = ap (are_new part (map (λ a. part a.file) placed)) (sym (lives left k.batches none)) ∙ new in
    let parts = and_parts (are_distinct_numbers (map (λ a. part a.file) placed)) (list_all (λ n. not (list_any (λ f. part f == n) (map (λ a. a.file) left))) (map (λ a. part a.file) placed)) plain in
    apart (λ a. part a.file) placed left parts.0 (sym (unused-files part (map (λ a. part a.file) placed) left) ∙ parts.1)

pub suits_from : (k : Kept) (s : SessionEntry) → k.batches ≡ [] → session_suits no_files k s ≡ true → Suits k s
suits_from k s none suits =
    let a = and_parts (are_distinct_numbers s.gone && are_active_in_one k.files s.gone && placed_are_new no_files k s && list_all (has_place k s) s.placed && has_count k.counts s.generator) (keeps_counters k s) suits in
    let b = and_parts (are_distinct_numbers s.gone && are_active_in_one k.files s.gone && placed_are_new no_files k s && list_all (has_place k s) s.placed) (has_count k.counts s.generator) a.0 in
    let d = and_parts (are_distinct_numbers s.gone && are_active_in_one k.files s.gone && placed_are_new no_files k s) (list_all (has_place k s) s.placed) b.0 in
    let e = and_parts (are_distinct_numbers s.gone && are_active_in_one k.files s.gone) (placed_are_new no_files k s) d.0 in
    let f = and_parts (are_distinct_numbers s.gone) (are_active_in_one k.files s.gone) e.0 in
    let left = record k { files = left_after s.gone k.files } in
    let g = and_parts (are_new (λ f. f.number) (map (λ a. a.file.number) s.placed) (live no_files left)) (are_new (λ f. f.arrival) (map (λ a. a.file.arrival) s.placed) (live no_files left)) e.1 in
    record {
      distinct = f.0;
      active = f.1;
      numbers = apart_from (λ f. f.number) k s.placed (left_after s.gone k.files) none g.0;
      arrivals = apart_from (λ f. f.arrival) k s.placed (left_after s.gone k.files) none g.1;
      places = d.1;
      counted = b.1;
      counters = a.1;
    }

-- ---- limits

pub not_passed : (w : Which) (number wanted : ℕ) → limit_passed w number wanted ≡ None → wanted ≤ number
not_passed w number wanted none = elim (cases_Bool (nat_lt number wanted)) [
  | inl t ↦ absurd (let some = rw t at none in cc)
  | inr f ↦ ltb-false number wanted f
]

pub or_none : {A : Type 0} (a b : Option A) → option_or a b ≡ None → (a ≡ None) × (b ≡ None)
or_none None b none = (refl, none)
or_none (Some x) b none = absurd cc

pub is_none_none : {A : Type 0} (a : Option A) → is_none a ≡ true → a ≡ None
is_none_none None none = refl
is_none_none (Some x) none = absurd cc

pub within_limits : (k : Kept) → live_limit k ≡ None → (live_file_count k ≤ LIVE_FILES_MAX) × (live_bytes k ≤ LIVE_BYTES_MAX)
within_limits k none =
    let both = or_none (limit_passed which.Files LIVE_FILES_MAX (live_file_count k)) (limit_passed which.FileBytes LIVE_BYTES_MAX (live_bytes k)) none in
    (not_passed which.Files LIVE_FILES_MAX (live_file_count k) both.0, not_passed which.FileBytes LIVE_BYTES_MAX (live_bytes k) both.1)

-- ---- what is kept after a session's entry

all_from : {A : Type 0} (test : A → Bool) (items : List A) → list_all test items ≡ true → All (λ a. test a ≡ true) items
all_from test [] all = All-nil (λ a. test a ≡ true)
all_from test (x ∷ items) all = let parts = and_parts (test x) (list_all test items) all in All-cons (λ a. test a ≡ true) x items parts.0 (all_from test items parts.1)

both_all : {A : Type 0} (P Q R : A → Type 0) → ((a : A) → P a → Q a → R a) → (items : List A) → All P items → All Q items → All R items
both_all P Q R step items p q k d lt = step _ (p k d lt) (q k d lt)

length-with_count : (g : Option Counted) (counts : List ℕ) → length (with_count g counts) ≡ length counts
length-with_count None counts = refl
length-with_count (Some g) counts = length-set counts g.processor g.count

numbers-with_count : (g : Option Counted) (counts : List ℕ) → IsGenerator g → All IsNumber counts → All IsNumber (with_count g counts)
numbers-with_count None counts is all = all
numbers-with_count (Some g) counts is all = All-set IsNumber counts g.processor g.count is.1 all

counters_from : (k : Kept) (s : SessionEntry) → keeps_counters k s ≡ true → (k.next_number ≤ s.next_number) × (k.next_arrival ≤ s.next_arrival) × (k.last_event ≤ s.last_event)
counters_from k s keeps =
    let a = and_parts (nat_le k.next_number s.next_number && nat_le k.next_arrival s.next_arrival) (nat_le k.last_event s.last_event) keeps in
    let b = and_parts (nat_le k.next_number s.next_number) (nat_le k.next_arrival s.next_arrival) a.0 in
    (leb-true k.next_number s.next_number b.0, leb-true k.next_arrival s.next_arrival b.1, leb-true k.last_event s.last_event a.1)

counters_go_on : (k : Kept) (s : SessionEntry) → HasCounters k → keeps_counters k s ≡ true → HasCounters (session_applied k s)
counters_go_on k s has keeps =
    let later = counters_from k s keeps in
    record {
      next_number = let first = has.next_number in omega (arith, first, later.0);
      next_arrival = let first = has.next_arrival in omega (arith, first, later.1);
      next_batch = has.next_batch;
    }

placed_in_order : (k : Kept) (s : SessionEntry) (a : ActiveFile) → IsActiveFile a → has_place k s a ≡ true → IsFileIn (session_applied k s) a
placed_in_order k s a is place =
    let b =
    and_parts (nat_lt a.connection (length k.connections) && nat_lt a.file.number s.next_number && nat_lt 0 a.file.arrival) (nat_lt a.file.arrival s.next_arrival) place in
    let e = and_parts (nat_lt a.connection (length k.connections) && nat_lt a.file.number s.next_number) (nat_lt 0 a.file.arrival) b.0 in
    let d = and_parts (nat_lt a.connection (length k.connections)) (nat_lt a.file.number s.next_number) e.0 in
    record {
      encoded = is;
      connection = ltb-true a.connection (length k.connections) d.0;
      number = ltb-true a.file.number s.next_number d.1;
      first_arrival = ltb-true 0 a.file.arrival e.1;
      arrival = ltb-true a.file.arrival s.next_arrival b.1;
    }

kept_in_order : (k : Kept) (s : SessionEntry) → keeps_counters k s ≡ true → (a : ActiveFile) → IsFileIn k a → IsFileIn (session_applied k s) a
kept_in_order k s keeps a is =
    let counters = counters_from k s keeps in
    record {
      encoded = is.encoded;
      connection = is.connection;
      number = let lt = is.number in omega (arith, lt, counters.0);
      first_arrival = is.first_arrival;
      arrival = let lt = is.arrival in omega (arith, lt, counters.1);
    }

batch_in_order : (k l : Kept) → length l.connections ≡ length k.connections → l.next_batch ≡ k.next_batch → (b : SwapBatch) → IsBatchIn k b → IsBatchIn l b
batch_in_order k l connections next b is = record {
  encoded = is.encoded;
  connection = let lt = is.connection in omega (arith, lt, connections);
  first = is.first;
  batch = let lt = is.batch in omega (arith, lt, next);
}

pub session_keeps : (k : Kept) (s : SessionEntry) → IsConsistent k → k.batches ≡ [] → IsSession s → entry_suits no_files k (Session s) ≡ true → IsConsistent (session_applied k s)
session_keeps k s was none is fit =
    let parts = and_parts (session_suits no_files k s) (is_none (live_limit (session_applied k s))) fit in
    let suits = suits_from k s none parts.0 in
    let within = within_limits (session_applied k s) (is_none_none (live_limit (session_applied k s)) parts.1) in
    let left = left_after s.gone k.files in
    let test : ActiveFile → Bool = λ a. not (is_file_among s.gone a) in
    record {
      encoded = record {
        version = was.encoded.version;
        store = was.encoded.store;
        flow = was.encoded.flow;
        connections = was.encoded.connections;
        processors = was.encoded.processors;
        counts = (
          subst (λ n. n < 2 ^ 32) (sym (length-with_count s.generator k.counts)) was.encoded.counts.0,
          numbers-with_count s.generator k.counts is.generator was.encoded.counts.1,
        );
        next_number = is.next_number;
        next_arrival = is.next_arrival;
        last_event = is.last_event;
        line = (was.encoded.line.0, omega (arith, (was.encoded.first refl).1));
        next_batch = was.encoded.next_batch;
        first = was.encoded.first;
      };
      head_size =
          omega (
            arith,
            was.head_size,
            head_size (head_in FORMAT_VERSION k) was.encoded.flow,
            head_size (head_in FORMAT_VERSION (session_applied k s)) was.encoded.flow,
            numbers_size k.counts,
            numbers_size (with_count s.generator k.counts),
            length-with_count s.generator k.counts,
          );
      counts = λ second. length-with_count s.generator k.counts ∙ was.counts second;
      connections = was.connections;
      counters = counters_go_on k s was.counters suits.counters;
      files = All-with_files (IsFileIn (session_applied k s)) s.placed left
          (both_all IsActiveFile (λ a. has_place k s a ≡ true) (IsFileIn (session_applied k s)) (placed_in_order k s) s.placed is.placed.1 (all_from (has_place k s) s.placed suits.places))
          (All-filter test (IsFileIn (session_applied k s)) k.files (All-weaker (IsFileIn k) (IsFileIn (session_applied k s)) (kept_in_order k s suits.counters) k.files was.files));
      numbers = ascends-with_files s.placed left suits.numbers (ascends-filter active_number test k.files was.numbers);
      arrivals = distinct-with_files arrival_of s.placed left suits.arrivals (distinct-filter arrival_of test k.files was.arrivals);
      batches = All-weaker (IsBatchIn k) (IsBatchIn (session_applied k s)) (batch_in_order k (session_applied k s) refl refl) k.batches was.batches;
      batch_numbers = was.batch_numbers;
      live_files = within.0;
      live_bytes = within.1;
    }

-- ---- what is kept after files are expired

expired_in_order : (k : Kept) (e : ExpireEntry) (a : ActiveFile) → IsFileIn k a → IsFileIn (applied no_files k (Expire e)) a
expired_in_order k e a is = record { encoded = is.encoded; connection = is.connection; number = is.number; first_arrival = is.first_arrival; arrival = is.arrival }

pub expire_keeps : (k : Kept) (e : ExpireEntry) → IsConsistent k → IsExpire e → IsConsistent (applied no_files k (Expire e))
expire_keeps k e was is =
    let test : ActiveFile → Bool = λ a. not (is_file_among e.numbers a) in
    record {
      encoded = record {
        version = was.encoded.version;
        store = was.encoded.store;
        flow = was.encoded.flow;
        connections = was.encoded.connections;
        processors = was.encoded.processors;
        counts = was.encoded.counts;
        next_number = was.encoded.next_number;
        next_arrival = was.encoded.next_arrival;
        last_event = is.last_event;
        line = (was.encoded.line.0, omega (arith, (was.encoded.first refl).1));
        next_batch = was.encoded.next_batch;
        first = was.encoded.first;
      };
      head_size = omega (arith, was.head_size, head_size (head_in FORMAT_VERSION k) was.encoded.flow, head_size (head_in FORMAT_VERSION (applied no_files k (Expire e))) was.encoded.flow);
      counts = was.counts;
      connections = was.connections;
      counters = record { next_number = was.counters.next_number; next_arrival = was.counters.next_arrival; next_batch = was.counters.next_batch };
      files = All-filter test (IsFileIn (applied no_files k (Expire e))) k.files (All-weaker (IsFileIn k) (IsFileIn (applied no_files k (Expire e))) (expired_in_order k e) k.files was.files);
      numbers = ascends-filter active_number test k.files was.numbers;
      arrivals = distinct-filter arrival_of test k.files was.arrivals;
      batches = All-weaker (IsBatchIn k) (IsBatchIn (applied no_files k (Expire e))) (batch_in_order k (applied no_files k (Expire e)) refl refl) k.batches was.batches;
      batch_numbers = was.batch_numbers;
      live_files = omega (arith, was.live_files, length-filter_le test k.files);
      live_bytes = omega (arith, was.live_bytes, sum-filter_le record_size test k.files);
    }

-- ---- what is kept, made of its parts

pub session_made : (k : Kept) (s : SessionEntry) (counts : List ℕ) (files : List ActiveFile) → counts ≡ with_count s.generator k.counts → files ≡ with_files s.placed (left_after s.gone k.files)
    → (record k { counts = counts; next_number = s.next_number; next_arrival = s.next_arrival; last_event = s.last_event; files = files }) ≡ session_applied k s
session_made k s counts files counts_are files_are =
    ap (λ (c : List ℕ). record k { counts = c; next_number = s.next_number; next_arrival = s.next_arrival; last_event = s.last_event; files = files }) counts_are
    ∙ ap (λ (f : List ActiveFile). record k { counts = with_count s.generator k.counts; next_number = s.next_number; next_arrival = s.next_arrival; last_event = s.last_event; files = f }) files_are

pub expire_made : (k : Kept) (e : ExpireEntry) (files : List ActiveFile) → files ≡ left_after e.numbers k.files → (record k { last_event = e.last_event; files = files }) ≡ applied no_files k (Expire e)
expire_made k e files files_are = ap (λ (f : List ActiveFile). record k { last_event = e.last_event; files = f }) files_are

-- ---- the rules on expired files

pub expire_parts : (k : Kept) (e : ExpireEntry) → expire_fits k e ≡ true → (are_distinct_numbers e.numbers ≡ true) × (are_active_in k.files e.connection e.numbers ≡ true)
expire_parts k e fit =
    let a = and_parts (are_distinct_numbers e.numbers && are_active_in k.files e.connection e.numbers) (e.last_event == k.last_event + length e.numbers) fit in
    and_parts (are_distinct_numbers e.numbers) (are_active_in k.files e.connection e.numbers) a.0

pub session_parts : (k : Kept) (s : SessionEntry) → entry_suits no_files k (Session s) ≡ true → (session_suits no_files k s ≡ true) × (live_limit (session_applied k s) ≡ None)
session_parts k s fit =
    let parts = and_parts (session_suits no_files k s) (is_none (live_limit (session_applied k s))) fit in
    (parts.0, is_none_none (live_limit (session_applied k s)) parts.1)

gone_parts : (files : _) (k : Kept) (s : SessionEntry) → session_suits files k s ≡ true → (are_distinct_numbers s.gone ≡ true) × (are_active_in_one k.files s.gone ≡ true)
gone_parts files k s suits =
    let a = and_parts (are_distinct_numbers s.gone && are_active_in_one k.files s.gone && placed_are_new files k s && list_all (has_place k s) s.placed && has_count k.counts s.generator) (keeps_counters k s) suits in
    let b = and_parts (are_distinct_numbers s.gone && are_active_in_one k.files s.gone && placed_are_new files k s && list_all (has_place k s) s.placed) (has_count k.counts s.generator) a.0 in
    let d = and_parts (are_distinct_numbers s.gone && are_active_in_one k.files s.gone && placed_are_new files k s) (list_all (has_place k s) s.placed) b.0 in
    let e = and_parts (are_distinct_numbers s.gone && are_active_in_one k.files s.gone) (placed_are_new files k s) d.0 in
    and_parts (are_distinct_numbers s.gone) (are_active_in_one k.files s.gone) e.0

pub active_of_suits : (k : Kept) (s : SessionEntry) → session_suits no_files k s ≡ true → are_active_in_one k.files s.gone ≡ true
active_of_suits k s suits = (gone_parts no_files k s suits).1

pub distinct_of_suits : (k : Kept) (s : SessionEntry) → session_suits no_files k s ≡ true → are_distinct_numbers s.gone ≡ true
distinct_of_suits k s suits = (gone_parts no_files k s suits).0
