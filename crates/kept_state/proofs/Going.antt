-- How many files go, and how many bytes their records have.
use Rattle.std.proofs.Common.{◌≡◌, ◌≢◌, ℕ, ◌+◌, ◌==◌, ◌&&◌, not, true, false, List, [], ◌∷◌, length, map, Option, None, Some, is_some, refl, sym, ap, ◌∙◌, arith}
use Rattle.std.specs.List.{sum, list_any}
use Rattle.std.specs.Option.{option_or}
use Rattle.std.proofs.lemmas.Bool.{and_parts, and_from, or_parts, not-true, eq-eqb, false≢true}
use Rattle.std.proofs.lemmas.List.Sums.{sum_by-cons}
use Rattle.flowfile_record.specs.NumberedItems.{without_item, AscendsByNumber}
use Rattle.flowfile_record.specs.Stored.{Kept}
use Rattle.flowfile_record.specs.declared.limits.TheConstants.{LIVE_FILES_MAX, LIVE_BYTES_MAX}
use Rattle.flowfile_record.specs.declared.stored.ActiveFile.{ActiveFile}
use Rattle.record_codec.specs.declared.entry.SessionEntry.{SessionEntry}
use Rattle.checkpoint_store.specs.Consistent.{record_size}
use Rattle.kept_state.specs.Applied.{active_number, left_after, session_applied}
use Rattle.kept_state.specs.Fits.{active_of, are_distinct_numbers, is_in_connection, are_active_in, are_active_with, are_active_in_one}
use Rattle.kept_state.specs.Limits.{live_file_count, live_bytes, live_limit, limit_passed}
use Rattle.kept_state.specs.Moves.{record_size_of, are_all_active}
use Rattle.kept_state.specs.declared.limit.Which.TheVariants as which
use Rattle.kept_state.proofs.Items.{item_of-without_other, sum-without, length-without}
use Rattle.kept_state.proofs.Keeping.{ascends-filter, length-with_files, sum-with_files}
use Rattle.kept_state.proofs.Moving.{left_after-cons, left_after-nil}

-- ---- the files that go are active

some_from_in : (connection : ℕ) (a : Option ActiveFile) → is_in_connection connection a ≡ true → is_some a ≡ true
some_from_in connection None is = absurd cc
some_from_in connection (Some a) is = refl

pub active_from_in : (files : List ActiveFile) (connection : ℕ) (ns : List ℕ) → are_active_in files connection ns ≡ true → are_all_active files ns ≡ true
active_from_in files connection [] are = refl
active_from_in files connection (n ∷ ns) are =
    let parts = and_parts (is_in_connection connection (active_of n files)) (are_active_in files connection ns) are in
    and_from (is_some (active_of n files)) (are_all_active files ns) (some_from_in connection (active_of n files) parts.0) (active_from_in files connection ns parts.1)

active_from_with : (files : List ActiveFile) (a : Option ActiveFile) (ns : List ℕ) → are_active_with files a ns ≡ true → are_all_active files ns ≡ true
active_from_with files None ns are = absurd cc
active_from_with files (Some a) ns are = active_from_in files a.connection ns are

pub active_from_one : (files : List ActiveFile) (ns : List ℕ) → are_active_in_one files ns ≡ true → are_all_active files ns ≡ true
active_from_one files [] are = refl
active_from_one files (n ∷ ns) are = active_from_with files (active_of n files) (n ∷ ns) are

-- ---- one of them goes

others_stay : (n : ℕ) (files : List ActiveFile) (ns : List ℕ) → list_any (λ m. m == n) ns ≡ false
    → (are_all_active (without_item active_number n files) ns ≡ are_all_active files ns) × (map (λ m. record_size_of (active_of m (without_item active_number n files))) ns ≡ map (λ m. record_size_of (active_of m files)) ns)
others_stay n files [] other = (refl, refl)
others_stay n files (m ∷ ns) other =
    let parts = or_parts (m == n) (list_any (λ m. m == n) ns) other in
    let ne : m ≢ n = λ e. false≢true (sym parts.0 ∙ eq-eqb m n e) in
    let same = item_of-without_other active_number m n files ne in
    let rest = others_stay n files ns parts.1 in (
      ap (λ (a : Option ActiveFile). is_some a && are_all_active (without_item active_number n files) ns) same ∙ ap (λ b. is_some (active_of m files) && b) rest.0,
      ap (λ (a : Option ActiveFile). record_size_of a ∷ map (λ k. record_size_of (active_of k (without_item active_number n files))) ns) same ∙ ap (λ (sizes : List ℕ). record_size_of (active_of m files) ∷ sizes) rest.1,
    )

found : (a : Option ActiveFile) → is_some a ≡ true → (x : ActiveFile) × (a ≡ Some x)
found None is = absurd cc
found (Some x) is = (x, refl)

-- ---- all of them go

pub bytes_gone : (gone : List ℕ) (files : List ActiveFile) → AscendsByNumber active_number files → are_distinct_numbers gone ≡ true → are_all_active files gone ≡ true
    → sum (map (λ n. record_size_of (active_of n files)) gone) + sum (map record_size (left_after gone files)) ≡ sum (map record_size files)
bytes_gone [] files ascends distinct active = omega (arith, ap (λ l. sum (map record_size l)) (left_after-nil files))
bytes_gone (n ∷ ns) files ascends distinct active =
    let d = and_parts (not (list_any (λ m. m == n) ns)) (are_distinct_numbers ns) distinct in
    let a = and_parts (is_some (active_of n files)) (are_all_active files ns) active in
    let x = found (active_of n files) a.0 in
    let same = others_stay n files ns (not-true (list_any (λ m. m == n) ns) d.0) in
    let rest = bytes_gone ns (without_item active_number n files) (ascends-filter active_number (λ b. not (active_number b == n)) files ascends) d.1 (same.0 ∙ a.1) in
    omega (
      arith,
      rest,
      sum-without active_number record_size n files x.0 ascends x.1,
      ap record_size_of x.1,
      ap (λ l. sum (map record_size l)) (left_after-cons n ns files),
      ap sum same.1,
      sum_by-cons (λ y. y) (record_size_of (active_of n files)) (map (λ m. record_size_of (active_of m files)) ns),
    )

pub count_gone : (gone : List ℕ) (files : List ActiveFile) → AscendsByNumber active_number files → are_distinct_numbers gone ≡ true → are_all_active files gone ≡ true → length gone + length (left_after gone files) ≡ length files
count_gone [] files ascends distinct active = omega (arith, ap length (left_after-nil files))
count_gone (n ∷ ns) files ascends distinct active =
    let d = and_parts (not (list_any (λ m. m == n) ns)) (are_distinct_numbers ns) distinct in
    let a = and_parts (is_some (active_of n files)) (are_all_active files ns) active in
    let x = found (active_of n files) a.0 in
    let same = others_stay n files ns (not-true (list_any (λ m. m == n) ns) d.0) in
    let rest = count_gone ns (without_item active_number n files) (ascends-filter active_number (λ b. not (active_number b == n)) files ascends) d.1 (same.0 ∙ a.1) in
    omega (arith, rest, length-without active_number n files x.0 ascends x.1, ap length (left_after-cons n ns files))

-- ---- the limits of what lives after a session

pub live_limit-session : (k : Kept) (s : SessionEntry) → k.batches ≡ []
    → live_limit (session_applied k s) ≡ option_or (limit_passed which.Files LIVE_FILES_MAX (length (left_after s.gone k.files) + length s.placed)) (limit_passed which.FileBytes LIVE_BYTES_MAX (sum (map record_size (left_after s.gone k.files)) + sum (map record_size s.placed)))
live_limit-session k s none =
    let count : live_file_count (session_applied k s) ≡ length (left_after s.gone k.files) + length s.placed = omega (arith, length-with_files s.placed (left_after s.gone k.files), ap (λ bs. sum (map (λ b. b.files) bs)) none) in
    let bytes : live_bytes (session_applied k s) ≡ sum (map record_size (left_after s.gone k.files)) + sum (map record_size s.placed) =
    omega (arith, sum-with_files s.placed (left_after s.gone k.files), ap (λ bs. sum (map (λ b. b.encoded) bs)) none) in
    ap (λ n. option_or (limit_passed which.Files LIVE_FILES_MAX n) (limit_passed which.FileBytes LIVE_BYTES_MAX (live_bytes (session_applied k s)))) count
    ∙ ap (λ n. option_or (limit_passed which.Files LIVE_FILES_MAX (length (left_after s.gone k.files) + length s.placed)) (limit_passed which.FileBytes LIVE_BYTES_MAX n)) bytes
