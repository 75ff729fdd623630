-- Files that are longer than what is covered are listed, one by one.
use Rattle.std.proofs.Common.{◌≡◌, ℕ, suc, ◌+◌, ◌≤◌, ◌<◌, inl, inr, Bool, true, false, cond, IsTrue, List, [], ◌∷◌, ◌++◌, length, get_or, refl, sym, ap, subst, ◌∙◌, append_assoc, arith}
use Rattle.std.specs.Prelude.{All, Contains, filter, nat_lt}
use Rattle.std.specs.List.{AllPairs}
use Rattle.std.specs.List.Sorted.{IsStrictlyIncreasing}
use Rattle.std.proofs.lemmas.Bool.Decides.{nat_tests}
use Rattle.std.proofs.lemmas.List.{append-nil, get_or-map, length-map, map-append}
use Rattle.std.proofs.lemmas.List.Elements.{All-push, All-append, All-filter, Contains-append_left, Contains-append_right, filter_passes}
use Rattle.std.proofs.lemmas.List.Kept.{AllPairs-from_increasing, IsStrictlyIncreasing-filter}
use Rattle.std.proofs.lemmas.List.Quantifiers.{all_pairs_push}
use Rattle.disk_trait.proofs.FileLists.{contains_here, contains_there, contains_cases}
use Rattle.disk_trait.specs.Files.{Files}
use Rattle.prov_store.specs.Events.{events_file}
use Rattle.prov_store.specs.Loading.{AreFileNumbers, AreListedStale, files_before, files_later}
use Rattle.prov_store.specs.State.{AreLonger, uncovered}
use Rattle.prov_store.specs.declared.events.Stale.{Stale}
use Rattle.prov_store.proofs.Keeping.{stale_files}

pub none_longer : (tells : Bool) (files : Files) (first k : ℕ) (stale : List Stale) → stale ≡ [] → AreListedStale tells files first k stale
none_longer tells files first k stale none = subst (AreListedStale tells files first k) (sym none) (record {
  longer = record { ascending = λ i j d lt within. absurd (omega (arith, within)); longer = λ told i d lt. absurd (omega (arith, lt)) };
  from = λ i d lt. absurd (omega (arith, lt));
  before = λ i d lt. absurd (omega (arith, lt));
})

pub one_longer : (tells : Bool) (files : Files) (old new : List Stale) (s : Stale) → new ≡ old ++ s ∷ [] → AreLonger tells files old → All (λ t. t.file < s.file) old
    → (IsTrue tells → s.size < length (files (events_file s.file))) → AreLonger tells files new
one_longer tells files old new s is longer before long = subst (AreLonger tells files) (sym is) (record {
  ascending = all_pairs_push (λ (s t : Stale). s.file < t.file) old s longer.ascending before;
  longer = λ told. All-push (λ (s : Stale). s.size < length (files (events_file s.file))) old s (longer.longer told) (long told);
})

pub one_listed : (tells : Bool) (files : Files) (first : ℕ) (old new : List Stale) (s : Stale) → new ≡ old ++ s ∷ [] → first ≤ s.file → AreListedStale tells files first s.file old
    → (IsTrue tells → s.size < length (files (events_file s.file))) → AreListedStale tells files first (s.file + 1) new
one_listed tells files first old new s is late listed long = record {
  longer = one_longer tells files old new s is listed.longer listed.before long;
  from = subst (All (λ (t : Stale). first ≤ t.file)) (sym is) (All-push (λ (t : Stale). first ≤ t.file) old s listed.from late);
  before =
      subst (All (λ (t : Stale). t.file < s.file + 1)) (sym is)
      (All-push (λ (t : Stale). t.file < s.file + 1) old s (λ i d lt. let here = listed.before i d lt in omega (arith, here)) (omega arith));
}

pub still_listed : (tells : Bool) (files : Files) (first k m : ℕ) (old new : List Stale) → new ≡ old → k ≤ m → AreListedStale tells files first k old → AreListedStale tells files first m new
still_listed tells files first k m old new is le listed = subst (AreListedStale tells files first m) (sym is) (record {
  longer = listed.longer;
  from = listed.from;
  before = λ i d lt. let here = listed.before i d lt in omega (arith, here, le);
})

-- ---- the files before the line and behind the last event

abbrev pub as_stale : ℕ → Stale
as_stale k = record { file = k; size = 0 }

pub length-uncovered : (numbers : List ℕ) → length (uncovered numbers) ≡ length numbers
length-uncovered numbers = length-map numbers as_stale

pub all_uncovered : (P : Stale → Type 0) (numbers : List ℕ) → All (λ k. P (record { file = k; size = 0 })) numbers → All P (uncovered numbers)
all_uncovered P numbers all i d lt =
    let within : i < length numbers = omega (arith, lt, length-uncovered numbers) in
    subst P (sym (get_or-map as_stale numbers i 0 d within)) (all i 0 within)

pub before_first : (first : ℕ) (numbers : List ℕ) → All (λ k. k < first) (filter (λ k. nat_lt k first) numbers)
before_first first numbers i d lt =
    let passes = filter_passes (λ (k : ℕ). nat_lt k first) numbers i d lt in
    grind (arith, nat_tests, passes)

pub behind_last : (last : ℕ) (numbers : List ℕ) → All (λ k. last < k) (filter (λ k. nat_lt last k) numbers)
behind_last last numbers i d lt =
    let passes = filter_passes (λ (k : ℕ). nat_lt last k) numbers i d lt in
    grind (arith, nat_tests, passes)

ascending_uncovered : (numbers : List ℕ) → IsStrictlyIncreasing numbers → AllPairs (λ s t. s.file < t.file) (uncovered numbers)
ascending_uncovered numbers ascending i j d lt within =
    let there : j < length numbers = omega (arith, within, length-uncovered numbers) in
    let low : (get_or (uncovered numbers) i d).file ≡ get_or numbers i 0 = ap (λ (s : Stale). s.file) (get_or-map as_stale numbers i 0 d (omega (arith, lt, there))) in
    let high : (get_or (uncovered numbers) j d).file ≡ get_or numbers j 0 = ap (λ (s : Stale). s.file) (get_or-map as_stale numbers j 0 d there) in
    let less = AllPairs-from_increasing numbers ascending i j 0 lt there in
    omega (arith, low, high, less)

-- files before a number and files from it on
ascending_both : (n : ℕ) (xs ys : List Stale) → AllPairs (λ s t. s.file < t.file) xs → AllPairs (λ s t. s.file < t.file) ys
    → All (λ s. s.file < n) xs → All (λ s. n ≤ s.file) ys → AllPairs (λ s t. s.file < t.file) (xs ++ ys)
ascending_both n xs [] first second before from = subst (AllPairs (λ (s t : Stale). s.file < t.file)) (sym (append-nil xs)) first
ascending_both n xs (y ∷ ys) first second before from =
    let late : n ≤ y.file = from 0 y (omega arith) in
    let more = all_pairs_push (λ (s t : Stale). s.file < t.file) xs y first (λ i d lt. let here = before i d lt in omega (arith, here, late)) in
    let rest : AllPairs (λ (s t : Stale). s.file < t.file) ys = λ i j d lt within. second (suc i) (suc j) d (omega (arith, lt)) (omega (arith, within)) in
    let later : All (λ (s : Stale). y.file + 1 ≤ s.file) ys = λ i d lt. let here = second 0 (suc i) d (omega arith) (omega (arith, lt)) in omega (arith, here) in
    let earlier : All (λ (s : Stale). s.file < y.file + 1) (xs ++ y ∷ []) =
    All-push (λ (s : Stale). s.file < y.file + 1) xs y (λ i d lt. let here = before i d lt in omega (arith, here, late)) (omega arith) in
    subst (AllPairs (λ (s t : Stale). s.file < t.file)) (append_assoc xs (y ∷ []) ys) (ascending_both (y.file + 1) (xs ++ y ∷ []) ys more rest earlier later)

-- all of them together are longer than what is covered
pub all_longer : (tells : Bool) (files : Files) (first last : ℕ) (numbers : List ℕ) (old : List Stale) → AreFileNumbers tells files numbers → first ≤ last
    → AreListedStale tells files first (last + 1) old → AreLonger tells files ((files_before first numbers ++ old) ++ files_later last numbers)
all_longer tells files first last numbers old are le listed = record {
  ascending = ascending_both (last + 1) (files_before first numbers ++ old) (files_later last numbers)
      (ascending_both first (files_before first numbers) old
      (ascending_uncovered (filter (λ k. nat_lt k first) numbers) (IsStrictlyIncreasing-filter (λ k. nat_lt k first) numbers are.ascending)) listed.longer.ascending
      (all_uncovered (λ (s : Stale). s.file < first) (filter (λ k. nat_lt k first) numbers) (before_first first numbers)) listed.from)
      (ascending_uncovered (filter (λ k. nat_lt last k) numbers) (IsStrictlyIncreasing-filter (λ k. nat_lt last k) numbers are.ascending))
      (All-append (λ (s : Stale). s.file < last + 1) (files_before first numbers) old
      (all_uncovered (λ (s : Stale). s.file < last + 1) (filter (λ k. nat_lt k first) numbers) (λ i d lt. let here = before_first first numbers i d lt in omega (arith, here, le)))
      listed.before)
      (all_uncovered (λ (s : Stale). last + 1 ≤ s.file) (filter (λ k. nat_lt last k) numbers) (λ i d lt. let here = behind_last last numbers i d lt in omega (arith, here)));
  longer = λ told.
      All-append (λ (s : Stale). s.size < length (files (events_file s.file))) (files_before first numbers ++ old) (files_later last numbers)
      (All-append (λ (s : Stale). s.size < length (files (events_file s.file))) (files_before first numbers) old
      (all_uncovered (λ (s : Stale). s.size < length (files (events_file s.file))) (filter (λ k. nat_lt k first) numbers)
      (All-filter (λ k. nat_lt k first) (λ (k : ℕ). 0 < length (files (events_file k))) numbers (are.filled told)))
      (listed.longer.longer told))
      (all_uncovered (λ (s : Stale). s.size < length (files (events_file s.file))) (filter (λ k. nat_lt last k) numbers)
      (All-filter (λ k. nat_lt last k) (λ (k : ℕ). 0 < length (files (events_file k))) numbers (are.filled told)));
}

-- ---- which files are listed

pub files_of_uncovered : (numbers : List ℕ) → stale_files (uncovered numbers) ≡ numbers
files_of_uncovered [] = refl
files_of_uncovered (k ∷ numbers) = ap (λ (l : List ℕ). k ∷ l) (files_of_uncovered numbers)

contains_filter : (p : ℕ → Bool) (k : ℕ) (numbers : List ℕ) → p k ≡ true → Contains numbers k → Contains (filter p numbers) k
contains_filter p k [] passes has = absurd (omega (arith, has.1))
contains_filter p k (n ∷ numbers) passes has = elim (contains_cases n k numbers has) [
  | inl here ↦
      let is : filter p (n ∷ numbers) ≡ n ∷ filter p numbers = rw (ap p here ∙ passes) refl in
      subst (λ (l : List ℕ). Contains l k) (sym is) (subst (λ (m : ℕ). Contains (n ∷ filter p numbers) m) here (contains_here n (filter p numbers)))
  | inr later ↦ of_test (p n) (contains_filter p k numbers passes later)
]
  where
    of_test : (b : Bool) → Contains (filter p numbers) k → Contains (cond b (n ∷ filter p numbers) (filter p numbers)) k
    of_test true rest = contains_there n k (filter p numbers) rest
    of_test false rest = rest

parted : (xs ys zs : List Stale) → stale_files ((xs ++ ys) ++ zs) ≡ (stale_files xs ++ stale_files ys) ++ stale_files zs
parted xs ys zs = map-append (λ (s : Stale). s.file) (xs ++ ys) zs ∙ ap (λ (l : List ℕ). l ++ stale_files zs) (map-append (λ (s : Stale). s.file) xs ys)

pub listed_before : (first last k : ℕ) (numbers : List ℕ) (old : List Stale) → k < first → Contains numbers k
    → Contains (stale_files ((files_before first numbers ++ old) ++ files_later last numbers)) k
listed_before first last k numbers old lt has =
    let before = files_before first numbers in
    let later = files_later last numbers in
    let passes : nat_lt k first ≡ true = grind (arith, nat_tests, lt) in
    let here : Contains (stale_files before) k =
    subst (λ (l : List ℕ). Contains l k) (sym (files_of_uncovered (filter (λ k. nat_lt k first) numbers))) (contains_filter (λ k. nat_lt k first) k numbers passes has) in
    subst (λ (l : List ℕ). Contains l k) (sym (parted before old later))
    (Contains-append_left (stale_files before ++ stale_files old) (stale_files later) k (Contains-append_left (stale_files before) (stale_files old) k here))

pub listed_later : (first last k : ℕ) (numbers : List ℕ) (old : List Stale) → last < k → Contains numbers k
    → Contains (stale_files ((files_before first numbers ++ old) ++ files_later last numbers)) k
listed_later first last k numbers old lt has =
    let before = files_before first numbers in
    let later = files_later last numbers in
    let passes : nat_lt last k ≡ true = grind (arith, nat_tests, lt) in
    let here : Contains (stale_files later) k =
    subst (λ (l : List ℕ). Contains l k) (sym (files_of_uncovered (filter (λ k. nat_lt last k) numbers))) (contains_filter (λ k. nat_lt last k) k numbers passes has) in
    subst (λ (l : List ℕ). Contains l k) (sym (parted before old later)) (Contains-append_right (stale_files before ++ stale_files old) (stale_files later) k here)

pub listed_still : (first last k : ℕ) (numbers : List ℕ) (old : List Stale) → Contains (stale_files old) k
    → Contains (stale_files ((files_before first numbers ++ old) ++ files_later last numbers)) k
listed_still first last k numbers old has =
    let before = files_before first numbers in
    let later = files_later last numbers in
    subst (λ (l : List ℕ). Contains l k) (sym (parted before old later))
    (Contains-append_left (stale_files before ++ stale_files old) (stale_files later) k (Contains-append_right (stale_files before) (stale_files old) k has))
