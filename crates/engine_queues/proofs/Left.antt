-- Which names are left, and the first that passes.
use Rattle.std.proofs.Common.{◌≡◌, ◌≢◌, ℕ, zero, suc, ◌+◌, ◌<◌, ◌≤◌, Bool, true, false, cond, not, filter, List, [], ◌∷◌, length, map, drop, refl, sym, ap, ◌∙◌, arith}
use Rattle.std.specs.Prelude.{Some, find, slice_get, slice_set, bytes_eq}
use Rattle.std.specs.List.{slice_index_or}
use Rattle.std.proofs.lemmas.Option.{slice_get_within, get_or_from_slice_get}
use Rattle.std.proofs.lemmas.Slice.Eq.{bytes_eq-Decides}
use Rattle.machine_model.specs.Stepping.{without_name}
use Rattle.engine_queues.specs.Listing.{AreDistinct, left_of}
use Rattle.engine_queues.specs.ListingInside.{IsFirstOpen}

-- ---- the first that passes

first-later : (t b : Bool) (taken passing : List Bool) (first : ℕ) → IsFirstOpen (t ∷ taken) (b ∷ passing) 0 (suc first) → IsFirstOpen taken passing 0 first
first-later t b taken passing first is = record {
  within = omega (arith, is.within);
  before = λ k from lt there. is.before (suc k) (omega arith) (omega arith) (record { left = there.left; passes = there.passes });
  open_there = λ lt. let there = is.open_there (omega arith) in record { left = there.left; passes = there.passes };
}

pub found-first : (p : List ℕ → Bool) (names : List (List ℕ)) (taken : List Bool) (first : ℕ) → length taken ≡ length names → IsFirstOpen taken (map p names) 0 first
    → find p (left_of names taken) ≡ slice_get names first
found-first p [] taken first long is = refl
found-first p (name ∷ names) [] first long is = absurd (omega (arith, long))
found-first p (name ∷ names) (true ∷ taken) zero long is =
    let there = is.open_there (omega arith) in
    let fails : Some true ≡ Some false = there.left in cc
found-first p (name ∷ names) (true ∷ taken) (suc first) long is =
    found-first p names taken first (omega (arith, long)) (first-later true (p name) taken (map p names) first is)
found-first p (name ∷ names) (false ∷ taken) zero long is =
    let there = is.open_there (omega arith) in
    let passes : Some (p name) ≡ Some true = there.passes in
    let holds : p name ≡ true = cc in rw holds refl
found-first p (name ∷ names) (false ∷ taken) (suc first) long is =
    by_test (p name) refl (found-first p names taken first (omega (arith, long)) (first-later false (p name) taken (map p names) first is))
  where
    by_test : (b : Bool) → p name ≡ b → find p (left_of names taken) ≡ slice_get names first → cond b (Some name) (find p (left_of names taken)) ≡ slice_get names first
    by_test true holds rest = absurd (is.before 0 (omega arith) (omega arith) (record { left = refl; passes = ap Some holds }))
    by_test false fails rest = rest

-- ---- a name is taken

distinct-tail : (name : List ℕ) (names : List (List ℕ)) → AreDistinct (name ∷ names) → AreDistinct names
distinct-tail name names distinct = λ i j d lt within. distinct (suc i) (suc j) d (omega arith) (omega (arith, within))

distinct-head : (name other : List ℕ) (names : List (List ℕ)) (place : ℕ) → AreDistinct (name ∷ names) → slice_get names place ≡ Some other → name ≢ other
distinct-head name other names place distinct there =
    λ same. distinct 0 (suc place) name (omega arith) (omega (arith, slice_get_within names place other there)) (same ∙ sym (get_or_from_slice_get names place other name there))

abbrev Absent : List ℕ → List (List ℕ) → Type 0
Absent name names = (k : ℕ) (other : List ℕ) → slice_get names k ≡ Some other → other ≢ name

differs : (one other : List ℕ) → one ≢ other → bytes_eq one other ≡ false
differs one other apart = by_test (bytes_eq one other) refl
  where
    by_test : (b : Bool) → bytes_eq one other ≡ b → bytes_eq one other ≡ false
    by_test true holds = absurd (apart ((bytes_eq-Decides one other).0 holds))
    by_test false fails = fails

is_same : (one : List ℕ) → bytes_eq one one ≡ true
is_same one = (bytes_eq-Decides one one).1 refl

absent-left : (name : List ℕ) (names : List (List ℕ)) (taken : List Bool) → Absent name names → without_name (left_of names taken) name ≡ left_of names taken
absent-left name [] taken absent = refl
absent-left name (other ∷ names) [] absent = refl
absent-left name (other ∷ names) (true ∷ taken) absent = absent-left name names taken (λ k one there. absent (suc k) one there)
absent-left name (other ∷ names) (false ∷ taken) absent =
    let fails : bytes_eq other name ≡ false = differs other name (absent 0 other refl) in
    rw fails (ap (λ rest. other ∷ rest) (absent-left name names taken (λ k one there. absent (suc k) one there)))

pub left-taken : (name : List ℕ) (names : List (List ℕ)) (taken : List Bool) (place : ℕ) → AreDistinct names → slice_get names place ≡ Some name → slice_get taken place ≡ Some false
    → left_of names (slice_set taken place true) ≡ without_name (left_of names taken) name
left-taken name [] taken place distinct there left = cc
left-taken name (other ∷ names) [] place distinct there left = cc
left-taken name (other ∷ names) (mark ∷ taken) zero distinct there left =
    let same : other ≡ name = cc in
    let open_there : mark ≡ false = cc in
    let absent : Absent name names = λ k one is. λ e. distinct-head other one names k distinct is (same ∙ sym e) in
    rw open_there (rw same (rw (is_same name) (sym (absent-left name names taken absent))))
left-taken name (other ∷ names) (true ∷ taken) (suc place) distinct there left =
    left-taken name names taken place (distinct-tail other names distinct) there left
left-taken name (other ∷ names) (false ∷ taken) (suc place) distinct there left =
    let fails : bytes_eq other name ≡ false = differs other name (distinct-head other name names place distinct there) in
    rw fails (ap (λ rest. other ∷ rest) (left-taken name names taken place (distinct-tail other names distinct) there left))

-- ---- how many are left

-- the marks of names that aren't taken
abbrev pub free : List Bool → List Bool
free taken = filter not taken

pub left-length : (names : List (List ℕ)) (taken : List Bool) → length taken ≡ length names → length (left_of names taken) ≡ length (free taken)
left-length [] [] long = refl
left-length [] (m ∷ taken) long = absurd (omega (arith, long))
left-length (name ∷ names) [] long = absurd (omega (arith, long))
left-length (name ∷ names) (true ∷ taken) long = left-length names taken (omega (arith, long))
left-length (name ∷ names) (false ∷ taken) long = ap suc (left-length names taken (omega (arith, long)))

pub free-few : (taken : List Bool) → length (free taken) ≤ length taken
free-few [] = omega arith
free-few (true ∷ taken) = omega (arith, free-few taken)
free-few (false ∷ taken) = omega (arith, free-few taken)

one-free : (m mark : Bool) (taken : List Bool) → mark ≡ m → length (free (m ∷ taken)) ≡ cond mark 0 1 + length (free taken)
one-free true true taken is = omega arith
one-free false false taken is = omega arith
one-free true false taken is = cc
one-free false true taken is = cc

-- from one place on, and from behind it on
free-next : (taken : List Bool) (i : ℕ) (mark : Bool) → i < length taken → slice_index_or taken i false ≡ mark → length (free (drop i taken)) ≡ cond mark 0 1 + length (free (drop (suc i) taken))
free-next [] i mark within is = absurd (omega (arith, within))
free-next (m ∷ taken) zero mark within is = one-free m mark taken (sym is)
free-next (m ∷ taken) (suc i) mark within is = free-next taken i mark (omega (arith, within)) is

pub free-step : (taken : List Bool) (i : ℕ) (mark : Bool) → i < length taken → slice_index_or taken i false ≡ mark → length (free (drop i taken)) ≡ cond mark 0 1 + length (free (drop (i + 1) taken))
free-step taken i mark within is =
    let next : suc i ≡ i + 1 = omega arith in
    free-next taken i mark within is ∙ ap (λ n. cond mark 0 1 + length (free (drop n taken))) next

pub none-free : (taken : List Bool) (i : ℕ) → length taken ≤ i → length (free (drop i taken)) ≡ 0
none-free taken i past = ap (λ (l : List Bool). length (free l)) (drop-past taken i past)
  where
    drop-past : (taken : List Bool) (i : ℕ) → length taken ≤ i → drop i taken ≡ []
    drop-past [] i past = drop-nil i
      where
        drop-nil : (i : ℕ) → drop {A = Bool} i [] ≡ []
        drop-nil zero = refl
        drop-nil (suc i) = refl
    drop-past (m ∷ taken) zero past = absurd (omega (arith, past))
    drop-past (m ∷ taken) (suc i) past = drop-past taken i (omega (arith, past))
