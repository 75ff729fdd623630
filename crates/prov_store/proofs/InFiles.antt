-- The events of all files, file by file.
use Rattle.std.proofs.Common.{◌≡◌, ℕ, zero, suc, ◌+◌, ◌-◌, ◌*◌, ◌/◌, ◌%◌, ◌≤◌, ◌<◌, inl, inr, List, [], ◌∷◌, ◌++◌, length, take, map, refl, sym, ap, subst, ◌∙◌, append_assoc, arith}
use Rattle.std.specs.Prelude.{Result, Ok, Err, min, max}
use Rattle.std.specs.List.{range_with_len}
use Rattle.std.proofs.Math.Seq.{take-append-add}
use Rattle.std.proofs.lemmas.Bool.{cases_lt}
use Rattle.std.proofs.lemmas.List.{length-append, length-take, map-append, append-nil, take_all, take-take, take-append-le}
use Rattle.disk_trait.specs.Files.{Files}
use Rattle.disk_trait.specs.declared.damage.Damage.{Damage}
use Rattle.flowfile_record.specs.declared.event.Event.{Event}
use Rattle.prov_store.specs.Events.{◌>>=◌, events_file, count_in, first_event, events_from, events_of_file, events_of_files, events_in, blocks_size, covered_size, covered_bytes}
use Rattle.flowfile_record.specs.declared.limits.TheConstants.{EVENTS_PER_FILE}
use Rattle.prov_store.proofs.InFile.{bind_ok, blocks_fit, events_same, fewer_events, events_numbered}

-- ---- one file

take_of_longer : (m n : ℕ) (new old : List ℕ) → n ≤ length old → take m new ≡ take n old → take n new ≡ take n old
take_of_longer m n new old fits same =
    let long : n ≤ m = omega (arith, ap length same, length-take m new, length-take n old) in
    sym (take-take n m new long) ∙ ap (take n) same ∙ take-take n n old (omega arith)

-- A file with the same bytes of its events in front has the same events, and the same bytes of them.
pub record SameFile (line last k : ℕ) (old new : Files) (events : List Event) : Type 0 where
  pub says : events_of_file line last k new ≡ Ok events
  pub size : covered_size line last k new ≡ covered_size line last k old
  pub bytes : covered_bytes line last k new ≡ covered_bytes line last k old

pub covered_fits : (line last k : ℕ) (files : Files) (events : List Event) → events_of_file line last k files ≡ Ok events → covered_size line last k files ≤ length (files (events_file k))
unfolding covered_size
covered_fits line last k files events is = blocks_fit (count_in line last k) (events_file k) 0 (first_event k) (files (events_file k)) events is

pub file_front : (line last k : ℕ) (old new : Files) (events : List Event) → events_of_file line last k old ≡ Ok events
    → take (covered_size line last k old) (new (events_file k)) ≡ covered_bytes line last k old → SameFile line last k old new events
unfolding covered_size
file_front line last k old new events is front =
    let same = events_same (count_in line last k) (events_file k) 0 (first_event k) (old (events_file k)) (new (events_file k)) events is front in
    record {
      says = same.0;
      size = same.1;
      bytes = ap (λ (n : ℕ). take n (new (events_file k))) same.1 ∙ front;
    }

pub file_same : (line last k : ℕ) (old new : Files) (events : List Event) → events_of_file line last k old ≡ Ok events
    → covered_bytes line last k new ≡ covered_bytes line last k old → SameFile line last k old new events
file_same line last k old new events is same =
    file_front line last k old new events is
    (take_of_longer (covered_size line last k new) (covered_size line last k old) (new (events_file k)) (old (events_file k)) (covered_fits line last k old events is) same)

pub covered_as : (line last k : ℕ) (old new : Files) → new (events_file k) ≡ old (events_file k) → covered_bytes line last k new ≡ covered_bytes line last k old
unfolding covered_size
covered_as line last k old new same = ap (λ (bytes : List ℕ). take (blocks_size (count_in line last k) bytes) bytes) same

pub covered_alike : (line last later other k : ℕ) (old new : Files) → count_in later other k ≡ count_in line last k → new (events_file k) ≡ old (events_file k)
    → covered_bytes later other k new ≡ covered_bytes line last k old
unfolding covered_size
covered_alike line last later other k old new count same =
    ap (λ (n : ℕ). take (blocks_size n (new (events_file k))) (new (events_file k))) count ∙ ap (λ (bytes : List ℕ). take (blocks_size (count_in line last k) bytes) bytes) same

pub size_alike : (line last later other k : ℕ) (files : Files) → count_in later other k ≡ count_in line last k → covered_size later other k files ≡ covered_size line last k files
unfolding covered_size
size_alike line last later other k files count = ap (λ (n : ℕ). blocks_size n (files (events_file k))) count

pub size_as : (line last k : ℕ) (old new : Files) → new (events_file k) ≡ old (events_file k) → covered_size line last k new ≡ covered_size line last k old
unfolding covered_size
size_as line last k old new same = ap (blocks_size (count_in line last k)) same

-- a file behind the last event, or before the line
pub none_in : (line last k : ℕ) → last ≤ EVENTS_PER_FILE * k → count_in line last k ≡ 0
none_in line last k le = omega (arith, le)

pub none_below : (line last k : ℕ) → EVENTS_PER_FILE * (k + 1) ≤ line → count_in line last k ≡ 0
none_below line last k le = omega (arith, le)

pub no_size : (line last k : ℕ) (files : Files) → count_in line last k ≡ 0 → covered_size line last k files ≡ 0
unfolding covered_size
no_size line last k files none = ap (λ (n : ℕ). blocks_size n (files (events_file k))) none

pub no_bytes : (line last k : ℕ) (files : Files) → count_in line last k ≡ 0 → covered_bytes line last k files ≡ []
no_bytes line last k files none = ap (λ (n : ℕ). take n (files (events_file k))) (no_size line last k files none)

pub no_events : (line last k : ℕ) (files : Files) → count_in line last k ≡ 0 → events_of_file line last k files ≡ Ok []
no_events line last k files none = ap (λ (n : ℕ). events_from n (events_file k) 0 (first_event k) (files (events_file k))) none

-- ---- files behind one another

-- the events of the first of some files, and those behind them
pub record FirstFile (count line last k : ℕ) (files : Files) (events : List Event) : Type 0 where
  pub here : List Event
  pub later : List Event
  pub first : events_of_file line last k files ≡ Ok here
  pub behind : events_of_files count line last (k + 1) files ≡ Ok later
  pub both : events ≡ here ++ later

pub first_file : (count line last k : ℕ) (files : Files) (events : List Event) → events_of_files (suc count) line last k files ≡ Ok events → FirstFile count line last k files events
first_file count line last k files events is =
    let first = bind_ok (events_of_file line last k files) (λ here. events_of_files count line last (k + 1) files >>= (λ later. Ok (here ++ later))) events is in
    let later = bind_ok (events_of_files count line last (k + 1) files) (λ later. Ok (first.0 ++ later)) events first.2 in
    record { here = first.0; later = later.0; first = first.1; behind = later.1; both = cc later.2 }

pub with_file : (count line last k : ℕ) (files : Files) (here : List Event) → events_of_file line last k files ≡ Ok here
    → events_of_files (suc count) line last k files ≡ (events_of_files count line last (k + 1) files >>= (λ later. Ok (here ++ later)))
with_file count line last k files here is =
    ap (λ (r : Result (List Event) Damage). r >>= (λ here. events_of_files count line last (k + 1) files >>= (λ later. Ok (here ++ later)))) is

pub with_files : (count line last k : ℕ) (files : Files) (here later : List Event) → events_of_file line last k files ≡ Ok here → events_of_files count line last (k + 1) files ≡ Ok later
    → events_of_files (suc count) line last k files ≡ Ok (here ++ later)
with_files count line last k files here later first behind =
    with_file count line last k files here first ∙ ap (λ (r : Result (List Event) Damage). r >>= (λ later. Ok (here ++ later))) behind

pub no_more : (count line last k : ℕ) (files : Files) → last ≤ EVENTS_PER_FILE * k → events_of_files count line last k files ≡ Ok []
no_more zero line last k files le = refl
no_more (suc count) line last k files le = with_files count line last k files [] [] (no_events line last k files (none_in line last k le)) (no_more count line last (k + 1) files (omega (arith, le)))

pub none_of_files : (count line last k : ℕ) (files : Files) → EVENTS_PER_FILE * (k + count) ≤ line → events_of_files count line last k files ≡ Ok []
none_of_files zero line last k files le = refl
none_of_files (suc count) line last k files le = with_files count line last k files [] [] (no_events line last k files (none_below line last k (omega (arith, le)))) (none_of_files count line last (k + 1) files (omega (arith, le)))

bind_files : (xs ys : List Event) (r : Result (List Event) Damage)
    → ((r >>= (λ later. Ok (ys ++ later))) >>= (λ later. Ok (xs ++ later))) ≡ (r >>= (λ later. Ok ((xs ++ ys) ++ later)))
bind_files xs ys (Ok later) = ap Ok (sym (append_assoc xs ys later))
bind_files xs ys (Err damage) = refl

pub bind_itself : (r : Result (List Event) Damage) → (r >>= (λ later. Ok ([] ++ later))) ≡ r
bind_itself (Ok later) = refl
bind_itself (Err damage) = refl

-- what is read behind the events of some files
pub files_behind : (count more line last k : ℕ) (files : Files) (events : List Event) → events_of_files count line last k files ≡ Ok events
    → events_of_files (count + more) line last k files ≡ (events_of_files more line last (k + count) files >>= (λ later. Ok (events ++ later)))
files_behind zero more line last k files events is =
    let none : events ≡ [] = cc is in
    let files_same : k + 0 ≡ k = omega arith in
    let count_same : 0 + more ≡ more = omega arith in
    rw (none, files_same, count_same) (sym (bind_itself (events_of_files more line last k files)))
files_behind (suc count) more line last k files events is =
    let f = first_file count line last k files events is in
    let longer : suc count + more ≡ suc (count + more) = omega arith in
    let place : k + 1 + count ≡ k + suc count = omega arith in
    ap (λ (i : ℕ). events_of_files i line last k files) longer ∙ with_file (count + more) line last k files f.here f.first
    ∙ ap (λ (r : Result (List Event) Damage). r >>= (λ later. Ok (f.here ++ later))) (files_behind count more line last (k + 1) files f.later f.behind)
    ∙ bind_files f.here f.later (events_of_files more line last (k + 1 + count) files)
    ∙ ap (λ (es : List Event). events_of_files more line last (k + 1 + count) files >>= (λ later. Ok (es ++ later))) (sym f.both)
    ∙ rw place refl

-- each file has its events
pub file_in : (count line last k j : ℕ) (files : Files) (events : List Event) → events_of_files count line last k files ≡ Ok events → k ≤ j → j < k + count
    → (here : List Event) × (events_of_file line last j files ≡ Ok here)
file_in zero line last k j files events is le lt = absurd (omega (arith, le, lt))
file_in (suc count) line last k j files events is le lt =
    let f = first_file count line last k files events is in
    elim (cases_lt k j) [
      | inl past ↦ file_in count line last (k + 1) j files f.later f.behind (omega (arith, past)) (omega (arith, lt))
      | inr here ↦
          let same : k ≡ j = omega (arith, le, here) in
          (f.here, subst (λ (i : ℕ). events_of_file line last i files ≡ Ok f.here) same f.first)
    ]

-- files with the same events each have the same events
pub files_same : (count line last later other k : ℕ) (old new : Files) (events : List Event) → events_of_files count line last k old ≡ Ok events
    → ((j : ℕ) (here : List Event) → k ≤ j → j < k + count → events_of_file line last j old ≡ Ok here → events_of_file later other j new ≡ Ok here)
    → events_of_files count later other k new ≡ Ok events
files_same zero line last later other k old new events is each = is
files_same (suc count) line last later other k old new events is each =
    let f = first_file count line last k old events is in
    with_files count later other k new f.here f.later (each k f.here (omega arith) (omega arith) f.first)
    (files_same count line last later other (k + 1) old new f.later f.behind (λ j here le lt. each j here (omega (arith, le)) (omega (arith, lt))))
    ∙ ap Ok (sym f.both)

-- ---- fewer events

fewer_of_both : (n m : ℕ) (xs ys : List Event) → (n ≤ length xs → m ≡ 0) → (length xs < n → n ≡ length xs + m) → take n (xs ++ ys) ≡ take n xs ++ take m ys
fewer_of_both n m xs ys within past = elim (cases_lt (length xs) n) [
  | inl longer ↦
      ap (λ (i : ℕ). take i (xs ++ ys)) (past longer) ∙ take-append-add xs ys m
      ∙ ap (λ (l : List Event). l ++ take m ys) (sym (take_all n xs (omega (arith, longer))))
  | inr fits ↦
      take-append-le n xs ys fits ∙ sym (append-nil (take n xs)) ∙ ap (λ (i : ℕ). take n xs ++ take i ys) (sym (within fits))
]

pub fewer_of_file : (line last earlier k : ℕ) (files : Files) (events : List Event) → events_of_file line last k files ≡ Ok events → earlier ≤ last
    → events_of_file line earlier k files ≡ Ok (take (count_in line earlier k) events)
fewer_of_file line last earlier k files events is le =
    let both : count_in line last k ≡ count_in line earlier k + (count_in line last k - count_in line earlier k) = omega (arith, le) in
    fewer_events (count_in line earlier k) (count_in line last k - count_in line earlier k) (events_file k) 0 (first_event k) (files (events_file k)) events
    (ap (λ (n : ℕ). events_from n (events_file k) 0 (first_event k) (files (events_file k))) (sym both) ∙ is)

pub length_of_file : (line last k : ℕ) (files : Files) (events : List Event) → events_of_file line last k files ≡ Ok events → length events ≡ count_in line last k
length_of_file line last k files events is = (events_numbered (count_in line last k) (events_file k) 0 (first_event k) (files (events_file k)) events is).1

pub fewer_of_files : (count line last earlier k : ℕ) (files : Files) (events : List Event) → events_of_files count line last k files ≡ Ok events → earlier ≤ last
    → events_of_files count line earlier k files ≡ Ok (take (earlier - max (EVENTS_PER_FILE * k) line) events)
fewer_of_files zero line last earlier k files events is le =
    let n = earlier - max (EVENTS_PER_FILE * k) line in
    let none : events ≡ [] = cc is in
    let empty : take n events ≡ [] = ap (take n) none ∙ take_all n [] (omega arith) in
    ap Ok (sym empty)
fewer_of_files (suc count) line last earlier k files events is le =
    let f = first_file count line last k files events is in
    let n = earlier - max (EVENTS_PER_FILE * k) line in
    let m = earlier - max (EVENTS_PER_FILE * (k + 1)) line in
    let long : length f.here ≡ count_in line last k = length_of_file line last k files f.here f.first in
    let here : take (count_in line earlier k) f.here ≡ take n f.here = elim (cases_lt n (EVENTS_PER_FILE - (line - EVENTS_PER_FILE * k))) [
      | inl few ↦ ap (λ (i : ℕ). take i f.here) (omega (arith, few))
      | inr many ↦ take_all (count_in line earlier k) f.here (omega (arith, many, long)) ∙ sym (take_all n f.here (omega (arith, many, long)))
    ] in
    with_files count line earlier k files (take (count_in line earlier k) f.here) (take m f.later)
    (fewer_of_file line last earlier k files f.here f.first le) (fewer_of_files count line last earlier (k + 1) files f.later f.behind le)
    ∙ ap Ok (ap (λ (l : List Event). l ++ take m f.later) here
    ∙ sym (fewer_of_both n m f.here f.later (λ fits. omega (arith, fits, long, le)) (λ past. omega (arith, past, long, le)))
    ∙ ap (take n) (sym f.both))

-- ---- numbers

pub range_both : (a m n : ℕ) → range_with_len a (m + n) ≡ range_with_len a m ++ range_with_len (a + m) n
range_both a zero n =
    let none : 0 + n ≡ n = omega arith in
    let same : a + 0 ≡ a = omega arith in
    rw (none, same) refl
range_both a (suc m) n =
    let longer : suc m + n ≡ suc (m + n) = omega arith in
    let place : a + 1 + m ≡ a + suc m = omega arith in
    ap (range_with_len a) longer ∙ ap (λ (l : List ℕ). a ∷ l) (range_both (a + 1) m n) ∙ rw place refl

range_alike : (a b n : ℕ) → (0 < n → a ≡ b) → range_with_len a n ≡ range_with_len b n
range_alike a b zero same = refl
range_alike a b (suc n) same = ap (λ (i : ℕ). range_with_len i (suc n)) (same (omega arith))

pub files_numbered : (count line last k : ℕ) (files : Files) (events : List Event) → line % EVENTS_PER_FILE ≡ 0 → events_of_files count line last k files ≡ Ok events
    → (map (λ e. e.number) events ≡ range_with_len (max (first_event k) (line + 1)) (length events))
    × (length events ≡ min (EVENTS_PER_FILE * (k + count)) last - max (EVENTS_PER_FILE * k) line)
files_numbered zero line last k files events even is =
    let none : events ≡ [] = cc is in
    (rw none refl, omega (arith, ap length none))
files_numbered (suc count) line last k files events even is =
    let f = first_file count line last k files events is in
    let here = events_numbered (count_in line last k) (events_file k) 0 (first_event k) (files (events_file k)) f.here f.first in
    let later = files_numbered count line last (k + 1) files f.later even f.behind in
    let n = length f.here in
    let m = length f.later in
    let a = max (first_event k) (line + 1) in
    let b = max (first_event (k + 1)) (line + 1) in
    let here_from : 0 < n → first_event k ≡ a = λ some. omega (arith, some, here.1, even) in
    let later_from : 0 < m → b ≡ a + n = λ some. omega (arith, some, here.1, later.1, even) in
    let long : length events ≡ n + m = ap length f.both ∙ length-append f.here f.later in (
      ap (map (λ e. e.number)) f.both ∙ map-append (λ e. e.number) f.here f.later
          ∙ ap (λ (l : List ℕ). l ++ map (λ e. e.number) f.later) (here.0 ∙ ap (range_with_len (first_event k)) (sym here.1) ∙ range_alike (first_event k) a n here_from)
          ∙ ap (λ (l : List ℕ). range_with_len a n ++ l) (later.0 ∙ range_alike b (a + n) m later_from)
          ∙ sym (range_both a n m) ∙ ap (range_with_len a) (sym long),
      omega (arith, long, here.1, later.1, even),
    )

-- ---- up to a last one

pub in_files : (line last : ℕ) (files : Files) → events_in files line last ≡ events_of_files (suc (last / EVENTS_PER_FILE)) line last 0 files
unfolding events_in
in_files line last files = refl

-- the events of the first of some files, and of the rest
pub record Split (count more line last k : ℕ) (files : Files) (events : List Event) : Type 0 where
  pub front : List Event
  pub back : List Event
  pub first : events_of_files count line last k files ≡ Ok front
  pub behind : events_of_files more line last (k + count) files ≡ Ok back
  pub both : events ≡ front ++ back

pub split_files : (count more line last k : ℕ) (files : Files) (events : List Event) → events_of_files (count + more) line last k files ≡ Ok events → Split count more line last k files events
split_files zero more line last k files events is =
    let place : k + 0 ≡ k = omega arith in
    let length_same : 0 + more ≡ more = omega arith in
    record {
      front = [];
      back = events;
      first = refl;
      behind = ap (λ (i : ℕ). events_of_files more line last i files) place ∙ ap (λ (i : ℕ). events_of_files i line last k files) (sym length_same) ∙ is;
      both = refl;
    }
split_files (suc count) more line last k files events is =
    let longer : suc count + more ≡ suc (count + more) = omega arith in
    let place : k + suc count ≡ k + 1 + count = omega arith in
    let f = first_file (count + more) line last k files events (ap (λ (i : ℕ). events_of_files i line last k files) (sym longer) ∙ is) in
    let s = split_files count more line last (k + 1) files f.later f.behind in
    record {
      front = f.here ++ s.front;
      back = s.back;
      first = with_files count line last k files f.here s.front f.first s.first;
      behind = ap (λ (i : ℕ). events_of_files more line last i files) place ∙ s.behind;
      both = f.both ∙ ap (λ (l : List Event). f.here ++ l) s.both ∙ sym (append_assoc f.here s.front s.back);
    }

-- more files have no more events
pub files_more : (more count line last : ℕ) (files : Files) (events : List Event) → events_of_files count line last 0 files ≡ Ok events → last ≤ EVENTS_PER_FILE * count
    → events_of_files (count + more) line last 0 files ≡ Ok events
files_more more count line last files events is le =
    let place : 0 + count ≡ count = omega arith in
    files_behind count more line last 0 files events is
    ∙ ap (λ (r : Result (List Event) Damage). r >>= (λ later. Ok (events ++ later))) (no_more more line last (0 + count) files (omega (arith, le)))
    ∙ ap Ok (append-nil events)

pub files_less : (more count line last : ℕ) (files : Files) (events : List Event) → events_of_files (count + more) line last 0 files ≡ Ok events → last ≤ EVENTS_PER_FILE * count
    → events_of_files count line last 0 files ≡ Ok events
files_less more count line last files events is le =
    let s = split_files count more line last 0 files events is in
    let none : s.back ≡ [] = cc (s.behind, no_more more line last (0 + count) files (omega (arith, le))) in
    s.first ∙ ap Ok (sym (append-nil s.front) ∙ ap (λ (l : List Event). s.front ++ l) (sym none) ∙ sym s.both)

-- so many files have all events
pub last_within : (last : ℕ) → last ≤ EVENTS_PER_FILE * suc (last / EVENTS_PER_FILE)
last_within last = omega arith

pub all_files : (count line last : ℕ) (files : Files) (events : List Event) → events_of_files count line last 0 files ≡ Ok events → last ≤ EVENTS_PER_FILE * count
    → events_in files line last ≡ Ok events
all_files count line last files events is le =
    let n = suc (last / EVENTS_PER_FILE) in
    in_files line last files ∙ elim (cases_lt n count) [
      | inl fewer ↦
          let both : count ≡ n + (count - n) = omega (arith, fewer) in
          files_less (count - n) n line last files events (ap (λ (i : ℕ). events_of_files i line last 0 files) (sym both) ∙ is) (last_within last)
      | inr more ↦
          let both : n ≡ count + (n - count) = omega (arith, more) in
          ap (λ (i : ℕ). events_of_files i line last 0 files) both ∙ files_more (n - count) count line last files events is le
    ]

-- ---- what files have that agree

pub file_of_events : (line last k : ℕ) (files : Files) (events : List Event) → events_in files line last ≡ Ok events → k ≤ last / EVENTS_PER_FILE
    → (here : List Event) × (events_of_file line last k files ≡ Ok here)
file_of_events line last k files events is le =
    file_in (suc (last / EVENTS_PER_FILE)) line last 0 k files events (sym (in_files line last files) ∙ is) (omega arith) (omega (arith, le))

pub events_stay : (line last : ℕ) (old new : Files) (events : List Event) → ((k : ℕ) → covered_bytes line last k new ≡ covered_bytes line last k old)
    → events_in old line last ≡ Ok events → events_in new line last ≡ Ok events
events_stay line last old new events same is =
    let n = suc (last / EVENTS_PER_FILE) in
    in_files line last new
    ∙ files_same n line last line last 0 old new events (sym (in_files line last old) ∙ is)
    (λ j here le lt one. (file_same line last j old new here one (same j)).says)

pub next_size_stays : (line last : ℕ) (old new : Files) (events : List Event) → ((k : ℕ) → covered_bytes line last k new ≡ covered_bytes line last k old)
    → events_in old line last ≡ Ok events → covered_size line last (last / EVENTS_PER_FILE) new ≡ covered_size line last (last / EVENTS_PER_FILE) old
next_size_stays line last old new events same is =
    let k = last / EVENTS_PER_FILE in
    let here = file_of_events line last k old events is (omega arith) in
    (file_same line last k old new here.0 here.1 (same k)).size

pub size_fits : (line last k : ℕ) (files : Files) (events : List Event) → events_in files line last ≡ Ok events → covered_size line last k files ≤ length (files (events_file k))
size_fits line last k files events is = elim (cases_lt (last / EVENTS_PER_FILE) k) [
  | inl past ↦ omega (arith, no_size line last k files (omega (arith, past)))
  | inr within ↦
      let here = file_of_events line last k files events is within in
      covered_fits line last k files here.0 here.1
]

-- a file with a known front of its events keeps their bytes
pub front_stays : (line last k : ℕ) (old new : Files) (events : List Event) → events_in old line last ≡ Ok events
    → take (covered_size line last k old) (new (events_file k)) ≡ covered_bytes line last k old → covered_bytes line last k new ≡ covered_bytes line last k old
front_stays line last k old new events is front = elim (cases_lt (last / EVENTS_PER_FILE) k) [
  | inl past ↦
      let none : count_in line last k ≡ 0 = omega (arith, past) in
      no_bytes line last k new none ∙ sym (no_bytes line last k old none)
  | inr within ↦
      let here = file_of_events line last k old events is within in
      (file_front line last k old new here.0 here.1 front).bytes
]

-- ---- the events past a line and up to a last one

pub last_numbered : (line last : ℕ) (files : Files) (events : List Event) → line % EVENTS_PER_FILE ≡ 0 → events_in files line last ≡ Ok events
    → (map (λ e. e.number) events ≡ range_with_len (line + 1) (length events)) × (length events ≡ last - line)
last_numbered line last files events even is =
    let all = files_numbered (suc (last / EVENTS_PER_FILE)) line last 0 files events even (sym (in_files line last files) ∙ is) in
    let first : max (first_event 0) (line + 1) ≡ line + 1 = omega arith in
    (all.0 ∙ ap (λ (n : ℕ). range_with_len n (length events)) first, omega (arith, all.1, last_within last))

pub fewer_in : (line last earlier : ℕ) (files : Files) (events : List Event) → events_in files line last ≡ Ok events → earlier ≤ last
    → events_in files line earlier ≡ Ok (take (earlier - line) events)
fewer_in line last earlier files events is le =
    let n = suc (last / EVENTS_PER_FILE) in
    let fewer = fewer_of_files n line last earlier 0 files events (sym (in_files line last files) ∙ is) le in
    let same : earlier - max (EVENTS_PER_FILE * 0) line ≡ earlier - line = omega arith in
    all_files n line earlier files (take (earlier - line) events) (fewer ∙ ap (λ (i : ℕ). Ok (take i events)) same) (omega (arith, le, last_within last))

-- none are past the last
pub none_past : (line : ℕ) (files : Files) → events_in files line line ≡ Ok []
none_past line files = in_files line line files ∙ all_none (suc (line / EVENTS_PER_FILE)) 0
  where
    all_none : (count k : ℕ) → events_of_files count line line k files ≡ Ok []
    all_none zero k = refl
    all_none (suc count) k = with_files count line line k files [] [] (no_events line line k files (omega arith)) (all_none count (k + 1))

-- ---- a later line

-- the files from a line on have the same events whichever of two lines counts
pub counts_past : (line later last k : ℕ) → line ≤ later → later ≤ EVENTS_PER_FILE * k → count_in later last k ≡ count_in line last k
counts_past line later last k le from = omega (arith, le, from)

-- the events up to a later line, and those past it
pub record Past (line later last : ℕ) (files : Files) (events : List Event) : Type 0 where
  pub front : List Event
  pub back : List Event
  pub first : events_of_files (later / EVENTS_PER_FILE) line last 0 files ≡ Ok front
  pub says : events_in files later last ≡ Ok back
  pub both : events ≡ front ++ back
  pub long : length front ≡ later - line

pub past_line : (line later last : ℕ) (files : Files) (events : List Event) → line % EVENTS_PER_FILE ≡ 0 → later % EVENTS_PER_FILE ≡ 0 → line ≤ later → later ≤ last
    → events_in files line last ≡ Ok events → Past line later last files events
past_line line later last files events even even_later le within is =
    let k = later / EVENTS_PER_FILE in
    let more = suc (last / EVENTS_PER_FILE) - k in
    let all : suc (last / EVENTS_PER_FILE) ≡ k + more = omega (arith, within) in
    let parted = ap (λ (n : ℕ). events_of_files n line last 0 files) (sym all) ∙ sym (in_files line last files) ∙ is in
    let s = split_files k more line last 0 files events parted in
    let front = files_numbered k line last 0 files s.front even s.first in
    let back = files_same more line last later last (0 + k) files files s.back s.behind
    (λ j here from lt one. ap (λ (n : ℕ). events_from n (events_file j) 0 (first_event j) (files (events_file j))) (counts_past line later last j le (omega (arith, from, even_later))) ∙ one) in
    record {
      front = s.front;
      back = s.back;
      first = s.first;
      says = in_files later last files ∙ ap (λ (n : ℕ). events_of_files n later last 0 files) all
          ∙ files_behind k more later last 0 files [] (none_of_files k later last 0 files (omega (arith, even_later)))
          ∙ bind_itself (events_of_files more later last (0 + k) files) ∙ back;
      both = s.both;
      long = omega (arith, front.1, even, even_later, le, within);
    }
