-- Some of the events of files are found.
use Rattle.std.proofs.Common.{◌≡◌, ℕ, ◌+◌, ◌-◌, ◌*◌, ◌/◌, ◌%◌, ◌≤◌, ◌<◌, suc, Bool, IsTrue, true, false, ◌⊎◌, inl, inr, List, [], ◌∷◌, ◌++◌, length, get_or, take, drop, refl, sym, ap, subst, ◌∙◌, arith}
use Rattle.std.specs.Prelude.{Ok, min, max, filter, nat_le, ◌&&◌}
use Rattle.std.specs.List.{range_with_len}
use Rattle.std.proofs.lemmas.Bool.{cases_lt}
use Rattle.std.proofs.lemmas.Bool.Decides.{nat_tests}
use Rattle.std.proofs.lemmas.List.{length-drop, length-take-le, take-append-drop, append-nil, take_all, drop_all, drop_at}
use Rattle.std.proofs.lemmas.List.Elements.{filter-append}
use Rattle.disk_trait.specs.Files.{Files}
use Rattle.disk_trait.specs.declared.file_name.FileName.{FileName}
use Rattle.flowfile_record.specs.declared.event.Event.{Event}
use Rattle.prov_store.specs.Events.{◌>>=◌, event_by, first_event, count_in, events_file, events_from, events_of_file, events_of_files, events_in, blocks_size}
use Rattle.prov_store.specs.Loading.{bytes_there}
use Rattle.prov_store.specs.Reading.{event_there}
use Rattle.prov_store.specs.Scanning.{is_within, HasSkipped, numbers_between}
use Rattle.prov_store.specs.State.{AreNumberedFrom}
use Rattle.flowfile_record.specs.declared.limits.TheConstants.{EVENTS_PER_FILE}
use Rattle.prov_store.proofs.InFile.{bind_ok, events_behind, fewer_events, events_numbered}
use Rattle.prov_store.specs.declared.read.Cursor.{Cursor}
use Rattle.prov_store.proofs.InFiles.{in_files, split_files, first_file, files_numbered, range_both}
use Rattle.prov_store.proofs.Loads.{one_more, there_is}
use Rattle.prov_store.proofs.Parting.{numbered_part}
use Rattle.record_codec.specs.Block.{reading_of}

-- ---- events by their numbers

out_of : (first last : ℕ) (e : Event) (events : List Event) → is_within first last e ≡ false → filter (is_within first last) (e ∷ events) ≡ filter (is_within first last) events
out_of first last e events out = rw out refl

in_it : (first last : ℕ) (e : Event) (events : List Event) → is_within first last e ≡ true → filter (is_within first last) (e ∷ events) ≡ e ∷ filter (is_within first last) events
in_it first last e events within = rw within refl

head_number : (f : ℕ) (e : Event) (events : List Event) → AreNumberedFrom f (e ∷ events) → e.number ≡ f
head_number f e events numbered = ap (λ (l : List ℕ). get_or l 0 0) numbered

rest_numbered : (f : ℕ) (e : Event) (events : List Event) → AreNumberedFrom f (e ∷ events) → AreNumberedFrom (f + 1) events
rest_numbered f e events numbered = ap (drop 1) numbered

pub none_before : (first last f : ℕ) (events : List Event) → AreNumberedFrom f events → f + length events ≤ first → filter (is_within first last) events ≡ []
none_before first last f [] numbered le = refl
none_before first last f (e ∷ events) numbered le =
    let head = head_number f e events numbered in
    let test : (nat_le first e.number && nat_le e.number last) ≡ false = grind (arith, nat_tests, head, le) in
    out_of first last e events test ∙ none_before first last (f + 1) events (rest_numbered f e events numbered) (omega (arith, le))

pub none_behind : (first last f : ℕ) (events : List Event) → AreNumberedFrom f events → last < f → filter (is_within first last) events ≡ []
none_behind first last f [] numbered lt = refl
none_behind first last f (e ∷ events) numbered lt =
    let head = head_number f e events numbered in
    let test : (nat_le first e.number && nat_le e.number last) ≡ false = grind (arith, nat_tests, head, lt) in
    out_of first last e events test ∙ none_behind first last (f + 1) events (rest_numbered f e events numbered) (omega (arith, lt))

pub all_between : (first last f : ℕ) (events : List Event) → AreNumberedFrom f events → first ≤ f → f + length events ≤ last + 1 → filter (is_within first last) events ≡ events
all_between first last f [] numbered from to = refl
all_between first last f (e ∷ events) numbered from to =
    let head = head_number f e events numbered in
    let test : (nat_le first e.number && nat_le e.number last) ≡ true = grind (arith, nat_tests, head, from, to) in
    in_it first last e events test ∙ ap (λ (l : List Event). e ∷ l) (all_between first last (f + 1) events (rest_numbered f e events numbered) (omega (arith, from)) (omega (arith, to)))

le_alike : (a b c d : ℕ) → (a ≤ b → c ≤ d) → (c ≤ d → a ≤ b) → nat_le a b ≡ nat_le c d
le_alike a b c d to back = elim (cases_lt b a) [
  | inl more ↦
      let over : d < c = elim (cases_lt d c) [ inl lt ↦ lt | inr le ↦ absurd (omega (arith, back le, more)) ] in
      let first : nat_le a b ≡ false = grind (arith, nat_tests, more) in
      let second : nat_le c d ≡ false = grind (arith, nat_tests, over) in
      first ∙ sym second
  | inr le ↦
      let there = to le in
      let first : nat_le a b ≡ true = grind (arith, nat_tests, le) in
      let second : nat_le c d ≡ true = grind (arith, nat_tests, there) in
      first ∙ sym second
]

-- the same events are found between two numbers and as far as there are events
pub same_found : (from to least last f : ℕ) (events : List Event) → AreNumberedFrom f events → least ≤ f → f + length events ≤ last + 1
    → filter (is_within (max from least) (min to last)) events ≡ filter (λ e. nat_le from e.number && nat_le e.number to) events
same_found from to least last f [] numbered one le = refl
same_found from to least last f (e ∷ events) numbered one le =
    let head = head_number f e events numbered in
    let n = e.number in
    let low : nat_le (max from least) n ≡ nat_le from n = le_alike (max from least) n from n (λ h. omega (arith, h)) (λ h. omega (arith, h, head, one)) in
    let high : nat_le n (min to last) ≡ nat_le n to = le_alike n (min to last) n to (λ h. omega (arith, h)) (λ h. omega (arith, h, head, le)) in
    let rest = same_found from to least last (f + 1) events (rest_numbered f e events numbered) (omega (arith, one)) (omega (arith, le)) in
    rw (low, high, rest) refl

-- ---- the events of a file

-- what stands behind some events, where all are there
pub event_stands : (count more : ℕ) (file : FileName) (at number : ℕ) (bytes : List ℕ) (events : List Event) → events_from (count + suc more) file at number bytes ≡ Ok events
    → (found : Event × ℕ) × (event_by file (at + blocks_size count bytes) (number + count) (reading_of (drop (blocks_size count bytes) bytes)) ≡ Ok found)
event_stands count more file at number bytes events is =
    let front = fewer_events count (suc more) file at number bytes events is in
    let s = blocks_size count bytes in
    let rest = drop s bytes in
    let behind = sym (events_behind count (suc more) file at number bytes (take count events) front) ∙ is in
    let later = bind_ok (events_from (suc more) file (at + s) (number + count) rest) (λ later. Ok (take count events ++ later)) events behind in
    let first = bind_ok (event_by file (at + s) (number + count) (reading_of rest))
    (λ (first : Event × ℕ). events_from more file (at + s + first.1) (number + count + 1) (drop first.1 rest) >>= (λ later. Ok (first.0 ∷ later))) later.0 later.1 in
    (first.0, first.1)

-- some events in the middle
pub middle : (n m more : ℕ) (file : FileName) (at number : ℕ) (bytes : List ℕ) (events : List Event) → events_from (n + (m + more)) file at number bytes ≡ Ok events
    → events_from m file (at + blocks_size n bytes) (number + n) (drop (blocks_size n bytes) bytes) ≡ Ok (take m (drop n events))
middle n m more file at number bytes events is =
    let front = fewer_events n (m + more) file at number bytes events is in
    let s = blocks_size n bytes in
    let rest = drop s bytes in
    let behind = sym (events_behind n (m + more) file at number bytes (take n events) front) ∙ is in
    let later = bind_ok (events_from (m + more) file (at + s) (number + n) rest) (λ later. Ok (take n events ++ later)) events behind in
    let whole : take n events ++ later.0 ≡ events = cc later.2 in
    let long : length (take n events) ≡ n = (events_numbered n file at number bytes (take n events) front).1 in
    let left : drop n events ≡ later.0 = ap (drop n) (sym whole) ∙ drop_at (take n events) later.0 n long in
    fewer_events m more file (at + s) (number + n) rest later.0 later.1 ∙ ap (λ (l : List Event). Ok (take m l)) (sym left)

rest_from : (f n : ℕ) (events : List Event) → AreNumberedFrom f events → n ≤ length events → AreNumberedFrom (f + n) (drop n events)
rest_from f n events numbered le =
    let left = length-drop n events in
    subst (AreNumberedFrom (f + n)) (take_all (length events - n) (drop n events) (omega (arith, left))) (numbered_part f n (length events - n) events numbered (omega (arith, le)))

-- what is found of them
pub found_between : (first last f n m : ℕ) (events : List Event) → AreNumberedFrom f events → n + m ≤ length events → (0 < n → f + n ≤ first) → first ≤ f + n → f + n + m ≤ last + 1
    → (m < length events - n → last < f + n + m) → filter (is_within first last) events ≡ take m (drop n events)
found_between first last f n m events numbered fits to from below above =
    let p = is_within first last in
    let front = take n events in
    let mid = take m (drop n events) in
    let back = drop m (drop n events) in
    let left = length-drop n events in
    let whole : events ≡ front ++ (mid ++ back) = sym (take-append-drop n events) ∙ ap (λ (l : List Event). front ++ l) (sym (take-append-drop m (drop n events))) in
    ap (filter p) whole ∙ filter-append p front (mid ++ back) ∙ ap (λ (l : List Event). l ++ filter p (mid ++ back)) none_front ∙ filter-append p mid back
    ∙ ap (λ (l : List Event). l ++ filter p back) all_mid ∙ ap (λ (l : List Event). mid ++ l) none_back ∙ append-nil mid
  where
    none_front : filter (is_within first last) (take n events) ≡ []
    none_front = elim (cases_lt 0 n) [
      | inl some ↦
          let same : f + 0 ≡ f = omega arith in
          none_before first last f (take n events)
          (subst (λ (k : ℕ). AreNumberedFrom k (take n events)) same (numbered_part f 0 n events numbered (omega (arith, fits))))
          (omega (arith, to some, length-take-le n events (omega (arith, fits))))
      | inr few ↦
          let none : n ≡ 0 = omega (arith, few) in
          ap (λ (k : ℕ). filter (is_within first last) (take k events)) none
    ]

    all_mid : filter (is_within first last) (take m (drop n events)) ≡ take m (drop n events)
    all_mid =
        all_between first last (f + n) (take m (drop n events)) (numbered_part f n m events numbered fits) from
        (omega (arith, below, length-take-le m (drop n events) (omega (arith, fits, length-drop n events))))

    none_back : filter (is_within first last) (drop m (drop n events)) ≡ []
    none_back = elim (cases_lt m (length events - n)) [
      | inl some ↦
          none_behind first last (f + n + m) (drop m (drop n events))
          (rest_from (f + n) m (drop n events) (rest_from f n events numbered (omega (arith, fits))) (omega (arith, length-drop n events, some))) (above some)
      | inr all ↦ ap (filter (is_within first last)) (drop_all m (drop n events) (omega (arith, length-drop n events, all)))
    ]

-- ---- event by event

-- what is skipped next
pub record Skip (files : Files) (start : Cursor) (i : ℕ) (cursor : Cursor) (events : List Event) : Type 0 where
  pub event : Event
  pub size : ℕ
  pub there : event_there files cursor ≡ Ok (event, size)
  pub reaches : cursor.at + size ≡ start.at + blocks_size (i + 1) (bytes_there files start)
  pub next : take (i + 1) events ≡ take i events ++ event ∷ []

pub skip_one : (files : Files) (start : Cursor) (i many : ℕ) (cursor : Cursor) (events : List Event) → cursor ≡ record start { at = cursor.at; number = start.number + i }
    → cursor.at ≡ start.at + blocks_size i (bytes_there files start) → i < many → events_from many start.file start.at start.number (bytes_there files start) ≡ Ok events
    → Skip files start i cursor events
skip_one files start i many cursor events is reaches lt all =
    let bytes = bytes_there files start in
    let split : many ≡ i + suc (many - i - 1) = omega (arith, lt) in
    let parted = ap (λ (n : ℕ). events_from n start.file start.at start.number bytes) (sym split) ∙ all in
    let stands = event_stands i (many - i - 1) start.file start.at start.number bytes events parted in
    let front = fewer_events i (suc (many - i - 1)) start.file start.at start.number bytes events parted in
    let more = one_more i start.file start.at start.number bytes (take i events) stands.0 front stands.1 in
    record {
      event = stands.0.0;
      size = stands.0.1;
      there = sym (there_is files start i cursor is reaches (event_there files cursor) refl) ∙ stands.1;
      reaches = omega (arith, reaches, more.size);
      next =
          let longer : many ≡ i + 1 + (many - i - 1) = omega (arith, lt) in
          let so_many = fewer_events (i + 1) (many - i - 1) start.file start.at start.number bytes events
          (ap (λ (n : ℕ). events_from n start.file start.at start.number bytes) (sym longer) ∙ all) in
          cc (so_many, more.says);
    }

-- ---- one file

-- what is skipped, read and found of a file
pub record FoundIn (end first last k n m : ℕ) (files : Files) (here : List Event) : Type 0 where
  pub skipped : events_from n (events_file k) 0 (first_event k) (files (events_file k)) ≡ Ok (take n here)
  pub read : events_from m (events_file k) (0 + blocks_size n (files (events_file k))) (first_event k + n) (drop (blocks_size n (files (events_file k))) (files (events_file k))) ≡ Ok (take m (drop n here))
  pub found : filter (is_within first last) here ≡ take m (drop n here)

pub found_in : (line end first last k n m : ℕ) (files : Files) (here : List Event) → events_of_file line end k files ≡ Ok here → line % EVENTS_PER_FILE ≡ 0 → line < first → first ≤ last → last ≤ end
    → (first - 1) / EVENTS_PER_FILE ≤ k → k ≤ (last - 1) / EVENTS_PER_FILE → n ≡ first - first_event k → m ≡ min last (EVENTS_PER_FILE * k + EVENTS_PER_FILE) + 1 - (first_event k + n)
    → FoundIn end first last k n m files here
found_in line end first last k n m files here is even one some there from to skip read =
    let c = count_in line end k in
    let numbers = events_numbered c (events_file k) 0 (first_event k) (files (events_file k)) here is in
    let all : c ≡ n + (m + (c - n - m)) = omega (arith, even, one, some, there, from, to, skip, read) in
    let whole : events_from (n + (m + (c - n - m))) (events_file k) 0 (first_event k) (files (events_file k)) ≡ Ok here =
    ap (λ (i : ℕ). events_from i (events_file k) 0 (first_event k) (files (events_file k))) (sym all) ∙ is in
    let numbered : AreNumberedFrom (first_event k) here = numbers.0 ∙ ap (range_with_len (first_event k)) (sym numbers.1) in
    record {
      skipped = fewer_events n (m + (c - n - m)) (events_file k) 0 (first_event k) (files (events_file k)) here whole;
      read = middle n m (c - n - m) (events_file k) 0 (first_event k) (files (events_file k)) here whole;
      found =
          found_between first last (first_event k) n m here numbered (omega (arith, numbers.1, all)) (λ less. omega (arith, skip, less)) (omega (arith, skip))
          (omega (arith, read, one, some, from, to, skip)) (λ less. omega (arith, numbers.1, less, read, even, one, some, there, from, to, skip));
    }

-- ---- all files

-- nothing is found in the files before the first event
pub none_yet : (line end first last : ℕ) (files : Files) (events : List Event) → line % EVENTS_PER_FILE ≡ 0 → line < first → events_of_files ((first - 1) / EVENTS_PER_FILE) line end 0 files ≡ Ok events
    → filter (is_within first last) events ≡ []
none_yet line end first last files events even past is = elim (cases_lt 0 ((first - 1) / EVENTS_PER_FILE)) [
  | inl some ↦
      let numbers = files_numbered ((first - 1) / EVENTS_PER_FILE) line end 0 files events even is in
      none_before first last (max (first_event 0) (line + 1)) events numbers.0 (omega (arith, numbers.1, some, past))
  | inr none ↦
      let zero : (first - 1) / EVENTS_PER_FILE ≡ 0 = omega (arith, none) in
      let empty : events ≡ [] = cc (ap (λ (n : ℕ). events_of_files n line end 0 files) (sym zero) ∙ is) in
      ap (filter (is_within first last)) empty
]

-- one file more
pub one_file_found : (line end first last k : ℕ) (files : Files) (old new : List Event) (events : List Event) → events_of_files (k + 1) line end 0 files ≡ Ok events
    → ((front : List Event) → events_of_files k line end 0 files ≡ Ok front → old ≡ filter (is_within first last) front)
    → ((here : List Event) → events_of_file line end k files ≡ Ok here → new ≡ old ++ filter (is_within first last) here)
    → new ≡ filter (is_within first last) events
one_file_found line end first last k files old new events is before now =
    let s = split_files k 1 line end 0 files events is in
    let place : 0 + k ≡ k = omega arith in
    let f = first_file 0 line end k files s.back (ap (λ (j : ℕ). events_of_files 1 line end j files) (sym place) ∙ s.behind) in
    let none : f.later ≡ [] = cc f.behind in
    let back : s.back ≡ f.here = f.both ∙ ap (λ (l : List Event). f.here ++ l) none ∙ append-nil f.here in
    now f.here f.first ∙ ap (λ (l : List Event). l ++ filter (is_within first last) f.here) (before s.front s.first)
    ∙ sym (filter-append (is_within first last) s.front f.here) ∙ ap (λ (l : List Event). filter (is_within first last) (s.front ++ l)) (sym back)
    ∙ ap (filter (is_within first last)) (sym s.both)

-- nothing is found behind the last
pub all_found : (line end first last k : ℕ) (files : Files) (found events : List Event) → line % EVENTS_PER_FILE ≡ 0 → events_in files line end ≡ Ok events → k ≡ (last - 1) / EVENTS_PER_FILE + 1 → 1 ≤ last → last ≤ end
    → ((front : List Event) → events_of_files k line end 0 files ≡ Ok front → found ≡ filter (is_within first last) front) → found ≡ filter (is_within first last) events
all_found line end first last k files found events even is behind one le before =
    let more = suc (end / EVENTS_PER_FILE) - k in
    let all : suc (end / EVENTS_PER_FILE) ≡ k + more = omega (arith, behind, le) in
    let s = split_files k more line end 0 files events (ap (λ (n : ℕ). events_of_files n line end 0 files) (sym all) ∙ sym (in_files line end files) ∙ is) in
    let numbers = files_numbered more line end (0 + k) files s.back even s.behind in
    let past : last < max (first_event (0 + k)) (line + 1) = omega (arith, behind, one) in
    before s.front s.first ∙ sym (append-nil (filter (is_within first last) s.front))
    ∙ ap (λ (l : List Event). filter (is_within first last) s.front ++ l) (sym (none_behind first last (max (first_event (0 + k)) (line + 1)) s.back numbers.0 past))
    ∙ sym (filter-append (is_within first last) s.front s.back) ∙ ap (filter (is_within first last)) (sym s.both)

-- where there are no numbers between the two
pub none_between : (first last : ℕ) (events : List Event) → last < first → filter (is_within first last) events ≡ []
none_between first last [] lt = refl
none_between first last (e ∷ events) lt =
    let test : (nat_le first e.number && nat_le e.number last) ≡ false = out_test (cases_lt e.number first) in
    out_of first last e events test ∙ none_between first last events lt
  where
    out_test : (e.number < first) ⊎ (first ≤ e.number) → (nat_le first e.number && nat_le e.number last) ≡ false
    out_test (inl below) =
        let low : nat_le first e.number ≡ false = grind (arith, nat_tests, below) in
        rw low refl
    out_test (inr above) =
        let low : nat_le first e.number ≡ true = grind (arith, nat_tests, above) in
        let high : nat_le e.number last ≡ false = grind (arith, nat_tests, above, lt) in
        rw (low, high) refl

-- the place in a file, as it was read
pub from_start : (k n number : ℕ) (file : FileName) (read files : Files) → read ≡ files → file ≡ events_file k → number ≡ first_event k
    → events_from n file 0 number (drop 0 (read file)) ≡ events_from n (events_file k) 0 (first_event k) (files (events_file k))
from_start k n number file read files held name first =
    ap (λ (i : ℕ). events_from n file 0 i (read file)) first ∙ ap (λ f. events_from n f 0 (first_event k) (read f)) name
    ∙ ap (λ (f : Files). events_from n (events_file k) 0 (first_event k) (f (events_file k))) held

pub from_there : (k n m : ℕ) (cursor : Cursor) (read files : Files) → read ≡ files → cursor.file ≡ events_file k → cursor.at ≡ 0 + blocks_size n (files (events_file k))
    → cursor.number ≡ first_event k + n
    → events_from m cursor.file cursor.at cursor.number (bytes_there read cursor)
    ≡ events_from m (events_file k) (0 + blocks_size n (files (events_file k))) (first_event k + n) (drop (blocks_size n (files (events_file k))) (files (events_file k)))
from_there k n m cursor read files held name at number =
    let s = blocks_size n (files (events_file k)) in
    let place : 0 + s ≡ s = omega arith in
    ap (λ (i : ℕ). events_from m cursor.file cursor.at i (drop cursor.at (read cursor.file))) number
    ∙ ap (λ (i : ℕ). events_from m cursor.file i (first_event k + n) (drop i (read cursor.file))) at
    ∙ ap (λ (i : ℕ). events_from m cursor.file (0 + s) (first_event k + n) (drop i (read cursor.file))) place
    ∙ ap (λ f. events_from m f (0 + s) (first_event k + n) (drop s (read f))) name
    ∙ ap (λ (f : Files). events_from m (events_file k) (0 + s) (first_event k + n) (drop s (f (events_file k)))) held

-- where the reading of a file goes on behind what was skipped
pub there_in_file : (end first last k n m number : ℕ) (file : FileName) (size : ℕ) (tells : Bool) (files before behind : Files) (here : List Event) (cursor : Cursor)
    → FoundIn end first last k n m files here → before ≡ files → behind ≡ files → file ≡ events_file k → number ≡ first_event k
    → HasSkipped tells before (record { file = file; size = size; at = 0; number = number }) n cursor → IsTrue tells
    → events_from m cursor.file cursor.at cursor.number (bytes_there behind cursor) ≡ Ok (take m (drop n here))
there_in_file end first last k n m number file size tells files before behind here cursor fi held_before held_behind name is skipped told =
    let all = from_start k n number file before files held_before name is ∙ fi.skipped in
    let reaches : cursor.at ≡ 0 + blocks_size n (before file) = skipped.reaches told (take n here) all in
    let bytes : before file ≡ files (events_file k) = ap (λ f. before f) name ∙ ap (λ (f : Files). f (events_file k)) held_before in
    let at : cursor.at ≡ 0 + blocks_size n (files (events_file k)) = reaches ∙ ap (λ (l : List ℕ). 0 + blocks_size n l) bytes in
    let cursor_number : cursor.number ≡ first_event k + n = ap (λ (c : Cursor). c.number) skipped.behind ∙ ap (λ (i : ℕ). i + n) is in
    from_there k n m cursor behind files held_behind (ap (λ (c : Cursor). c.file) skipped.behind ∙ name) at cursor_number ∙ fi.read

-- the same of what is known by other words
pub found_alike : (line end first last line_now end_now first_now last_now k : ℕ) (read files : Files) (old new : List Event) → line_now ≡ line → end_now ≡ end → first_now ≡ first → last_now ≡ last → read ≡ files
    → ((here : List Event) → events_of_file line_now end_now k read ≡ Ok here → new ≡ old ++ filter (is_within first_now last_now) here)
    → (here : List Event) → events_of_file line end k files ≡ Ok here → new ≡ old ++ filter (is_within first last) here
found_alike line end first last line_now end_now first_now last_now k read files old new line_is end_is first_is last_is held found here is =
    found here (ap (λ (n : ℕ). events_of_file n end_now k read) line_is ∙ ap (λ (n : ℕ). events_of_file line n k read) end_is ∙ ap (λ (f : Files). events_of_file line end k f) held ∙ is)
    ∙ ap (λ (n : ℕ). old ++ filter (is_within n last_now) here) first_is ∙ ap (λ (n : ℕ). old ++ filter (is_within first n) here) last_is

-- ---- the numbers that are found

-- none before the first file
pub none_numbered : (first last : ℕ) → 1 ≤ first → numbers_between first (min last (first_event ((first - 1) / EVENTS_PER_FILE) - 1)) ≡ []
none_numbered first last one =
    let none : min last (first_event ((first - 1) / EVENTS_PER_FILE) - 1) + 1 - first ≡ 0 = omega (arith, one) in
    ap (range_with_len first) none

-- those of one file more
pub file_numbered : (first last k : ℕ) → first ≤ last → k ≤ (last - 1) / EVENTS_PER_FILE
    → numbers_between first (min last (first_event k - 1)) ++ numbers_between (max first (first_event k)) (min last (first_event (k + 1) - 1)) ≡ numbers_between first (min last (first_event (k + 1) - 1))
file_numbered first last k some there =
    let before = min last (first_event k - 1) + 1 - first in
    let here = min last (first_event (k + 1) - 1) + 1 - max first (first_event k) in
    let place : max first (first_event k) ≡ first + before = omega (arith, some, there) in
    let both : before + here ≡ min last (first_event (k + 1) - 1) + 1 - first = omega (arith, some, there) in
    ap (λ (n : ℕ). range_with_len first before ++ range_with_len n here) place ∙ sym (range_both first before here) ∙ ap (range_with_len first) both

pub numbered_on : (first last other end k : ℕ) (old new : List ℕ) → other ≡ first → end ≡ last → first ≤ last → k ≤ (last - 1) / EVENTS_PER_FILE
    → old ≡ numbers_between first (min last (first_event k - 1)) → new ≡ old ++ numbers_between (max other (first_event k)) (min end (first_event (k + 1) - 1))
    → new ≡ numbers_between first (min last (first_event (k + 1) - 1))
numbered_on first last other end k old new same_first same_last some there was is =
    let before = numbers_between first (min last (first_event k - 1)) in
    is ∙ ap (λ (l : List ℕ). l ++ numbers_between (max other (first_event k)) (min end (first_event (k + 1) - 1))) was
    ∙ ap (λ (n : ℕ). before ++ numbers_between (max n (first_event k)) (min end (first_event (k + 1) - 1))) same_first
    ∙ ap (λ (n : ℕ). before ++ numbers_between (max first (first_event k)) (min n (first_event (k + 1) - 1))) same_last
    ∙ file_numbered first last k some there
