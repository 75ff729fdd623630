-- Files of events are read, event by event and file by file.
use Rattle.std.proofs.Common.{◌≡◌, ℕ, suc, ◌+◌, ◌-◌, ◌/◌, ◌≤◌, ◌<◌, Bool, IsTrue, inl, inr, List, [], ◌∷◌, ◌++◌, length, drop, sym, ap, subst, ◌∙◌, arith}
use Rattle.std.specs.Prelude.{Result, Ok, Err, All, Contains}
use Rattle.std.specs.List.{range_with_len}
use Rattle.std.proofs.lemmas.Bool.{cases_lt}
use Rattle.std.proofs.lemmas.List.{length-append, drop-drop, append-nil, take_all, map-append}
use Rattle.std.proofs.lemmas.List.Elements.{All-push, Contains-append_left, Contains-append_right}
use Rattle.disk_trait.proofs.FileLists.{contains_here}
use Rattle.disk_trait.specs.Files.{Files}
use Rattle.disk_trait.specs.declared.damage.Damage.{Damage}
use Rattle.disk_trait.specs.declared.file_name.FileName.{FileName}
use Rattle.flowfile_record.specs.declared.event.Event.{Event}
use Rattle.prov_store.specs.Events.{◌>>=◌, event_by, first_event, count_in, events_file, events_from, events_of_file, events_of_files, blocks_size, covered_bytes, covered_size}
use Rattle.prov_store.specs.Loading.{AreReadEvents, EventsAreLoaded, bytes_there}
use Rattle.prov_store.specs.Reading.{event_there}
use Rattle.prov_store.specs.State.{AreCounted, IsEventLine}
use Rattle.prov_store.specs.declared.events.Stale.{Stale}
use Rattle.prov_store.specs.declared.load.Loading.{Loading}
use Rattle.prov_store.specs.declared.read.Cursor.{Cursor}
use Rattle.flowfile_record.specs.declared.limits.TheConstants.{EVENTS_PER_FILE}
use Rattle.prov_store.proofs.InFile.{read_of, with_first, events_behind, sizes_behind, size_of_first}
use Rattle.prov_store.proofs.InFiles.{files_behind, range_both}
use Rattle.prov_store.proofs.Counting.{counts_are}
use Rattle.prov_store.proofs.Keeping.{stale_files}
use Rattle.record_codec.specs.Block.{reading_of}

-- one event more of a file
pub record OneMore (count : ℕ) (file : FileName) (at number : ℕ) (bytes : List ℕ) (events : List Event) (found : Event × ℕ) : Type 0 where
  pub says : events_from (count + 1) file at number bytes ≡ Ok (events ++ found.0 ∷ [])
  pub size : blocks_size (count + 1) bytes ≡ blocks_size count bytes + found.1

pub one_more : (count : ℕ) (file : FileName) (at number : ℕ) (bytes : List ℕ) (events : List Event) (found : Event × ℕ) → events_from count file at number bytes ≡ Ok events
    → event_by file (at + blocks_size count bytes) (number + count) (reading_of (drop (blocks_size count bytes) bytes)) ≡ Ok found
    → OneMore count file at number bytes events found
one_more count file at number bytes events found is here =
    let s = blocks_size count bytes in
    let rest = drop s bytes in
    let read = read_of file (at + s) (number + count) (reading_of rest) found here in
    record {
      says = events_behind count 1 file at number bytes events is
          ∙ ap (λ (r : Result (List Event) Damage). r >>= (λ later. Ok (events ++ later))) (with_first 0 file (at + s) (number + count) rest found read);
      size = sizes_behind count 1 file at number bytes events is ∙ ap (λ (n : ℕ). s + n) (size_of_first 0 (number + count) rest found read) ∙ omega arith;
    }

-- where the next event stands
pub there_is : (files : Files) (start : Cursor) (i : ℕ) (cursor : Cursor) → cursor ≡ record start { at = cursor.at; number = start.number + i }
    → cursor.at ≡ start.at + blocks_size i (bytes_there files start) → (r : Result (Event × ℕ) Damage) → event_there files cursor ≡ r
    → event_by start.file (start.at + blocks_size i (bytes_there files start)) (start.number + i) (reading_of (drop (blocks_size i (bytes_there files start)) (bytes_there files start))) ≡ r
there_is files start i cursor is reaches r here =
    let s = blocks_size i (bytes_there files start) in
    let file : cursor.file ≡ start.file = ap (λ (c : Cursor). c.file) is in
    let number : cursor.number ≡ start.number + i = ap (λ (c : Cursor). c.number) is in
    let bytes : drop s (bytes_there files start) ≡ drop cursor.at (files cursor.file) =
    drop-drop s start.at (files start.file) ∙ ap (λ (n : ℕ). drop n (files start.file)) (sym reaches) ∙ ap (λ f. drop cursor.at (files f)) (sym file) in
    ap (λ f. event_by f (start.at + s) (start.number + i) (reading_of (drop s (bytes_there files start)))) (sym file)
    ∙ ap (λ (n : ℕ). event_by cursor.file n (start.number + i) (reading_of (drop s (bytes_there files start)))) (sym reaches)
    ∙ ap (λ (n : ℕ). event_by cursor.file cursor.at n (reading_of (drop s (bytes_there files start)))) (sym number)
    ∙ ap (λ (l : List ℕ). event_by cursor.file cursor.at cursor.number (reading_of l)) bytes ∙ here

-- the first damage of a file
pub first_damage : (count more : ℕ) (file : FileName) (at number : ℕ) (bytes : List ℕ) (events : List Event) (damage : Damage) → events_from count file at number bytes ≡ Ok events
    → event_by file (at + blocks_size count bytes) (number + count) (reading_of (drop (blocks_size count bytes) bytes)) ≡ Err damage
    → events_from (count + suc more) file at number bytes ≡ Err damage
first_damage count more file at number bytes events damage is here =
    let s = blocks_size count bytes in
    let rest = drop s bytes in
    let first : events_from (suc more) file (at + s) (number + count) rest ≡ Err damage =
    ap (λ (r : Result (Event × ℕ) Damage). r >>= (λ (first : Event × ℕ). events_from more file (at + s + first.1) (number + count + 1) (drop first.1 rest) >>= (λ later. Ok (first.0 ∷ later)))) here in
    events_behind count (suc more) file at number bytes events is ∙ ap (λ (r : Result (List Event) Damage). r >>= (λ later. Ok (events ++ later))) first

-- the same where they were read from a place on
pub read_more : (tells : Bool) (files : Files) (start : Cursor) (i : ℕ) (events : List Event) (cursor : Cursor) (e : Event) (size : ℕ)
    → AreReadEvents tells files start i events cursor.at → cursor ≡ record start { at = cursor.at; number = start.number + i } → cursor.at + size ≤ cursor.size → e.number ≡ cursor.number
    → (IsTrue tells → event_there files cursor ≡ Ok (e, size)) → AreReadEvents tells files start (i + 1) (events ++ e ∷ []) (cursor.at + size)
read_more tells files start i events cursor e size read is within same found =
    let same_size : cursor.size ≡ start.size = ap (λ (c : Cursor). c.size) is in
    record {
      count = omega (arith, length-append events (e ∷ []), read.count);
      numbered =
          map-append (λ (e : Event). e.number) events (e ∷ []) ∙ ap (λ (l : List ℕ). l ++ e.number ∷ []) read.numbered
          ∙ ap (λ (n : ℕ). range_with_len start.number i ++ n ∷ []) (same ∙ ap (λ (c : Cursor). c.number) is) ∙ sym (range_both start.number i 1);
      within = omega (arith, within, same_size);
      says = λ told. (more told).says;
      reaches = λ told. omega (arith, (more told).size, read.reaches told);
    }
  where
    more : IsTrue tells → OneMore i start.file start.at start.number (bytes_there files start) events (e, size)
    more told = one_more i start.file start.at start.number (bytes_there files start) events (e, size) (read.says told) (there_is files start i cursor is (read.reaches told) (Ok (e, size)) (found told))

pub damaged_there : (tells : Bool) (files : Files) (start : Cursor) (i many : ℕ) (events : List Event) (cursor : Cursor) (damage : Damage)
    → AreReadEvents tells files start i events cursor.at → cursor ≡ record start { at = cursor.at; number = start.number + i } → i < many → IsTrue tells
    → event_there files cursor ≡ Err damage → events_from many start.file start.at start.number (bytes_there files start) ≡ Err damage
damaged_there tells files start i many events cursor damage read is lt told here =
    let all : many ≡ i + suc (many - i - 1) = omega (arith, lt) in
    ap (λ (n : ℕ). events_from n start.file start.at start.number (bytes_there files start)) all
    ∙ first_damage i (many - i - 1) start.file start.at start.number (bytes_there files start) events damage (read.says told)
    (there_is files start i cursor is (read.reaches told) (Err damage) here)

-- one file more
pub file_more : (k line last : ℕ) (files : Files) (events here : List Event) → events_of_files k line last 0 files ≡ Ok events → events_of_file line last k files ≡ Ok here
    → events_of_files (k + 1) line last 0 files ≡ Ok (events ++ here)
file_more k line last files events here is one =
    let place : 0 + k ≡ k = omega arith in
    let first : events_of_files 1 line last k files ≡ Ok (here ++ []) = ap (λ (r : Result (List Event) Damage). r >>= (λ es. events_of_files 0 line last (k + 1) files >>= (λ later. Ok (es ++ later)))) one in
    files_behind k 1 line last 0 files events is ∙ ap (λ (j : ℕ). events_of_files 1 line last j files >>= (λ later. Ok (events ++ later))) place
    ∙ ap (λ (r : Result (List Event) Damage). r >>= (λ later. Ok (events ++ later))) first ∙ ap (λ (l : List Event). Ok (events ++ l)) (append-nil here)

-- the first damage of the files
pub first_damaged : (k more line last : ℕ) (files : Files) (events : List Event) (damage : Damage) → events_of_files k line last 0 files ≡ Ok events → events_of_file line last k files ≡ Err damage
    → events_of_files (k + suc more) line last 0 files ≡ Err damage
first_damaged k more line last files events damage is one =
    let place : 0 + k ≡ k = omega arith in
    let first : events_of_files (suc more) line last k files ≡ Err damage = ap (λ (r : Result (List Event) Damage). r >>= (λ es. events_of_files more line last (k + 1) files >>= (λ later. Ok (es ++ later)))) one in
    files_behind k (suc more) line last 0 files events is ∙ ap (λ (j : ℕ). events_of_files (suc more) line last j files >>= (λ later. Ok (events ++ later))) place
    ∙ ap (λ (r : Result (List Event) Damage). r >>= (λ later. Ok (events ++ later))) first

-- ---- what is known of the files that are read

pub cursor_on : (start cursor next : Cursor) (i size : ℕ) → cursor ≡ record start { at = cursor.at; number = start.number + i }
    → next ≡ record cursor { at = cursor.at + size; number = cursor.number + 1 } → next ≡ record start { at = next.at; number = start.number + (i + 1) }
cursor_on start cursor next i size is step =
    let file : next.file ≡ start.file = ap (λ (c : Cursor). c.file) step ∙ ap (λ (c : Cursor). c.file) is in
    let long : next.size ≡ start.size = ap (λ (c : Cursor). c.size) step ∙ ap (λ (c : Cursor). c.size) is in
    let number : next.number ≡ start.number + (i + 1) = omega (arith, ap (λ (c : Cursor). c.number) step, ap (λ (c : Cursor). c.number) is) in
    λ j. record { file = file j; size = long j; at = next.at; number = number j }

-- a file that was read from its start on is that of a number
pub file_read : (line last k many number : ℕ) (file : FileName) (read files : Files) (r : Result (List Event) Damage) → read ≡ files → file ≡ events_file k → many ≡ count_in line last k → number ≡ first_event k
    → events_from many file 0 number (drop 0 (read file)) ≡ r → events_of_file line last k files ≡ r
file_read line last k many number file read files r held name count first is =
    sym (ap (λ (f : Files). events_from (count_in line last k) (events_file k) 0 (first_event k) (f (events_file k))) held)
    ∙ sym (ap (λ f. events_from (count_in line last k) f 0 (first_event k) (read f)) name)
    ∙ sym (ap (λ (n : ℕ). events_from n file 0 (first_event k) (read file)) count)
    ∙ sym (ap (λ (n : ℕ). events_from many file 0 n (read file)) first) ∙ is

pub size_read : (line last k many size : ℕ) (file : FileName) (read files : Files) → read ≡ files → file ≡ events_file k → many ≡ count_in line last k
    → size ≡ 0 + blocks_size many (drop 0 (read file)) → size ≡ covered_size line last k files
unfolding covered_size
size_read line last k many size file read files held name count is =
    let here : size ≡ blocks_size many (read file) = omega (arith, is) in
    here ∙ ap (λ (n : ℕ). blocks_size n (read file)) count ∙ ap (λ f. blocks_size (count_in line last k) (read f)) name ∙ ap (λ (f : Files). blocks_size (count_in line last k) (f (events_file k))) held

-- which files are longer than what is covered, with one file more
pub record StaleMore (tells : Bool) (files : Files) (k : ℕ) (old new : Loading) : Type 0 where
  pub sizes : IsTrue tells → All (λ s. s.size ≡ covered_size old.line old.end s.file files) new.stale.items
  pub others : IsTrue tells → (j : ℕ) → old.line / EVENTS_PER_FILE ≤ j → j < k + 1 → (Contains (stale_files new.stale.items) j → ⊥) → files (events_file j) ≡ covered_bytes old.line old.end j files

pub stale_same : (tells : Bool) (files : Files) (k size : ℕ) (old new : Loading) → EventsAreLoaded tells files k old → new.stale.items ≡ old.stale.items
    → (IsTrue tells → length (files (events_file k)) ≤ covered_size old.line old.end k files) → StaleMore tells files k old new
stale_same tells files k size old new loaded same short = record {
  sizes = λ told. subst (λ (l : List Stale). All (λ s. s.size ≡ covered_size old.line old.end s.file files) l) (sym same) (loaded.sizes told);
  others = λ told j from lt not.
      let before = subst (λ (l : List Stale). Contains (stale_files l) j → ⊥) same not in
      elim (cases_lt j k) [
        | inl earlier ↦ loaded.others told j from earlier before
        | inr here ↦
            let is : j ≡ k = omega (arith, lt, here) in
            subst (λ (i : ℕ). files (events_file i) ≡ covered_bytes old.line old.end i files) (sym is) (sym (take_all (covered_size old.line old.end k files) (files (events_file k)) (short told)))
      ];
}

pub stale_one : (tells : Bool) (files : Files) (k size : ℕ) (old new : Loading) → EventsAreLoaded tells files k old → new.stale.items ≡ old.stale.items ++ record { file = k; size = size } ∷ []
    → (IsTrue tells → size ≡ covered_size old.line old.end k files) → StaleMore tells files k old new
stale_one tells files k size old new loaded more is = record {
  sizes = λ told.
      subst (λ (l : List Stale). All (λ s. s.size ≡ covered_size old.line old.end s.file files) l) (sym more)
      (All-push (λ s. s.size ≡ covered_size old.line old.end s.file files) old.stale.items (record { file = k; size = size }) (loaded.sizes told) (is told));
  others = λ told j from lt not.
      let whole = subst (λ (l : List Stale). Contains (stale_files l) j → ⊥) more not in
      let parted : stale_files (old.stale.items ++ record { file = k; size = size } ∷ []) ≡ stale_files old.stale.items ++ k ∷ [] = map-append (λ (s : Stale). s.file) old.stale.items (record { file = k; size = size } ∷ []) in
      let apart = subst (λ (l : List ℕ). Contains l j → ⊥) parted whole in
      elim (cases_lt j k) [
        | inl earlier ↦ loaded.others told j from earlier (λ has. apart (Contains-append_left (stale_files old.stale.items) (k ∷ []) j has))
        | inr here ↦
            let same : j ≡ k = omega (arith, lt, here) in
            absurd (apart (Contains-append_right (stale_files old.stale.items) (k ∷ []) j (subst (λ (i : ℕ). Contains (k ∷ []) i) (sym same) (contains_here k []))))
      ];
}

-- one file more is read
pub more_loaded : (tells : Bool) (files : Files) (k : ℕ) (old new : Loading) (here : List Event) → EventsAreLoaded tells files k old → IsEventLine old.line old.end
    → old.line / EVENTS_PER_FILE ≤ k → k ≤ old.end / EVENTS_PER_FILE
    → length here ≡ count_in old.line old.end k → AreCounted here old.counts.counts new.counts.counts → length new.counts.counts ≡ 12
    → new.line ≡ old.line → new.end ≡ old.end
    → (IsTrue tells → new.offset ≡ covered_size old.line old.end k files) → (IsTrue tells → events_of_file old.line old.end k files ≡ Ok here) → StaleMore tells files k old new
    → EventsAreLoaded tells files (k + 1) new
more_loaded tells files k old new here loaded of from within many counted long line end offset says stale =
    let all = loaded.events ++ here in
    record {
      events = all;
      long = long;
      counts = counts_are loaded.events here old.counts.counts new.counts.counts long loaded.counts counted;
      many = omega (arith, length-append loaded.events here, loaded.many, many, line, end, from, within, of.whole, of.within);
      says = λ told.
          ap (λ (n : ℕ). events_of_files (k + 1) n new.end 0 files) line ∙ ap (λ (n : ℕ). events_of_files (k + 1) old.line n 0 files) end
          ∙ file_more k old.line old.end files loaded.events here (loaded.says told) (says told);
      offset = λ told j is.
          let same : j ≡ k = omega (arith, is) in
          offset told ∙ ap (λ (i : ℕ). covered_size old.line old.end i files) (sym same) ∙ ap (λ (n : ℕ). covered_size n old.end j files) (sym line) ∙ ap (λ (n : ℕ). covered_size new.line n j files) (sym end);
      sizes = λ told.
          subst (λ (n : ℕ). All (λ s. s.size ≡ covered_size new.line n s.file files) new.stale.items) (sym end)
          (subst (λ (n : ℕ). All (λ s. s.size ≡ covered_size n old.end s.file files) new.stale.items) (sym line) (stale.sizes told));
      others = λ told j start lt not.
          stale.others told j (omega (arith, start, line)) lt not
          ∙ ap (λ (n : ℕ). covered_bytes n old.end j files) (sym line) ∙ ap (λ (n : ℕ). covered_bytes new.line n j files) (sym end);
    }
