-- Where reading events wants memory: at a whole block, behind events that stand.
use Rattle.std.proofs.Common.{◌≡◌, ℕ, ◌+◌, ◌-◌, ◌*◌, ◌/◌, ◌≤◌, ◌<◌, Bool, IsTrue, inl, inr, List, [], ◌++◌, length, take, drop, refl, sym, ap, subst, ◌∙◌, arith}
use Rattle.std.specs.Prelude.{Result, Ok, max}
use Rattle.std.proofs.lemmas.Bool.{cases_lt}
use Rattle.std.proofs.lemmas.List.{drop-drop}
use Rattle.disk_trait.specs.Files.{Files}
use Rattle.disk_trait.specs.declared.damage.Damage.{Damage}
use Rattle.disk_trait.specs.declared.file_name.FileName.{FileName}
use Rattle.flowfile_record.specs.declared.event.Event.{Event}
use Rattle.flowfile_record.specs.declared.limits.TheConstants.{EVENTS_PER_FILE}
use Rattle.prov_store.specs.Events.{◌>>=◌, count_in, first_event, events_file, events_from, events_in, events_of_file, events_of_files, blocks_size, covered_size}
use Rattle.prov_store.specs.Loading.{AreReadEvents, HasWholeBehind, LoadWantsMemory, bytes_there}
use Rattle.prov_store.specs.Reading.{HasWhole}
use Rattle.prov_store.specs.State.{IsEventLine}
use Rattle.prov_store.specs.declared.read.Cursor.{Cursor}
use Rattle.prov_store.proofs.InFiles.{all_files, fewer_of_files, files_behind, with_files}
use Rattle.prov_store.proofs.Loads.{file_read}
use Rattle.record_codec.specs.Block.{reading_of}

-- a whole block stands behind events that are read
pub whole_behind : (tells : Bool) (files : Files) (start : Cursor) (i many : ℕ) (events : List Event) (cursor : Cursor) → AreReadEvents tells files start i events cursor.at
    → cursor ≡ record start { at = cursor.at; number = start.number + i } → i < many → IsTrue tells → HasWhole (reading_of (drop cursor.at (files cursor.file)))
    → HasWholeBehind files start many
whole_behind tells files start i many events cursor read is fewer told whole =
    let size = blocks_size i (bytes_there files start) in
    let file : cursor.file ≡ start.file = ap (λ (c : Cursor). c.file) is in
    let bytes : drop cursor.at (files cursor.file) ≡ drop size (bytes_there files start) =
    ap (λ (f : FileName). drop cursor.at (files f)) file ∙ ap (λ (n : ℕ). drop n (files start.file)) (read.reaches told) ∙ sym (drop-drop size start.at (files start.file)) in
    record { count = i; fewer = fewer; events = events; says = read.says told; whole = subst (λ (l : List ℕ). HasWhole (reading_of l)) bytes whole }

-- the events up to some number, which is in this file or ends it
in_reached : (k reached line last : ℕ) (files : Files) (before here : List Event) → line / EVENTS_PER_FILE ≤ k → reached ≤ last → reached ≤ EVENTS_PER_FILE * k + EVENTS_PER_FILE
    → events_of_files k line last 0 files ≡ Ok before → events_of_file line reached k files ≡ Ok here → (events : List Event) × (events_in files line reached ≡ Ok events)
in_reached k reached line last files before here from le within is one =
    let front = fewer_of_files k line last reached 0 files before is le in
    let place : 0 + k ≡ k = omega arith in
    let back = with_files 0 line reached k files here [] one refl in
    let old = take (reached - max (EVENTS_PER_FILE * 0) line) before in
    let both = files_behind k 1 line reached 0 files old front ∙ ap (λ (i : ℕ). events_of_files 1 line reached i files >>= (λ later. Ok (old ++ later))) place
    ∙ ap (λ (r : Result (List Event) Damage). r >>= (λ later. Ok (old ++ later))) back in
    (old ++ (here ++ []), all_files (k + 1) line reached files (old ++ (here ++ [])) both (omega (arith, within)))

covered_of : (line reached k j : ℕ) (files : Files) → count_in line reached k ≡ j → covered_size line reached k files ≡ blocks_size j (files (events_file k))
unfolding covered_size
covered_of line reached k j files count = ap (λ (n : ℕ). blocks_size n (files (events_file k))) count

module _ (k many line last number : ℕ) (file : FileName) (read files : Files) (before : List Event) (of : IsEventLine line last) (from : line / EVENTS_PER_FILE ≤ k) (fits : many ≤ EVENTS_PER_FILE) (there : EVENTS_PER_FILE * k + many ≤ last)
    (is : events_of_files k line last 0 files ≡ Ok before) (held : read ≡ files) (name : file ≡ events_file k) (first : number ≡ first_event k) where
  named_bytes : read file ≡ files (events_file k)
  named_bytes = ap (λ (f : FileName). read f) name ∙ ap (λ (f : Files). f (events_file k)) held

  -- memory is wanted for a block of a file
  pub wants_next : (size : ℕ) → HasWholeBehind read (record { file = file; size = size; at = 0; number = number }) many → LoadWantsMemory files line last
  wants_next size behind =
      let j = behind.count in
      let reached = EVENTS_PER_FILE * k + j in
      let count : j ≡ count_in line reached k = omega (arith, from, of.whole, behind.fewer, fits) in
      let one = file_read line reached k j number file read files (Ok behind.events) held name count first behind.says in
      let all = in_reached k reached line last files before behind.events from (omega (arith, behind.fewer, there)) (omega (arith, behind.fewer, fits)) is one in
      let next : k ≡ reached / EVENTS_PER_FILE = omega (arith, behind.fewer, fits) in
      let covered = covered_of line reached k j files (sym count) in
      let bytes : drop (blocks_size j (read file)) (read file) ≡ drop (covered_size line reached k files) (files (events_file k)) =
      ap (λ (l : List ℕ). drop (blocks_size j l) l) named_bytes ∙ ap (λ (n : ℕ). drop n (files (events_file k))) (sym covered) in
      let here = bytes ∙ ap (λ (i : ℕ). drop (covered_size line reached i files) (files (events_file i))) next in
      record {
        reached = reached;
        from = omega (arith, from, of.whole);
        to = omega (arith, behind.fewer, there);
        events = all.0;
        says = all.1;
        wants = inl (subst (λ (l : List ℕ). HasWhole (reading_of l)) here behind.whole);
      }

  -- memory is wanted for the list of files that are longer
  pub wants_longer : (here : List Event) → (many < EVENTS_PER_FILE → EVENTS_PER_FILE * k + many ≡ last) → events_from many file 0 number (drop 0 (read file)) ≡ Ok here
      → blocks_size many (read file) < length (read file) → LoadWantsMemory files line last
  wants_longer here ends says longer =
      let reached = EVENTS_PER_FILE * k + many in
      let count : many ≡ count_in line reached k = omega (arith, from, of.whole, fits) in
      let one = file_read line reached k many number file read files (Ok here) held name count first says in
      let all = in_reached k reached line last files before here from there (omega (arith, fits)) is one in
      let covered = covered_of line reached k many files (sym count) in
      let bytes = ap (λ (l : List ℕ). blocks_size many l) named_bytes in
      record {
        reached = reached;
        from = omega (arith, from, of.whole);
        to = there;
        events = all.0;
        says = all.1;
        wants = inr (elim (cases_lt many EVENTS_PER_FILE) [
          | inl part ↦ inr (ends part)
          | inr full ↦ inl (k, (omega (arith, from, of.whole), (omega (arith, full, fits), omega (arith, covered, bytes, longer, ap length named_bytes))))
        ]);
      }
