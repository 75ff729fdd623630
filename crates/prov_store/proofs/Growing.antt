-- Files of events grow behind the last event.
use Rattle.std.proofs.Common.{◌≡◌, ◌≢◌, ◌⊎◌, inl, inr, ℕ, suc, ◌+◌, ◌/◌, ◌%◌, ◌≤◌, ◌<◌, true, false, List, [], ◌++◌, length, take, drop, refl, sym, ap, subst, ◌∙◌, append_assoc, arith}
use Rattle.std.specs.Prelude.{Ok, Result, All, ◌==◌}
use Rattle.std.proofs.lemmas.Bool.{cases_lt, cases_eq}
use Rattle.std.proofs.lemmas.Bool.Decides.{nat_tests}
use Rattle.std.proofs.lemmas.List.{length-append, length-take, take_all, drop_all, append-nil, take-take, take_at, drop_at}
use Rattle.disk_trait.specs.Files.{Files, At, Overwritten, Torn}
use Rattle.disk_trait.specs.Images.{After, Since}
use Rattle.disk_trait.proofs.Moments.{step_after_step}
use Rattle.disk_trait.specs.declared.damage.Damage.{Damage}
use Rattle.disk_trait.specs.declared.file_name.FileName.{FileName}
use Rattle.flowfile_record.specs.declared.event.Event.{Event}
use Rattle.prov_store.specs.Blocks.{blocks_of, next_offset}
use Rattle.prov_store.specs.Events.{◌>>=◌, events_file, count_in, first_event, events_from, events_of_file, events_of_files, events_in, blocks_size, covered_size, covered_bytes}
use Rattle.prov_store.specs.Growing.{Stands}
use Rattle.prov_store.specs.State.{EventsState, HasBlock, AreNumberedFrom, IsEventLine, IsTrimmed, GrowsBehind}
use Rattle.flowfile_record.specs.declared.limits.TheConstants.{EVENTS_PER_FILE}
use Rattle.prov_store.proofs.Encoded.{events_read_back}
use Rattle.prov_store.proofs.InFile.{events_same, events_behind, sizes_behind}
use Rattle.prov_store.proofs.InFiles.{covered_alike, in_files, file_of_events, covered_fits, no_bytes, no_size, split_files, files_same, files_behind, with_files, all_files, first_file}

-- ---- the file that grows

-- its bytes end where the next event goes
pub ends_there : (line last offset : ℕ) (files : Files) (events : List Event) → Stands line last offset files events → length (files (events_file (last / EVENTS_PER_FILE))) ≡ offset
ends_there line last offset files events stands =
    let k = last / EVENTS_PER_FILE in
    let here = file_of_events line last k files events stands.says (omega arith) in
    let fits = covered_fits line last k files here.0 here.1 in
    omega (arith, fits, stands.next, ap length (stands.trimmed k), length-take (covered_size line last k files) (files (events_file k)))

written_behind : (offset : ℕ) (bytes old new : List ℕ) → length old ≡ offset → Overwritten offset bytes old new → new ≡ old ++ bytes
written_behind offset bytes old new long written =
    written ∙ ap (λ (l : List ℕ). l ++ bytes ++ drop (offset + length bytes) old) (take_all offset old (omega (arith, long)))
    ∙ ap (λ (l : List ℕ). old ++ bytes ++ l) (drop_all (offset + length bytes) old (omega (arith, long))) ∙ append-nil (old ++ bytes)

-- its events, with more behind them
pub record Grown (count more : ℕ) (file : FileName) (number : ℕ) (old bytes : List ℕ) (here added : List Event) : Type 0 where
  pub says : events_from (count + more) file 0 number (old ++ bytes) ≡ Ok (here ++ added)
  pub size : blocks_size (count + more) (old ++ bytes) ≡ length old + length bytes

grown_file : (count : ℕ) (file : FileName) (number : ℕ) (old : List ℕ) (here added : List Event) → events_from count file 0 number old ≡ Ok here
    → blocks_size count old ≡ length old → All HasBlock added → AreNumberedFrom (number + count) added
    → Grown count (length added) file number old (blocks_of added) here added
grown_file count file number old here added is long have numbered =
    let bytes = blocks_of added in
    let s = blocks_size count old in
    let front : take s (old ++ bytes) ≡ take s old = take_at old bytes s (sym long) ∙ sym (take_all s old (omega (arith, long))) in
    let same = events_same count file 0 number old (old ++ bytes) here is front in
    let place : 0 + blocks_size count (old ++ bytes) ≡ s = omega (arith, same.1) in
    let rest : drop (blocks_size count (old ++ bytes)) (old ++ bytes) ≡ bytes ++ [] =
    drop_at old bytes (blocks_size count (old ++ bytes)) (sym (same.1 ∙ long)) ∙ sym (append-nil bytes) in
    let back = events_read_back file s (number + count) added [] have numbered in
    let behind = events_behind count (length added) file 0 number (old ++ bytes) here same.0 in
    let sizes = sizes_behind count (length added) file 0 number (old ++ bytes) here same.0 in
    record {
      says = behind
          ∙ ap (λ (i : ℕ). events_from (length added) file i (number + count) (drop (blocks_size count (old ++ bytes)) (old ++ bytes)) >>= (λ later. Ok (here ++ later))) place
          ∙ ap (λ (l : List ℕ). events_from (length added) file s (number + count) l >>= (λ later. Ok (here ++ later))) rest
          ∙ ap (λ (r : Result (List Event) Damage). r >>= (λ later. Ok (here ++ later))) back.says;
      size = omega (arith, sizes, same.1, long, ap (blocks_size (length added)) rest, back.size);
    }

-- ---- all files

module _ (line last offset : ℕ) (old new : Files) (before added : List Event) (of : IsEventLine line last) (stands : Stands line last offset old before) (fits : last % EVENTS_PER_FILE + length added ≤ EVENTS_PER_FILE)
    (have : All HasBlock added) (numbered : AreNumberedFrom (last + 1) added) (at : At (events_file (last / EVENTS_PER_FILE)) (Overwritten offset (blocks_of added)) old new) where
  -- the same events stand before the file that grows
  counts_alike : (j : ℕ) → j < last / EVENTS_PER_FILE → count_in line (last + length added) j ≡ count_in line last j
  counts_alike j lt = omega (arith, lt)

  others_alike : (j : ℕ) → j ≢ last / EVENTS_PER_FILE → new (events_file j) ≡ old (events_file j)
  others_alike j other = at.others (events_file j) (λ same. other (ap (λ (f : FileName). f.number) same))

  earlier_alike : (j : ℕ) (here : List Event) → j < last / EVENTS_PER_FILE → events_of_file line last j old ≡ Ok here → events_of_file line (last + length added) j new ≡ Ok here
  earlier_alike j here lt is =
      ap (λ (n : ℕ). events_from n (events_file j) 0 (first_event j) (new (events_file j))) (counts_alike j lt)
      ∙ ap (events_from (count_in line last j) (events_file j) 0 (first_event j)) (others_alike j (λ same. absurd (omega (arith, lt, same)))) ∙ is

  here_counts : count_in line (last + length added) (last / EVENTS_PER_FILE) ≡ count_in line last (last / EVENTS_PER_FILE) + length added
  here_counts = omega (arith, fits, of.whole, of.within)

  here_bytes : new (events_file (last / EVENTS_PER_FILE)) ≡ old (events_file (last / EVENTS_PER_FILE)) ++ blocks_of added
  here_bytes = written_behind offset (blocks_of added) (old (events_file (last / EVENTS_PER_FILE))) (new (events_file (last / EVENTS_PER_FILE))) (ends_there line last offset old before stands) at.here

  old_size : blocks_size (count_in line last (last / EVENTS_PER_FILE)) (old (events_file (last / EVENTS_PER_FILE))) ≡ length (old (events_file (last / EVENTS_PER_FILE)))
  unfolding covered_size
  old_size = omega (arith, ends_there line last offset old before stands, stands.next)

  grown_here : (here : List Event) → events_of_file line last (last / EVENTS_PER_FILE) old ≡ Ok here
      → Grown (count_in line last (last / EVENTS_PER_FILE)) (length added) (events_file (last / EVENTS_PER_FILE)) (first_event (last / EVENTS_PER_FILE)) (old (events_file (last / EVENTS_PER_FILE))) (blocks_of added) here added
  grown_here here is =
      let k = last / EVENTS_PER_FILE in
      let next : last + 1 ≡ first_event k + count_in line last k = omega (arith, of.whole, of.within) in
      grown_file (count_in line last k) (events_file k) (first_event k) (old (events_file k)) here added is old_size have
      (subst (λ (n : ℕ). AreNumberedFrom n added) next numbered)

  here_says : (here : List Event) → events_of_file line last (last / EVENTS_PER_FILE) old ≡ Ok here → events_of_file line (last + length added) (last / EVENTS_PER_FILE) new ≡ Ok (here ++ added)
  here_says here is =
      let k = last / EVENTS_PER_FILE in
      ap (λ (n : ℕ). events_from n (events_file k) 0 (first_event k) (new (events_file k))) here_counts
      ∙ ap (events_from (count_in line last k + length added) (events_file k) 0 (first_event k)) here_bytes ∙ (grown_here here is).says

  here_size : covered_size line (last + length added) (last / EVENTS_PER_FILE) new ≡ offset + length (blocks_of added)
  unfolding covered_size
  here_size =
      let k = last / EVENTS_PER_FILE in
      let here = file_of_events line last k old before stands.says (omega arith) in
      let size = ap (λ (n : ℕ). blocks_size n (new (events_file k))) here_counts ∙ ap (blocks_size (count_in line last k + length added)) here_bytes ∙ (grown_here here.0 here.1).size in
      omega (arith, size, ends_there line last offset old before stands)

  all_say : events_in new line (last + length added) ≡ Ok (before ++ added)
  all_say =
      let k = last / EVENTS_PER_FILE in
      let one_more : suc k ≡ k + 1 = omega arith in
      let place : 0 + k ≡ k = omega arith in
      let all = ap (λ (n : ℕ). events_of_files n line last 0 old) (sym one_more) ∙ sym (in_files line last old) ∙ stands.says in
      let s = split_files k 1 line last 0 old before all in
      let f = first_file 0 line last k old s.back (ap (λ (j : ℕ). events_of_files 1 line last j old) (sym place) ∙ s.behind) in
      let none : f.later ≡ [] = cc f.behind in
      let earlier = files_same k line last line (last + length added) 0 old new s.front s.first (λ j here le lt is. earlier_alike j here (omega (arith, lt)) is) in
      let behind : events_of_files 1 line (last + length added) k new ≡ Ok ((f.here ++ added) ++ []) = with_files 0 line (last + length added) k new (f.here ++ added) [] (here_says f.here f.first) refl in
      let back : s.back ≡ f.here = f.both ∙ ap (λ (l : List Event). f.here ++ l) none ∙ append-nil f.here in
      all_files (suc k) line (last + length added) new (before ++ added)
      (ap (λ (n : ℕ). events_of_files n line (last + length added) 0 new) one_more ∙ files_behind k 1 line (last + length added) 0 new s.front earlier
      ∙ ap (λ (j : ℕ). events_of_files 1 line (last + length added) j new >>= (λ later. Ok (s.front ++ later))) place
      ∙ ap (λ (r : Result (List Event) Damage). r >>= (λ later. Ok (s.front ++ later))) behind
      ∙ ap (λ (l : List Event). Ok (s.front ++ l)) (append-nil (f.here ++ added))
      ∙ ap Ok (sym (append_assoc s.front f.here added) ∙ ap (λ (l : List Event). (s.front ++ l) ++ added) (sym back) ∙ ap (λ (l : List Event). l ++ added) (sym s.both)))
      (omega (arith, fits))

  -- nothing stands behind them
  all_trimmed : IsTrimmed line (last + length added) new
  all_trimmed j = elim (cases_lt j (last / EVENTS_PER_FILE)) [
    | inl earlier ↦
        let stays = others_alike j (λ same. absurd (omega (arith, earlier, same))) in
        stays ∙ stands.trimmed j ∙ sym (covered_alike line last line (last + length added) j old new (counts_alike j earlier) stays)
    | inr from ↦ elim (cases_eq j (last / EVENTS_PER_FILE)) [
      | inl here ↦ subst (λ (i : ℕ). new (events_file i) ≡ covered_bytes line (last + length added) i new) (sym here) here_trimmed
      | inr other ↦
          let past : count_in line last j ≡ 0 = omega (arith, from, other) in
          let past_now : count_in line (last + length added) j ≡ 0 = omega (arith, from, other, fits) in
          others_alike j other ∙ stands.trimmed j ∙ no_bytes line last j old past ∙ sym (no_bytes line (last + length added) j new past_now)
    ]
  ]
    where
      here_trimmed : new (events_file (last / EVENTS_PER_FILE)) ≡ covered_bytes line (last + length added) (last / EVENTS_PER_FILE) new
      here_trimmed =
          let bytes = new (events_file (last / EVENTS_PER_FILE)) in
          let long : length bytes ≡ offset + length (blocks_of added) =
          ap length here_bytes ∙ length-append (old (events_file (last / EVENTS_PER_FILE))) (blocks_of added) ∙ ap (λ (n : ℕ). n + length (blocks_of added)) (ends_there line last offset old before stands) in
          sym (take_all (covered_size line (last + length added) (last / EVENTS_PER_FILE) new) bytes (omega (arith, long, here_size)))

  next_is : next_offset (last + length added) (offset + length (blocks_of added)) ≡ covered_size line (last + length added) ((last + length added) / EVENTS_PER_FILE) new
  next_is = elim (cases_eq ((last + length added) % EVENTS_PER_FILE) 0) [
    | inl full ↦
        let test : ((last + length added) % EVENTS_PER_FILE == 0) ≡ true = grind (arith, nat_tests, full) in
        rw test (sym (no_size line (last + length added) ((last + length added) / EVENTS_PER_FILE) new (omega (arith, full))))
    | inr some ↦
        let test : ((last + length added) % EVENTS_PER_FILE == 0) ≡ false = grind (arith, nat_tests, some) in
        let same : (last + length added) / EVENTS_PER_FILE ≡ last / EVENTS_PER_FILE = omega (arith, some, fits) in
        rw test (sym here_size ∙ ap (λ (k : ℕ). covered_size line (last + length added) k new) (sym same))
  ]

  pub grown : Stands line (last + length added) (next_offset (last + length added) (offset + length (blocks_of added))) new (before ++ added)
  grown = record { says = all_say; next = next_is; trimmed = all_trimmed }

-- ---- what may be left

module _ (state : EventsState) where
  other_name : (j k : ℕ) → j ≢ k → events_file j ≢ events_file k
  other_name j k other same = other (ap (λ (f : FileName). f.number) same)

  -- one write more, behind the last event that is known
  pub grows_on : (k at size : ℕ) (d e c : Files) → state.end / EVENTS_PER_FILE ≤ k → (k ≡ state.end / EVENTS_PER_FILE → state.offset ≤ at)
      → GrowsBehind state d e → At (events_file k) (Torn at size) e c → GrowsBehind state d c
  grows_on k at size d e c late behind grows one = record {
    others = λ f other. one.others f (λ same. other (ap (λ (g : FileName). g.kind) same)) ∙ grows.others f other;
    earlier = λ j lt. one.others (events_file j) (other_name j k (λ same. absurd (omega (arith, lt, late, same)))) ∙ grows.earlier j lt;
    front = front (cases_eq k (state.end / EVENTS_PER_FILE)) ∙ grows.front;
    no_shorter = λ j. omega (arith, grows.no_shorter j, longer j (cases_eq j k));
  }
    where
      front : (k ≡ state.end / EVENTS_PER_FILE) ⊎ (k ≡ state.end / EVENTS_PER_FILE → ⊥)
          → take state.offset (c (events_file (state.end / EVENTS_PER_FILE))) ≡ take state.offset (e (events_file (state.end / EVENTS_PER_FILE)))
      front (inl here) =
          subst (λ (j : ℕ). take state.offset (c (events_file j)) ≡ take state.offset (e (events_file j))) here
          (sym (take-take state.offset at (c (events_file k)) (behind here)) ∙ ap (take state.offset) one.here.front ∙ take-take state.offset at (e (events_file k)) (behind here))
      front (inr other) = ap (take state.offset) (one.others (events_file (state.end / EVENTS_PER_FILE)) (other_name (state.end / EVENTS_PER_FILE) k (λ same. other (sym same))))

      longer : (j : ℕ) → (j ≡ k) ⊎ (j ≡ k → ⊥) → length (e (events_file j)) ≤ length (c (events_file j))
      longer j (inl here) = subst (λ (i : ℕ). length (e (events_file i)) ≤ length (c (events_file i))) (sym here) one.here.no_shorter
      longer j (inr other) = omega (arith, ap length (one.others (events_file j) (other_name j k other)))

  pub grows_nothing : (d : Files) → GrowsBehind state d d
  grows_nothing d = record { others = λ f other. refl; earlier = λ j lt. refl; front = refl; no_shorter = λ j. omega arith }

  pub grows_left : {D : Type 0} (moment : D → ℕ) (images : D → ℕ → Files → Type 0) (k at size : ℕ) (old mid new : D) → state.end / EVENTS_PER_FILE ≤ k
      → (k ≡ state.end / EVENTS_PER_FILE → state.offset ≤ at)
      → Since moment images old mid (After (GrowsBehind state) (images old (moment old)))
      → Since moment images mid new (After (At (events_file k) (Torn at size)) (images mid (moment mid)))
      → Since moment images old new (After (GrowsBehind state) (images old (moment old)))
  grows_left moment images k at size old mid new late behind first second =
      step_after_step moment images old mid new (GrowsBehind state) (At (events_file k) (Torn at size)) (GrowsBehind state) (images old (moment old)) first second
      (λ d c r. r) (λ d e c r one. grows_on k at size d e c late behind r one)
