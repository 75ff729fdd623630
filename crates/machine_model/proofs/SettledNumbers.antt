-- That no two files have one number behind a session: a taken file stays, goes on or is gone, and the numbers of made
-- files and of clones are new.
use Rattle.std.proofs.Common.{◌≡◌, ◌≢◌, inl, inr, ℕ, ◌+◌, ◌≤◌, Bool, true, false, cond, List, [], ◌∷◌, map, refl, sym, ap, ◌∙◌, arith}
use Rattle.std.specs.Prelude.{◌==◌, Option, Some, None, find}
use Rattle.std.specs.List.{flat_map}
use Rattle.std.proofs.lemmas.Bool.{cases_eq, cases_lt, ne_eqb, eq-eqb, eqb-true}
use Rattle.machine_model.specs.State.{QueuedFile}
use Rattle.machine_model.specs.Placing.{SettledFile, SettlementClone, Destination, Queues, Returns, Drops, Leaves}
use Rattle.machine_model.specs.Settling.{Newcomer, newcomer, newcomers, in_queue, staying_as}
use Rattle.machine_model.proofs.Tally.{tally, bit, many, at_most, tally-append, tally-map, tally-flat_map, tally-le, tally-same, none_passes, one_passes, Each, find-passes}
use Rattle.machine_model.proofs.Keyed.{Counted}
use Rattle.machine_model.proofs.Numbers.{AreFilesBelow, CloneCount}
use Rattle.machine_model.proofs.Settled.{placed, stayed, queues_after, after-le, IsSteady, newcomers-steady}

abbrev number_of : QueuedFile → ℕ
number_of file = file.number

-- 1 where the file goes to a queue, and where it stays in its own
abbrev joins : Destination → ℕ
joins (Queues first others) = 1
joins _ = 0

abbrev stays : Destination → ℕ
stays Returns = 1
stays _ = 0

-- the same of the file that has a number after the session, if one has: else what is queued stays
abbrev joins_if : Option SettledFile → ℕ
joins_if None = 0
joins_if (Some file) = joins file.goes

abbrev stays_if : Option SettledFile → ℕ
stays_if None = 1
stays_if (Some file) = stays file.goes

one_way : (goes : Destination) → stays goes + joins goes ≤ 1
one_way (Queues first others) = omega arith
one_way Returns = omega arith
one_way (Drops relationship) = omega arith
one_way Leaves = omega arith

one_way_if : (found : Option SettledFile) → stays_if found + joins_if found ≤ 1
one_way_if None = omega arith
one_way_if (Some file) = one_way file.goes

-- ---- the file of a number in its queue

stays_with : (n : ℕ) (queued : QueuedFile) (found : Option SettledFile) → many number_of n (staying_as queued found) ≤ stays_if found
stays_with n queued None = omega (arith, at_most (queued.number == n) 1)
stays_with n queued (Some file) = by_goal file.goes refl
  where
    by_goal : (goes : Destination) → file.goes ≡ goes → many number_of n (staying_as queued (Some file)) ≤ stays file.goes
    by_goal (Queues first others) is = rw is (omega arith)
    by_goal Returns is = rw is (omega (arith, at_most (file.number == n) 1))
    by_goal (Drops relationship) is = rw is (omega arith)
    by_goal Leaves is = rw is (omega arith)

-- one of another number leaves none of this number
stays_other : (n : ℕ) (queued : QueuedFile) (found : Option SettledFile) → queued.number ≢ n → ((file : SettledFile) → found ≡ Some file → file.number ≢ n) → many number_of n (staying_as queued found) ≡ 0
stays_other n queued None ne others = let no : (queued.number == n) ≡ false = ne_eqb queued.number n ne in rw no
stays_other n queued (Some file) ne others = by_goal file.goes refl
  where
    by_goal : (goes : Destination) → file.goes ≡ goes → many number_of n (staying_as queued (Some file)) ≡ 0
    by_goal (Queues first others) is = rw is refl
    by_goal Returns is = let no : (file.number == n) ≡ false = ne_eqb file.number n (others file refl) in rw (is, no) refl
    by_goal (Drops relationship) is = rw is refl
    by_goal Leaves is = rw is refl

abbrev of_number : ℕ → SettledFile → Bool
of_number n file = file.number == n

stays_of : (files : List SettledFile) (n : ℕ) (queued : QueuedFile) → many number_of n (stayed files queued) ≤ cond (queued.number == n) (stays_if (find (of_number n) files)) 0
stays_of files n queued =
    elim (cases_eq queued.number n) [
      | inl e ↦ let yes : (queued.number == n) ≡ true = eq-eqb queued.number n e in
          rw yes (omega (arith, stays_with n queued (find (of_number queued.number) files), ap (λ m. stays_if (find (of_number m) files)) e))
      | inr ne ↦ let no : (queued.number == n) ≡ false = ne_eqb queued.number n ne in
          rw no (omega (
            arith,
            stays_other n queued (find (of_number queued.number) files) ne
                (λ file found e. ne (sym (eqb-true file.number queued.number (find-passes (of_number queued.number) files file found)) ∙ e)),
          ))
    ]

-- all that stays of a number
stays-le : (files : List SettledFile) (n : ℕ) (old : List QueuedFile) → many number_of n old ≤ 1 → tally (λ queued. many number_of n (stayed files queued)) old ≤ stays_if (find (of_number n) files)
stays-le files n old once =
    let found = find (of_number n) files in
    omega (arith, tally-le _ (λ queued. cond (queued.number == n) (stays_if found) 0) (stays_of files n) old, one_passes (λ queued. queued.number == n) (stays_if found) old once)

-- nothing stays of a number that none had
none_stays : (files : List SettledFile) (n : ℕ) (old : List QueuedFile) → many number_of n old ≡ 0 → tally (λ queued. many number_of n (stayed files queued)) old ≡ 0
none_stays files n old none =
    let found = find (of_number n) files in
    omega (arith, tally-le _ (λ queued. cond (queued.number == n) (stays_if found) 0) (stays_of files n) old, none_passes (λ queued. queued.number == n) (λ _. stays_if found) old none)

-- ---- the files of a number among the newcomers

placed-numbers : (n arrival : ℕ) (coming : List Newcomer) → Each IsSteady coming → many number_of n (placed arrival coming) ≡ tally (λ newcomer. bit ((newcomer.1 0).number == n)) coming
placed-numbers n arrival [] steady = refl
placed-numbers n arrival (newcomer ∷ rest) steady =
    omega (arith, ap (λ m. bit (m == n)) (steady.0.number arrival), placed-numbers n (arrival + 1) rest steady.1)

abbrev coming_of : ℕ → SettledFile → ℕ
coming_of n file = cond (file.number == n) (joins file.goes) 0

nothing : (b : Bool) → ◌≡◌ {A = ℕ} (cond b 0 0) 0
nothing true = refl
nothing false = refl

newcomer-number : (n : ℕ) (file : SettledFile) (goes : Destination) → tally (λ newcomer. bit ((newcomer.1 0).number == n)) (newcomer file goes) ≡ cond (file.number == n) (joins goes) 0
newcomer-number n file (Queues first others) = omega arith
newcomer-number n file Returns = sym (nothing (file.number == n))
newcomer-number n file (Drops relationship) = sym (nothing (file.number == n))
newcomer-number n file Leaves = sym (nothing (file.number == n))

newcomers-numbers : (n arrival : ℕ) (files : List SettledFile) (clones : List SettlementClone)
    → many number_of n (placed arrival (newcomers files clones)) ≡ tally (coming_of n) files + many (λ (clone : SettlementClone). clone.number) n clones
newcomers-numbers n arrival files clones =
    let w = λ (newcomer : Newcomer). bit ((newcomer.1 0).number == n) in
    let from_file = λ (file : SettledFile). newcomer file file.goes in
    let from_clone : SettlementClone → Newcomer = λ clone. (clone.connection, in_queue clone.original clone.number) in
    omega (
      arith,
      placed-numbers n arrival (newcomers files clones) (newcomers-steady files clones),
      tally-append w (flat_map from_file files) (map from_clone clones),
      tally-flat_map w from_file files,
      tally-map w from_clone clones,
      tally-same (λ file. tally w (from_file file)) (coming_of n) (λ file. newcomer-number n file file.goes) files,
    )

coming-found : (n : ℕ) (files : List SettledFile) → many (λ (file : SettledFile). file.number) n files ≤ 1 → tally (coming_of n) files ≡ joins_if (find (of_number n) files)
coming-found n [] once = refl
coming-found n (file ∷ files) once =
    elim (file.number == n) as (λ b. bit b + many (λ (file : SettledFile). file.number) n files ≤ 1
    → cond b (joins file.goes) 0 + tally (coming_of n) files ≡ joins_if (cond b (Some file) (find (of_number n) files))) [
      | true ↦ λ once. omega (arith, none_passes (of_number n) (λ file. joins file.goes) files (omega arith))
      | false ↦ λ once. omega (arith, coming-found n files (omega arith))
    ] once

none_comes : (n : ℕ) (files : List SettledFile) → many (λ (file : SettledFile). file.number) n files ≡ 0 → tally (coming_of n) files ≡ 0
none_comes n files none = none_passes (of_number n) (λ file. joins file.goes) files none

-- ---- all files of a number

pub numbers-after : (files : List SettledFile) (clones : List SettlementClone) (arrival first next last : ℕ) (queues : List (List QueuedFile))
    → next ≤ first → AreFilesBelow first files → ((n : ℕ) → CloneCount first last clones n) → Counted number_of next (flat_map (λ queue. queue) queues)
    → first ≤ last → Counted number_of last (flat_map (λ queue. queue) (queues_after files (newcomers files clones) arrival queues))
numbers-after files clones arrival first next last queues le worked cloned before further = record {
  once = λ n. elim (cases_lt n first) [
    | inl lt ↦ omega (arith, sum n, stays-le files n old (before.once n), coming-found n files (worked.once n), one_way_if (find (of_number n) files), (cloned n).1 lt)
    | inr ge ↦ omega (arith, sum n, none_stays files n old (before.none n (omega arith)), none_comes n files (worked.none n ge), (cloned n).0)
  ];
  none = λ n ge. omega (arith, sum n, none_stays files n old (before.none n (omega arith)), none_comes n files (worked.none n (omega arith)), (cloned n).2 ge);
  first = omega (arith, before.first);
  some = omega (arith, sum 0, none_stays files 0 old before.some, none_comes 0 files worked.some, (cloned 0).1 (omega (arith, before.first)));
}
  where
    old : List QueuedFile
    old = flat_map (λ queue. queue) queues

    sum : (n : ℕ) → many number_of n (flat_map (λ queue. queue) (queues_after files (newcomers files clones) arrival queues))
        ≤ tally (λ queued. many number_of n (stayed files queued)) old + (tally (coming_of n) files + many (λ (clone : SettlementClone). clone.number) n clones)
    sum n = omega (arith, after-le (λ file. bit (file.number == n)) files (newcomers files clones) arrival queues, newcomers-numbers n arrival files clones)
