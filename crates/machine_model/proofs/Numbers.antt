-- Which numbers the files of a finished session have: those that were taken, and then the next ones in a row.
use Rattle.std.proofs.Common.{◌≡◌, ◌⊎◌, inl, inr, ℕ, suc, ◌+◌, ◌<◌, ◌≤◌, Bool, true, false, List, [], ◌∷◌, ◌++◌, map, length, get_or, drop, refl, sym, ap, ◌∙◌, arith}
use Rattle.std.specs.Prelude.{◌==◌, slice_index, zip}
use Rattle.std.specs.List.{range_with_len}
use Rattle.std.proofs.lemmas.List.{drop_more, drop_all, length-map}
use Rattle.std.proofs.lemmas.List.Sums.{sum_by-cons}
use Rattle.std.proofs.lemmas.Bool.{cases_lt}
use Rattle.flowfile_record.specs.declared.worked.Origin.{Origin}
use Rattle.flowfile_record.specs.declared.worked.Origin.TheVariants.{Taken, Created, Received, Forked, Part, Cloned, Joined}
use Rattle.flowfile_record.specs.declared.worked.Worked.{Worked}
use Rattle.machine_model.specs.State.{QueuedFile}
use Rattle.flowfile_record.specs.Outcome.{is_made, StandsInTurn, AreInTurn}
use Rattle.machine_model.specs.Placing.{EndedSession, SettledFile, SettlementClone, settled_file, settled_files, entered_in, numbers_from, number_by, next_behind, count_made, clones_from}
use Rattle.machine_model.proofs.Tally.{bit, many, tally-append, tally-map, tally-zip, run_below, run_past, run_once}
use Rattle.machine_model.proofs.Keyed.{Counted}

-- the file of a place is the taken one of it, or a made one
record StandsAsTaken (place count next : ℕ) (taken : List ℕ) (origin : Origin) : Type 0 where
  number : number_by next taken origin ≡ get_or taken place 0
  behind : next_behind next origin ≡ next
  as_taken : is_made origin ≡ false
  within : place < count

record StandsAsMade (place count next : ℕ) (taken : List ℕ) (origin : Origin) : Type 0 where
  number : number_by next taken origin ≡ next
  behind : next_behind next origin ≡ next + 1
  as_made : is_made origin ≡ true
  past : count ≤ place

abbrev Stands : (place count next : ℕ) (taken : List ℕ) → Origin → Type 0
Stands place count next taken origin = StandsAsTaken place count next taken origin ⊎ StandsAsMade place count next taken origin

stands : (place count next : ℕ) (taken : List ℕ) (origin : Origin) → StandsInTurn place count origin → Stands place count next taken origin
stands place count next taken (Taken of) h = inl (record { number = ap (slice_index taken) h.0; behind = refl; as_taken = refl; within = h.1 })
stands place count next taken Created h = inr (record { number = refl; behind = refl; as_made = refl; past = h })
stands place count next taken Received h = inr (record { number = refl; behind = refl; as_made = refl; past = h })
stands place count next taken (Forked parent) h = inr (record { number = refl; behind = refl; as_made = refl; past = h })
stands place count next taken (Part parent) h = inr (record { number = refl; behind = refl; as_made = refl; past = h })
stands place count next taken (Cloned parent) h = inr (record { number = refl; behind = refl; as_made = refl; past = h })
stands place count next taken (Joined parents) h = inr (record { number = refl; behind = refl; as_made = refl; past = h })

made_of : (file : Worked) (files : List Worked) (b : Bool) → is_made file.origin ≡ b → count_made (file ∷ files) ≡ bit b + count_made files
made_of file files b is = sum_by-cons (λ (f : Worked). bit (is_made f.origin)) file files ∙ ap (λ t. bit t + count_made files) is

after_taken : (number behind made made' next place : ℕ) (taken : List ℕ) (rest : ℕ → List ℕ) → number ≡ get_or taken place 0 → behind ≡ next → made' ≡ made
    → place < length taken → rest next ≡ drop (place + 1) taken ++ range_with_len next made → number ∷ rest behind ≡ drop place taken ++ range_with_len next made'
after_taken number behind made made' next place taken rest p q r l h = rw (p, q, r, drop_more taken place 0 l) (ap (λ xs. get_or taken place 0 ∷ xs) h)

after_made : (number behind made made' next place : ℕ) (taken : List ℕ) (rest : ℕ → List ℕ) → number ≡ next → behind ≡ next + 1 → made' ≡ suc made
    → length taken ≤ place → rest (next + 1) ≡ drop (place + 1) taken ++ range_with_len (next + 1) made → number ∷ rest behind ≡ drop place taken ++ range_with_len next made'
after_made number behind made made' next place taken rest p q r l h =
    let past : length taken ≤ place + 1 = omega arith in
    rw (p, q, r, drop_all place taken l) (ap (λ xs. next ∷ xs) (rw (drop_all (place + 1) taken past) at h))

pub numbers_are : (taken : List ℕ) (next place : ℕ) (files : List Worked) → AreInTurn place (length taken) files
    → numbers_from next taken files ≡ drop place taken ++ range_with_len next (count_made files)
numbers_are taken next place [] h = rw (drop_all place taken h)
numbers_are taken next place (file ∷ files) (turn, parents, rest) =
    elim (stands place (length taken) next taken file.origin turn) [
      | inl s ↦ after_taken (number_by next taken file.origin) (next_behind next file.origin) (count_made files) (count_made (file ∷ files)) next place taken
          (λ n. numbers_from n taken files) s.number s.behind (made_of file files false s.as_taken ∙ omega arith) s.within (numbers_are taken next (place + 1) files rest)
      | inr s ↦ after_made (number_by next taken file.origin) (next_behind next file.origin) (count_made files) (count_made (file ∷ files)) next place taken
          (λ n. numbers_from n taken files) s.number s.behind (made_of file files true s.as_made ∙ omega arith) s.past (numbers_are taken (next + 1) (place + 1) files rest)
    ]

-- ---- files and clones by number

-- each number is that of one of the files at most, and none is higher than those of the made files
pub record AreFilesBelow (next : ℕ) (files : List SettledFile) : Type 0 where
  pub once : (n : ℕ) → many (λ (file : SettledFile). file.number) n files ≤ 1
  pub none : (n : ℕ) → next ≤ n → many (λ (file : SettledFile). file.number) n files ≡ 0
  pub some : many (λ (file : SettledFile). file.number) 0 files ≡ 0

finished-le : (session : EndedSession) (files : List Worked) (n : ℕ) → many (λ (file : SettledFile). file.number) n (settled_files session files)
    ≤ many (λ (m : ℕ). m) n (numbers_from session.state.next_number (map (λ file. file.number) session.taken) files)
finished-le session files n =
    let numbers = numbers_from session.state.next_number (map (λ file. file.number) session.taken) files in
    let entered = entered_in session.given.moment (map (λ file. file.entered) session.taken) files in
    omega (
      arith,
      tally-map (λ (file : SettledFile). bit (file.number == n)) (λ f. settled_file session (f.0, f.1.0, f.1.1)) (zip numbers (zip entered files)),
      tally-zip (λ (m : ℕ). bit (m == n)) numbers (zip entered files),
    )

pub finished-below : (session : EndedSession) (files : List Worked) → AreInTurn 0 (length session.taken) files
    → Counted (λ (file : QueuedFile). file.number) session.state.next_number session.taken
    → AreFilesBelow (session.state.next_number + count_made files) (settled_files session files)
finished-below session files outcome taken = record {
  once = λ n. elim (cases_lt n next) [
    | inl lt ↦ omega (arith, each n, taken.once n, run_below next (count_made files) n lt)
    | inr ge ↦ omega (arith, each n, taken.none n ge, run_once next (count_made files) n)
  ];
  none = λ n le. omega (arith, each n, taken.none n (omega arith), run_past next (count_made files) n le);
  some = omega (arith, each 0, taken.some, run_below next (count_made files) 0 taken.first);
}
  where
    next : ℕ
    next = session.state.next_number

    own : List ℕ
    own = map (λ file. file.number) session.taken

    parts : numbers_from next own files ≡ own ++ range_with_len next (count_made files)
    parts = numbers_are own next 0 files (rw (length-map session.taken (λ (file : QueuedFile). file.number)) outcome)

    each : (n : ℕ) → many (λ (file : SettledFile). file.number) n (settled_files session files)
        ≤ many (λ (file : QueuedFile). file.number) n session.taken + many (λ (m : ℕ). m) n (range_with_len next (count_made files))
    each n = omega (
      arith,
      finished-le session files n,
      ap (many (λ (m : ℕ). m) n) parts,
      tally-append (λ (m : ℕ). bit (m == n)) own (range_with_len next (count_made files)),
      tally-map (λ (m : ℕ). bit (m == n)) (λ (file : QueuedFile). file.number) session.taken,
    )

clone_numbers : (k : ℕ) (wanted : List (SettledFile × ℕ)) → map (λ clone. clone.number) (clones_from k wanted) ≡ range_with_len k (length wanted)
clone_numbers k [] = refl
clone_numbers k (clone ∷ wanted) = ap (λ numbers. k ∷ numbers) (clone_numbers (k + 1) wanted)

length-clones : (k : ℕ) (wanted : List (SettledFile × ℕ)) → length (clones_from k wanted) ≡ length wanted
length-clones k [] = refl
length-clones k (clone ∷ wanted) = ap suc (length-clones (k + 1) wanted)

abbrev pub CloneCount : (first last : ℕ) → List SettlementClone → ℕ → Type 0
CloneCount first last clones n = (many (λ (clone : SettlementClone). clone.number) n clones ≤ 1)
    × (n < first → many (λ (clone : SettlementClone). clone.number) n clones ≡ 0)
    × (last ≤ n → many (λ (clone : SettlementClone). clone.number) n clones ≡ 0)

pub clones-counted : (k : ℕ) (wanted : List (SettledFile × ℕ)) (n : ℕ) → CloneCount k (k + length (clones_from k wanted)) (clones_from k wanted) n
clones-counted k wanted n =
    let same : many (λ (clone : SettlementClone). clone.number) n (clones_from k wanted) ≡ many (λ (m : ℕ). m) n (range_with_len k (length wanted))
    = sym (tally-map (λ (m : ℕ). bit (m == n)) (λ (clone : SettlementClone). clone.number) (clones_from k wanted)) ∙ ap (many (λ (m : ℕ). m) n) (clone_numbers k wanted) in
    (omega (arith, same, run_once k (length wanted) n), λ h. same ∙ run_below k (length wanted) n h, λ h. same ∙ run_past k (length wanted) n (omega (arith, length-clones k wanted)))
