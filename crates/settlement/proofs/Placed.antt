-- What is placed one after the other, as one list.
use Rattle.std.proofs.Common.{◌≡◌, ℕ, suc, ◌+◌, ◌<◌, ◌≤◌, List, [], ◌∷◌, ◌++◌, length, get_or, drop, refl, sym, ap, ◌∙◌, arith, append_assoc, append-nil, length-append}
use Rattle.std.proofs.lemmas.List.Concat.{flat_map-append}
use Rattle.flowfile_record.specs.declared.stored.Placed.{Placed}
use Rattle.settlement.specs.Placing.{EndedNewcomer, PlacingFrom, arrived, cloned_from, clones_of, first_newcomer, firsts, further, placed_at, placed_from, returned, returning, wanted}
use Rattle.settlement.specs.declared.file.EndedFile.{EndedFile}
use Rattle.settlement.specs.declared.file.Goes.{Goes}
use Rattle.settlement.specs.declared.file.Goes.TheVariants.{Queues, Returns, Drops, Leaves}
use Rattle.settlement.proofs.Steps.{left, length_wanted_one, wanted_left}

pub placed-append : (arrival : ℕ) (xs ys : List EndedNewcomer) → placed_from arrival (xs ++ ys) ≡ placed_from arrival xs ++ placed_from (arrival + length xs) ys
placed-append arrival [] ys = ap (λ n. placed_from n ys) (omega arith)
placed-append arrival (x ∷ xs) ys =
    let moved : arrival + 1 + length xs ≡ arrival + suc (length xs) = omega arith in
    ap (λ rest. placed_at arrival x ∷ rest) (placed-append (arrival + 1) xs ys ∙ ap (λ n. placed_from (arrival + 1) xs ++ placed_from n ys) moved)

pub length-placed : (arrival : ℕ) (xs : List EndedNewcomer) → length (placed_from arrival xs) ≡ length xs
length-placed arrival [] = refl
length-placed arrival (x ∷ xs) = ap suc (length-placed (arrival + 1) xs)

pub length-clones_of : (place number arrival : ℕ) (file : EndedFile) (connections : List ℕ) → length (clones_of place number arrival file connections) ≡ length connections
length-clones_of place number arrival file [] = refl
length-clones_of place number arrival file (connection ∷ connections) = ap suc (length-clones_of place (number + 1) (arrival + 1) file connections)

-- what a step over the clones of one more file leaves
pub clones_step : (place next number arrival : ℕ) (old new whole : List Placed) (files : List EndedFile) (i : ℕ) (file : EndedFile) → i < length files → file ≡ get_or files i file
    → next ≡ place + length (first_newcomer file file.goes)
    → new ≡ old ++ clones_of place (number + length old) (arrival + length old) file (further file.goes)
    → old ++ cloned_from place (number + length old) (arrival + length old) (drop i files) ≡ whole
    → new ++ cloned_from next (number + length new) (arrival + length new) (drop (i + 1) files) ≡ whole
clones_step place next number arrival old new whole files i file h is next_is added before =
    let rest = drop (i + 1) files in
    let count = length (further file.goes) in
    let later = place + length (first_newcomer file file.goes) in
    let more = clones_of place (number + length old) (arrival + length old) file (further file.goes) in
    let long : length new ≡ length old + count
    = ap length added ∙ length-append old more ∙ ap (λ n. length old + n) (length-clones_of place (number + length old) (arrival + length old) file (further file.goes)) in
    let numbers : number + length new ≡ number + length old + count = omega arith in
    let arrivals : arrival + length new ≡ arrival + length old + count = omega arith in
    (λ j. added j ++ cloned_from (next_is j) (numbers j) (arrivals j) rest)
    ∙ append_assoc old more (cloned_from later (number + length old + count) (arrival + length old + count) rest)
    ∙ ap (λ xs. old ++ cloned_from place (number + length old) (arrival + length old) xs) (sym (left files i file h is))
    ∙ before

pub clones_counted : (place number arrival : ℕ) (old new : List Placed) (files : List EndedFile) (i : ℕ) (file : EndedFile) → i < length files → file ≡ get_or files i file
    → new ≡ old ++ clones_of place (number + length old) (arrival + length old) file (further file.goes)
    → length old + length (wanted (drop i files)) ≡ length (wanted files) → length new + length (wanted (drop (i + 1) files)) ≡ length (wanted files)
clones_counted place number arrival old new files i file h is added before =
    omega (
      arith,
      ap length added,
      length-append old (clones_of place (number + length old) (arrival + length old) file (further file.goes)),
      length-clones_of place (number + length old) (arrival + length old) file (further file.goes),
      length_wanted_one file,
      wanted_left files i file h is,
    )

-- where the next file that goes on is placed
pub places_on : (place : ℕ) (files : List EndedFile) (i : ℕ) (file : EndedFile) → i < length files → file ≡ get_or files i file
    → place + length (firsts (drop i files)) ≡ place + length (first_newcomer file file.goes) + length (firsts (drop (i + 1) files))
places_on place files i file h is =
    omega (arith, ap (λ xs. length (firsts xs)) (left files i file h is), length-append (first_newcomer file file.goes) (firsts (drop (i + 1) files)))

-- what goes on of one more file
pub firsts_step : (arrival : ℕ) (old new : List Placed) (done : List EndedFile) (file : EndedFile) → old ≡ placed_from arrival (firsts done)
    → new ≡ old ++ placed_from (arrival + length old) (first_newcomer file file.goes) → new ≡ placed_from arrival (firsts (done ++ file ∷ []))
firsts_step arrival old new done file before added =
    let long : length old ≡ length (firsts done) = ap length before ∙ length-placed arrival (firsts done) in
    let one : firsts (file ∷ []) ≡ first_newcomer file file.goes = append-nil (first_newcomer file file.goes) in
    added
    ∙ ap (λ n. old ++ placed_from (arrival + n) (first_newcomer file file.goes)) long
    ∙ ap (λ xs. xs ++ placed_from (arrival + length (firsts done)) (first_newcomer file file.goes)) before
    ∙ sym (placed-append arrival (firsts done) (first_newcomer file file.goes))
    ∙ ap (λ xs. placed_from arrival (firsts done ++ xs)) (sym one)
    ∙ ap (placed_from arrival) (sym (flat_map-append (λ (file : EndedFile). first_newcomer file file.goes) done (file ∷ [])))

pub returned_step : (at : PlacingFrom) (old new : List Placed) (done : List EndedFile) (file : EndedFile) → old ≡ returned at done → new ≡ old ++ returning at file file.goes → new ≡ returned at (done ++ file ∷ [])
returned_step at old new done file before added =
    added ∙ ap (λ xs. xs ++ returning at file file.goes) before
    ∙ ap (λ xs. returned at done ++ xs) (sym (append-nil (returning at file file.goes)))
    ∙ sym (flat_map-append (λ (file : EndedFile). returning at file file.goes) done (file ∷ []))

firsts_few : (files : List EndedFile) → length (firsts files) ≤ length files
firsts_few [] = omega arith
firsts_few (file ∷ files) = omega (arith, length-append (first_newcomer file file.goes) (firsts files), one_at_most file.goes, firsts_few files)
  where
    one_at_most : (goes : Goes) → length (first_newcomer file goes) ≤ 1
    one_at_most (Queues first others) = omega arith
    one_at_most Returns = omega arith
    one_at_most (Drops relationship) = omega arith
    one_at_most Leaves = omega arith

-- fewer go on than were looked at
pub firsts_placed : (arrival : ℕ) (old : List Placed) (done : List EndedFile) → old ≡ placed_from arrival (firsts done) → length old ≤ length done
firsts_placed arrival old done is = omega (arith, ap length is, length-placed arrival (firsts done), firsts_few done)

one_place : (from : PlacingFrom) (file : EndedFile) (goes : Goes) → length (returning from file goes) + length (first_newcomer file goes) ≤ 1
one_place from file (Queues first others) = omega arith
one_place from file Returns = omega arith
one_place from file (Drops relationship) = omega arith
one_place from file Leaves = omega arith

-- no more return or go on than there are
pub few_places : (from : PlacingFrom) (files : List EndedFile) → length (returned from files) + length (firsts files) ≤ length files
few_places from [] = omega arith
few_places from (file ∷ files) =
    omega (
      arith,
      length-append (returning from file file.goes) (returned from files),
      length-append (first_newcomer file file.goes) (firsts files),
      one_place from file file.goes,
      few_places from files,
    )

-- one more file returns, or none
pub returned_left : (from : PlacingFrom) (files : List EndedFile) (i : ℕ) (file : EndedFile) → i < length files → file ≡ get_or files i file
    → length (returned from (drop i files)) ≡ length (returning from file file.goes) + length (returned from (drop (i + 1) files))
returned_left from files i file h is =
    omega (
      arith,
      ap (λ xs. length (returned from xs)) (left files i file h is),
      length-append (returning from file file.goes) (returned from (drop (i + 1) files)),
    )

-- the files that return, those that go on, and the clones
pub placed_whole : (at : PlacingFrom) (files : List EndedFile) (first place count : ℕ) (front clones : List Placed) → place ≡ length (returned at files) → count ≡ length (firsts files)
    → front ≡ returned at files ++ placed_from at.next_arrival (firsts files) → clones ≡ cloned_from place first (at.next_arrival + count) files
    → front ++ clones ≡ returned at files ++ arrived at first files
placed_whole at files first place count front clones place_is count_is front_is clones_are =
    let news = placed_from at.next_arrival (firsts files) in
    (λ i. front_is i ++ clones_are i)
    ∙ append_assoc (returned at files) news (cloned_from place first (at.next_arrival + count) files)
    ∙ (λ i. returned at files ++ (news ++ cloned_from (place_is i) first (at.next_arrival + count_is i) files))
