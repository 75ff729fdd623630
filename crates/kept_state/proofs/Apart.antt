-- Placed files that have something in them that no other file has, and what the rules on them say.
use Rattle.std.proofs.Common.{◌≡◌, ℕ, ◌==◌, ◌||◌, ◌&&◌, not, Bool, true, false, List, [], ◌∷◌, ◌++◌, map, None, refl, ap, ◌∙◌}
use Rattle.std.specs.List.{list_any, list_all, flat_map}
use Rattle.std.proofs.lemmas.Bool.{and_parts, and_from, or_parts, or_from, not-true, not_from_false}
use Rattle.std.proofs.lemmas.List.{append-nil}
use Rattle.flowfile_record.specs.NumberedItems.{item_of, with_item}
use Rattle.flowfile_record.specs.declared.flow_file.FlowFile.{FlowFile}
use Rattle.flowfile_record.specs.declared.stored.ActiveFile.{ActiveFile}
use Rattle.flowfile_record.specs.declared.stored.SwapBatch.{SwapBatch}
use Rattle.kept_state.specs.Applied.{active_number}
use Rattle.kept_state.specs.Fits.{are_distinct_numbers}
use Rattle.kept_state.specs.Moves.{AreAbsent}
use Rattle.kept_state.proofs.Items.{eqb_comm, any-with}

-- each of the placed files has something in it that none has when it joins
abbrev pub AreApart : (part : ActiveFile → ℕ) → List ActiveFile → List ActiveFile → Type 0
AreApart part [] files = Unit {0}
AreApart part (a ∷ placed) files = (list_any (λ b. part b == part a) files ≡ false) × AreApart part placed (with_item active_number a files)

-- none of these numbers is in a file
abbrev pub are_unused : (part : ActiveFile → ℕ) → List ActiveFile → List ℕ → Bool
are_unused part files numbers = list_all (λ n. not (list_any (λ b. part b == n) files)) numbers

-- where one file joins whose number isn't among these
still_unused : (part : ActiveFile → ℕ) (a : ActiveFile) (files : List ActiveFile) (ns : List ℕ) → are_unused part files ns ≡ true → list_any (λ m. m == part a) ns ≡ false
    → are_unused part (with_item active_number a files) ns ≡ true
still_unused part a files [] unused other = refl
still_unused part a files (n ∷ ns) unused other =
    let here = and_parts (not (list_any (λ b. part b == n) files)) (are_unused part files ns) unused in
    let differs = or_parts (n == part a) (list_any (λ m. m == part a) ns) other in
    let joined : list_any (λ b. part b == n) (with_item active_number a files) ≡ false =
    any-with active_number (λ b. part b == n) a files ∙ or_from (part a == n) (list_any (λ b. part b == n) files) (eqb_comm (part a) n ∙ differs.0) (not-true (list_any (λ b. part b == n) files) here.0) in
    and_from (not (list_any (λ b. part b == n) (with_item active_number a files))) (are_unused part (with_item active_number a files) ns) (not_from_false (list_any (λ b. part b == n) (with_item active_number a files)) joined) (still_unused part a files ns here.1 differs.1)

pub apart : (part : ActiveFile → ℕ) (placed files : List ActiveFile) → are_distinct_numbers (map part placed) ≡ true → are_unused part files (map part placed) ≡ true → AreApart part placed files
apart part [] files distinct unused = tt
apart part (a ∷ placed) files distinct unused =
    let d = and_parts (not (list_any (λ m. m == part a) (map part placed))) (are_distinct_numbers (map part placed)) distinct in
    let u = and_parts (not (list_any (λ b. part b == part a) files)) (are_unused part files (map part placed)) unused in (
      not-true (list_any (λ b. part b == part a) files) u.0,
      apart part placed (with_item active_number a files) d.1 (still_unused part a files (map part placed) u.1 (not-true (list_any (λ m. m == part a) (map part placed)) d.0)),
    )

pub none_from_any : (n : ℕ) (files : List ActiveFile) → list_any (λ a. active_number a == n) files ≡ false → item_of active_number n files ≡ None
none_from_any n [] none = refl
none_from_any n (a ∷ files) none =
    let parts = or_parts (active_number a == n) (list_any (λ b. active_number b == n) files) none in
    rw parts.0 (none_from_any n files parts.1)

pub absent : (placed files : List ActiveFile) → AreApart active_number placed files → AreAbsent placed files
absent [] files apart = tt
absent (a ∷ placed) files apart = (none_from_any (active_number a) files apart.0, absent placed (with_item active_number a files) apart.1)

-- ---- files that live where no batch is swapped out

any-files : (part : FlowFile → ℕ) (n : ℕ) (files : List ActiveFile) → list_any (λ f. part f == n) (map (λ a. a.file) files) ≡ list_any (λ a. part a.file == n) files
any-files part n [] = refl
any-files part n (a ∷ files) = ap (λ b. (part a.file == n) || b) (any-files part n files)

pub unused-files : (part : FlowFile → ℕ) (ns : List ℕ) (files : List ActiveFile)
    → list_all (λ n. not (list_any (λ f. part f == n) (map (λ a. a.file) files))) ns ≡ are_unused (λ a. part a.file) files ns
unused-files part [] files = refl
unused-files part (n ∷ ns) files =
    ap (λ b. not b && list_all (λ m. not (list_any (λ f. part f == m) (map (λ a. a.file) files))) ns) (any-files part n files)
    ∙ ap (λ b. not (list_any (λ a. part a.file == n) files) && b) (unused-files part ns files)

-- no batch has a file
pub lives : (files : List ActiveFile) (batches : List SwapBatch) → batches ≡ [] → map (λ a. a.file) files ++ flat_map (λ b. let none : List FlowFile = [] in none) batches ≡ map (λ a. a.file) files
lives files batches none =
    ap (λ (bs : List SwapBatch). map (λ a. a.file) files ++ flat_map (λ b. let none : List FlowFile = [] in none) bs) none ∙ append-nil (map (λ a. a.file) files)
