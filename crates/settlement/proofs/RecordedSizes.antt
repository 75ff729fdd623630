-- That what is placed is no more, and takes no more, than a session's files do at the end of so many connections each.
use Rattle.std.proofs.Common.{◌≡◌, ℕ, suc, ◌+◌, ◌*◌, ◌≤◌, List, [], ◌∷◌, ◌++◌, map, length, refl, ap, ◌∙◌, arith}
use Rattle.std.specs.Prelude.{sum_by}
use Rattle.std.proofs.Math.Nat.{mul-le-mul_right, suc-mul}
use Rattle.std.proofs.lemmas.List.Sums.{sum_by-cons}
use Rattle.flowfile_record.specs.Attributes.{AttributeMap}
use Rattle.flowfile_record.specs.declared.stored.Placed.{Placed}
use Rattle.machine_model.specs.declared.limits.TheConstants.{FAN_OUT_MAX}
use Rattle.machine_model.proofs.Tally.{Each, tally, tally-append}
use Rattle.settlement.specs.Placing.{EndedNewcomer, PlacingFrom, arrived, first_newcomer, firsts, further, placed_from, returned, returning, wanted}
use Rattle.settlement.specs.declared.file.EndedFile.{EndedFile}
use Rattle.settlement.specs.declared.file.Goes.{Goes}
use Rattle.settlement.specs.declared.file.Goes.TheVariants.{Queues, Returns, Drops, Leaves}
use Rattle.settlement.proofs.Clones.{all_clones, as_newcomers, before_clones, clones-weigh, clones_from, clones_in}
use Rattle.settlement.proofs.RecordedPlaces.{places_of}

pub tally-sum : {X : Type 0} (w : X → ℕ) (xs : List X) → sum_by w xs ≡ tally w xs
tally-sum w [] = refl
tally-sum w (x ∷ xs) = sum_by-cons w x xs ∙ ap (λ n. w x + n) (tally-sum w xs)

pub tally-length : {X : Type 0} (xs : List X) → tally (λ (x : X). 1) xs ≡ length xs
tally-length [] = refl
tally-length (x ∷ xs) = omega (arith, tally-length xs)

-- ---- what is placed weighs what its files do

-- the weight of a file by its attributes
abbrev pub weight : (AttributeMap → ℕ) → EndedFile → ℕ
weight w file = w file.worked.attributes

abbrev pub placed_weight : (AttributeMap → ℕ) → Placed → ℕ
placed_weight w p = w p.file.attributes

placed_weighs : (w : AttributeMap → ℕ) (arrival : ℕ) (news : List EndedNewcomer) → tally (placed_weight w) (placed_from arrival news) ≡ tally (λ (one : EndedNewcomer). weight w one.2) news
placed_weighs w arrival [] = refl
placed_weighs w arrival (one ∷ news) = ap (λ n. weight w one.2 + n) (placed_weighs w (arrival + 1) news)

clones_weigh : (w : AttributeMap → ℕ) (number : ℕ) (clones : List (EndedFile × ℕ)) → tally (λ (one : EndedNewcomer). weight w one.2) (clones_from number clones) ≡ tally (λ (clone : EndedFile × ℕ). weight w clone.0) clones
clones_weigh w number [] = refl
clones_weigh w number (clone ∷ clones) = ap (λ n. weight w clone.0 + n) (clones_weigh w (number + 1) clones)

one_more : (n m : ℕ) → suc n * m ≡ m + n * m
one_more n m = omega (arith, suc-mul n m)

-- a file as often as it is cloned
copies_weigh : (w : AttributeMap → ℕ) (file : EndedFile) (others : List ℕ) → tally (λ (clone : EndedFile × ℕ). weight w clone.0) (map (λ connection. (file, connection)) others) ≡ length others * weight w file
copies_weigh w file [] = omega arith
copies_weigh w file (other ∷ others) = omega (arith, copies_weigh w file others, one_more (length others) (weight w file))

-- a file in all the queues that it goes to
file_weighs : (w : AttributeMap → ℕ) (at : PlacingFrom) (file : EndedFile) (goes : Goes) → places_of goes ≤ FAN_OUT_MAX
    → tally (placed_weight w) (returning at file goes) + tally (λ (one : EndedNewcomer). weight w one.2) (first_newcomer file goes) + tally (λ (clone : EndedFile × ℕ). weight w clone.0) (map (λ connection. (file, connection)) (further goes))
    ≤ FAN_OUT_MAX * weight w file
file_weighs w at file (Queues first others) few =
    omega (arith, copies_weigh w file others, mul-le-mul_right (weight w file) few, one_more (length others) (weight w file))
file_weighs w at file Returns few = omega arith
file_weighs w at file (Drops relationship) few = omega arith
file_weighs w at file Leaves few = omega arith

files_weigh : (w : AttributeMap → ℕ) (at : PlacingFrom) (files : List EndedFile) → Each (λ (file : EndedFile). places_of file.goes ≤ FAN_OUT_MAX) files
    → tally (placed_weight w) (returned at files) + tally (λ (one : EndedNewcomer). weight w one.2) (firsts files) + tally (λ (clone : EndedFile × ℕ). weight w clone.0) (wanted files) ≤ FAN_OUT_MAX * tally (weight w) files
files_weigh w at [] few = omega arith
files_weigh w at (file ∷ files) few =
    omega (
      arith,
      tally-append (placed_weight w) (returning at file file.goes) (returned at files),
      tally-append (λ (one : EndedNewcomer). weight w one.2) (first_newcomer file file.goes) (firsts files),
      tally-append (λ (clone : EndedFile × ℕ). weight w clone.0) (map (λ connection. (file, connection)) (further file.goes)) (wanted files),
      file_weighs w at file file.goes few.0,
      files_weigh w at files few.1,
    )

-- all that is placed weighs no more than the files at so many places each
pub placed-weighs : (w : AttributeMap → ℕ) (at : PlacingFrom) (first_clone : ℕ) (files : List EndedFile) → Each (λ (file : EndedFile). places_of file.goes ≤ FAN_OUT_MAX) files
    → tally (placed_weight w) (returned at files ++ arrived at first_clone files) ≤ FAN_OUT_MAX * tally (weight w) files
placed-weighs w at first_clone files few =
    let news = placed_from at.next_arrival (firsts files) in
    let clones = clones_in at first_clone files in
    let weighs : tally (placed_weight w) clones ≡ tally (placed_weight w) (as_newcomers at first_clone files) =
    clones-weigh w (returned at files ++ arrived at first_clone files) (before_clones at files) clones (as_newcomers at first_clone files) (all_clones at first_clone files) in
    omega (
      arith,
      tally-append (placed_weight w) (returned at files) (arrived at first_clone files),
      tally-append (placed_weight w) news clones,
      placed_weighs w at.next_arrival (firsts files),
      weighs,
      placed_weighs w (at.next_arrival + length (firsts files)) (clones_from first_clone (wanted files)),
      clones_weigh w first_clone (wanted files),
      files_weigh w at files few,
    )
