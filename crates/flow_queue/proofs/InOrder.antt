-- Files in the order of a queue: fewer of them, changed ones, one that comes and one that goes.
use Rattle.std.proofs.Common.{◌≡◌, ◌≢◌, inl, inr, ℕ, zero, suc, ◌<◌, ◌==◌, not, Bool, true, false, cond, List, [], ◌∷◌, length, map, refl, sym, ap, ◌∙◌, arith}
use Rattle.std.specs.Prelude.{All, Contains, filter}
use Rattle.std.specs.List.{AllPairs, AllWithin, insert, remove}
use Rattle.std.specs.List.Sorted.{IsPermutation}
use Rattle.std.specs.Ordering.{is_lt}
use Rattle.std.proofs.lemmas.Bool.{true≢false, cases_lt, eq-eqb, ne_eqb}
use Rattle.std.proofs.lemmas.List.Elements.{All-cons, All-head, All-tail, All-weaker, All-filter}
use Rattle.std.proofs.lemmas.List.Sorted.{IsPermutation-trans}
use Rattle.prioritizer.specs.declared.prioritizer.Prioritizer.{Prioritizer}
use Rattle.prioritizer.specs.Order.{order_cmp}
use Rattle.machine_model.specs.Laws.{ArrivalsDiffer}
use Rattle.machine_model.specs.Order.{standing_of, goes_before, put_in_order, in_order}
use Rattle.machine_model.specs.View.{FileView}
use Rattle.machine_model.proofs.Among.{Among, all_among}
use Rattle.machine_model.proofs.OnlyOrder.{Leads, all_lead, differ-permuted, in_order-only}
use Rattle.machine_model.proofs.Ordered.{asymmetric, goes_before-irreflexive, goes_before-total, goes_before-transitive, in_order-ordered, in_order-permutes, pairs_head, pairs_tail}

abbrev pub Differ : FileView → FileView → Type 0
Differ one other = one.arrival ≢ other.arrival

pub leads-all : (order : List Prioritizer) (files : List FileView) → ArrivalsDiffer files → AllPairs (Leads order) (in_order order files)
leads-all order files differ =
    let own = in_order order files in
    all_lead order own (differ-permuted files own differ (in_order-permutes order files)) (in_order-ordered order files)

-- ---- the same files

pub in_order-permuted : (order : List Prioritizer) (files others : List FileView) → ArrivalsDiffer files → IsPermutation files others → in_order order others ≡ in_order order files
in_order-permuted order files others differ same =
    in_order-only order files (in_order order others) differ
    (IsPermutation-trans files others (in_order order others) same (in_order-permutes order others)) (in_order-ordered order others)

-- ---- fewer files

module _ (order : List Prioritizer) where
  heads : (file : FileView) (files : List FileView) → All (Leads order file) files → put_in_order order file files ≡ file ∷ files
  heads file [] leads = refl
  heads file (other ∷ files) leads =
      ap (λ b. cond b (file ∷ other ∷ files) (other ∷ put_in_order order file files)) (All-head (Leads order file) other files leads)

  module _ (p : FileView → Bool) where
    put-kept : (file : FileView) (files : List FileView) → AllPairs (Leads order) files → p file ≡ true → filter p (put_in_order order file files) ≡ put_in_order order file (filter p files)
    put-kept file [] leads passes = ap (λ b. cond b (file ∷ []) []) passes
    put-kept file (other ∷ files) leads passes =
        elim (goes_before order file other) as (λ b. goes_before order file other ≡ b
        → filter p (cond b (file ∷ other ∷ files) (other ∷ put_in_order order file files)) ≡ put_in_order order file (filter p (other ∷ files))) [
          | true ↦ λ first.
              ap (λ b. cond b (file ∷ filter p (other ∷ files)) (filter p (other ∷ files))) passes
              ∙ sym (heads file (filter p (other ∷ files)) (All-filter p (Leads order file) (other ∷ files) (All-cons (Leads order file) other files first
              (All-weaker (Leads order other) (Leads order file) (λ later h. goes_before-transitive order file other later first h) files (pairs_head (Leads order) other files leads)))))
          | false ↦ λ behind.
              let rest = put-kept file files (pairs_tail (Leads order) other files leads) passes in
              elim (p other) as (λ b. cond b (other ∷ filter p (put_in_order order file files)) (filter p (put_in_order order file files)) ≡ put_in_order order file (cond b (other ∷ filter p files) (filter p files))) [
                | true ↦ ap (λ l. other ∷ l) rest ∙ sym (ap (λ b. cond b (file ∷ other ∷ filter p files) (other ∷ put_in_order order file (filter p files))) behind)
                | false ↦ rest
              ]
        ] refl

    put-dropped : (file : FileView) (files : List FileView) → p file ≡ false → filter p (put_in_order order file files) ≡ filter p files
    put-dropped file [] fails = ap (λ b. cond b (file ∷ []) []) fails
    put-dropped file (other ∷ files) fails =
        elim (goes_before order file other) as (λ b. filter p (cond b (file ∷ other ∷ files) (other ∷ put_in_order order file files)) ≡ filter p (other ∷ files)) [
          | true ↦ ap (λ b. cond b (file ∷ filter p (other ∷ files)) (filter p (other ∷ files))) fails
          | false ↦ ap (λ l. cond (p other) (other ∷ l) l) (put-dropped file files fails)
        ]

    pub in_order-filter : (files : List FileView) → ArrivalsDiffer files → in_order order (filter p files) ≡ filter p (in_order order files)
    in_order-filter [] differ = refl
    in_order-filter (file ∷ files) differ =
        let rest = in_order-filter files (pairs_tail Differ file files differ) in
        let own = in_order order files in
        let leads = leads-all order files (pairs_tail Differ file files differ) in
        elim (p file) as (λ b. p file ≡ b → in_order order (cond b (file ∷ filter p files) (filter p files)) ≡ filter p (put_in_order order file own)) [
          | true ↦ λ is. ap (put_in_order order file) rest ∙ sym (put-kept file own leads is)
          | false ↦ λ is. rest ∙ sym (put-dropped file own is)
        ] refl

  -- ---- changed files

  module _ (f : FileView → FileView) (same : (file : FileView) → standing_of (f file) ≡ standing_of file) where
    put-mapped : (file : FileView) (files : List FileView) → put_in_order order (f file) (map f files) ≡ map f (put_in_order order file files)
    put-mapped file [] = refl
    put-mapped file (other ∷ files) =
        let is : goes_before order (f file) (f other) ≡ goes_before order file other = λ j. is_lt (order_cmp order (same file j) (same other j)) in
        ap (λ b. cond b (f file ∷ f other ∷ map f files) (f other ∷ put_in_order order (f file) (map f files))) is
        ∙ elim (goes_before order file other) as (λ b. cond b (f file ∷ f other ∷ map f files) (f other ∷ put_in_order order (f file) (map f files)) ≡ map f (cond b (file ∷ other ∷ files) (other ∷ put_in_order order file files))) [
          | true ↦ refl
          | false ↦ ap (λ l. f other ∷ l) (put-mapped file files)
        ]

    pub in_order-mapped : (files : List FileView) → in_order order (map f files) ≡ map f (in_order order files)
    in_order-mapped [] = refl
    in_order-mapped (file ∷ files) = ap (put_in_order order (f file)) (in_order-mapped files) ∙ put-mapped file (in_order order files)

  -- ---- at the place of a file

  module _ (file : FileView) where
    abbrev Ahead : FileView → Type 0
    Ahead other = goes_before order other file ≡ true

    abbrev Behind : FileView → Type 0
    Behind other = goes_before order other file ≡ false

    pub put-at : (files : List FileView) (place : ℕ) → All (Differ file) files → AllWithin Ahead files 0 place → AllWithin Behind files place (length files)
        → put_in_order order file files ≡ insert files place file
    put-at [] zero differ ahead behind = refl
    put-at [] (suc place) differ ahead behind = refl
    put-at (other ∷ files) zero differ ahead behind =
        let first : goes_before order file other ≡ true = elim (goes_before-total order file other (All-head (Differ file) other files differ)) [
          | inl first ↦ first
          | inr last ↦ absurd (true≢false (sym last ∙ behind 0 other (omega arith) (omega arith)))
        ] in
        ap (λ b. cond b (file ∷ other ∷ files) (other ∷ put_in_order order file files)) first
    put-at (other ∷ files) (suc place) differ ahead behind =
        let last : goes_before order file other ≡ false = asymmetric order other file (ahead 0 other (omega arith) (omega arith)) in
        ap (λ b. cond b (file ∷ other ∷ files) (other ∷ put_in_order order file files)) last
        ∙ ap (λ l. other ∷ l)
        (put-at files place (All-tail (Differ file) other files differ)
        (λ k d l h. ahead (suc k) d (omega arith) (omega arith)) (λ k d l h. behind (suc k) d (omega arith) (omega arith)))

    -- one that stands among them has a place among them
    pub rank-within : (files : List FileView) (place : ℕ) → Contains files file → AllWithin Ahead files 0 place → place < length files
    rank-within files place (k, lt, is) ahead =
        elim (cases_lt place (length files)) [
          | inl lt ↦ lt
          | inr ge ↦ absurd (true≢false (sym (ahead k file (omega arith) (omega arith)) ∙ ap (λ f. goes_before order f file) is ∙ goes_before-irreflexive order file))
        ]

    abbrev pub Others : FileView → Bool
    Others other = not (other.number == file.number)

    -- a file of its number is the file
    abbrev pub IsIt : FileView → Type 0
    IsIt other = other.number ≡ file.number → other ≡ file

    no_other : (other : FileView) → IsIt other → Ahead other → other.number ≢ file.number
    no_other other is ahead same = true≢false (sym ahead ∙ ap (λ f. goes_before order f file) (is same) ∙ goes_before-irreflexive order file)

    others-all : (files : List FileView) → All (λ other. other.number ≢ file.number) files → filter Others files ≡ files
    others-all [] apart = refl
    others-all (other ∷ files) apart =
        ap (λ b. cond (not b) (other ∷ filter Others files) (filter Others files)) (ne_eqb other.number file.number (All-head (λ f. f.number ≢ file.number) other files apart))
        ∙ ap (λ l. other ∷ l) (others-all files (All-tail (λ f. f.number ≢ file.number) other files apart))

    pub removed-at : (files : List FileView) (place : ℕ) → Among file files → AllPairs (Leads order) files → All IsIt files → AllWithin Ahead files 0 place → AllWithin Behind files place (length files)
        → filter Others files ≡ remove files place
    removed-at [] place there leads only ahead behind = absurd there
    removed-at (other ∷ files) zero there leads only ahead behind =
        let led = pairs_head (Leads order) other files leads in
        let is : other ≡ file = elim there [
          | inl is ↦ is
          | inr later ↦ absurd (true≢false (sym (all_among (Leads order other) file files led later) ∙ behind 0 other (omega arith) (omega arith)))
        ] in
        ap (λ b. cond (not b) (other ∷ filter Others files) (filter Others files)) (eq-eqb other.number file.number (ap (λ (f : FileView). f.number) is))
        ∙ others-all files (λ k d lt same. true≢false (sym (led k d lt) ∙ (λ j. goes_before order (is j) (only (suc k) d (omega arith) same j)) ∙ goes_before-irreflexive order file))
    removed-at (other ∷ files) (suc place) there leads only ahead behind =
        let first : Ahead other = ahead 0 other (omega arith) (omega arith) in
        let apart = no_other other (All-head IsIt other files only) first in
        let later : Among file files = elim there [
          | inl is ↦ absurd (apart (ap (λ (f : FileView). f.number) is))
          | inr later ↦ later
        ] in
        ap (λ b. cond (not b) (other ∷ filter Others files) (filter Others files)) (ne_eqb other.number file.number apart)
        ∙ ap (λ l. other ∷ l)
        (removed-at files place later (pairs_tail (Leads order) other files leads) (All-tail IsIt other files only)
        (λ k d l h. ahead (suc k) d (omega arith) (omega arith)) (λ k d l h. behind (suc k) d (omega arith) (omega arith)))

module _ {X Y : Type 0} (f : X → Y) where
  pub insert-mapped : (xs : List X) (place : ℕ) (x : X) → map f (insert xs place x) ≡ insert (map f xs) place (f x)
  insert-mapped [] zero x = refl
  insert-mapped [] (suc place) x = refl
  insert-mapped (y ∷ xs) zero x = refl
  insert-mapped (y ∷ xs) (suc place) x = ap (λ l. f y ∷ l) (insert-mapped xs place x)

  pub remove-mapped : (xs : List X) (place : ℕ) → map f (remove xs place) ≡ remove (map f xs) place
  remove-mapped [] zero = refl
  remove-mapped [] (suc place) = refl
  remove-mapped (y ∷ xs) zero = refl
  remove-mapped (y ∷ xs) (suc place) = ap (λ l. f y ∷ l) (remove-mapped xs place)

  pub filter-mapped : (p : Y → Bool) (xs : List X) → filter p (map f xs) ≡ map f (filter (λ x. p (f x)) xs)
  filter-mapped p [] = refl
  filter-mapped p (x ∷ xs) =
      ap (λ l. cond (p (f x)) (f x ∷ l) l) (filter-mapped p xs)
      ∙ elim (p (f x)) as (λ b. cond b (f x ∷ map f (filter (λ y. p (f y)) xs)) (map f (filter (λ y. p (f y)) xs)) ≡ map f (cond b (x ∷ filter (λ y. p (f y)) xs) (filter (λ y. p (f y)) xs))) [ true ↦ refl | false ↦ refl ]
