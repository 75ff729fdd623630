-- The names of an inbox whose files fit a content.
use Rattle.std.proofs.Common.{◌≡◌, ◌≢◌, ℕ, ◌<◌, ◌≤◌, Bool, true, false, cond, bytes_eq, List, [], ◌∷◌, ◌++◌, append_assoc, length, map, refl, sym, ◌∙◌, ap, subst, arith, true≢false}
use Rattle.std.proofs.lemmas.Bool.{cond-true, cond-false, leb-true}
use Rattle.std.proofs.lemmas.List.Elements.{All-cons, All-nil, All-from_recursion}
use Rattle.std.proofs.lemmas.List.Kept.{AllPairs-cons}
use Rattle.std.proofs.lemmas.Slice.Eq.{bytes_eq-Decides}
use Rattle.std.specs.Prelude.{filter, nat_le, Option, None, Some, IfSome, IsSome, IsSomeAnd}
use Rattle.std.specs.List.{AllByRecursion}
use Rattle.std.specs.Option.{option_map_or}
use Rattle.std.specs.Ordering.{nat_cmp, is_eq}
use Rattle.std.specs.Cmp.Lexicographic.{slice_cmp, texts_ties}
use Rattle.std.specs.declared.cmp.Ordering.TheVariants.{Less}
use Rattle.flowfile_record.specs.NamedFile.{NamedFile, bytes_of}
use Rattle.flowfile_record.specs.declared.TheConstants.{CONTENT_MAX}
use Rattle.world_io.specs.Inbox.{IsAscending}
use Rattle.engine_queues.specs.Listing.{AreDistinct}
use Rattle.engine_steps.specs.Engine.{AreTakeable}
use Rattle.engine_steps.specs.Opening.{fits_in}

-- ---- names that ascend

all_but : (P : List ℕ → Type 0) (front : List (List ℕ)) (name : List ℕ) (back : List (List ℕ)) → AllByRecursion P (front ++ name ∷ back) → AllByRecursion P (front ++ back)
all_but P [] name back all = all.1
all_but P (n ∷ front) name back all = (all.0, all_but P front name back all.1)

-- all but one of ascending names ascend
pub ascends_but : (front : List (List ℕ)) (name : List ℕ) (back : List (List ℕ)) → IsAscending (front ++ name ∷ back) → IsAscending (front ++ back)
ascends_but [] name back ascends = ascends.1
ascends_but (n ∷ front) name back ascends = (all_but (λ later. slice_cmp nat_cmp n later ≡ Less) front name back ascends.0, ascends_but front name back ascends.1)

is_apart : (name later : List ℕ) → slice_cmp nat_cmp name later ≡ Less → name ≢ later
is_apart name later less same = true≢false (sym ((bytes_eq-Decides name later).1 same) ∙ texts_ties name later ∙ ap is_eq less)

all_weaker : (P Q : List ℕ → Type 0) (names : List (List ℕ)) → ((n : List ℕ) → P n → Q n) → AllByRecursion P names → AllByRecursion Q names
all_weaker P Q [] to all = tt
all_weaker P Q (n ∷ names) to all = (to n all.0, all_weaker P Q names to all.1)

-- and no two of them are the same
pub ascending_differ : (names : List (List ℕ)) → IsAscending names → AreDistinct names
ascending_differ [] ascends = λ i j d lt within. absurd (omega (arith, within))
ascending_differ (name ∷ names) ascends =
    AllPairs-cons (λ (one other : List ℕ). one ≢ other) name names
    (All-from_recursion (λ (other : List ℕ). name ≢ other) names (all_weaker (λ later. slice_cmp nat_cmp name later ≡ Less) (λ later. name ≢ later) names (is_apart name) ascends.0))
    (ascending_differ names ascends.1)

-- ---- files that are left

found_behind : (file : NamedFile) (files : List NamedFile) (name : List ℕ) → IsSome (bytes_of files name) → IsSome (bytes_of (file ∷ files) name)
found_behind file files name some = by_test (bytes_eq file.name name)
  where
    by_test : (b : Bool) → IsSome (cond b (Some file.bytes) (bytes_of files name))
    by_test true = refl
    by_test false = some

-- each file is found by its name
pub all_found : (files : List NamedFile) → AllByRecursion (λ name. IsSome (bytes_of files name)) (map (λ file. file.name) files)
all_found [] = tt
all_found (file ∷ files) =
    let here : bytes_eq file.name file.name ≡ true = (bytes_eq-Decides file.name file.name).1 refl in (
      subst (λ (o : Option (List ℕ)). IsSome o) (sym (cond-true _ _ _ here)) refl,
      all_weaker (λ name. IsSome (bytes_of files name)) (λ name. IsSome (bytes_of (file ∷ files) name)) (map (λ f. f.name) files) (λ n some. found_behind file files n some) (all_found files),
    )

-- ---- files that fit

-- a file of this size fits as its size says
pub fits_by_size : (left : List NamedFile) (name : List ℕ) (size : ℕ) → IsSome (bytes_of left name) → IfSome (bytes_of left name) (λ bytes. size ≡ length bytes) → fits_in left name ≡ nat_le size CONTENT_MAX
fits_by_size left name size some sized = by (bytes_of left name) some sized
  where
    by : (o : Option (List ℕ)) → IsSome o → IfSome o (λ bytes. size ≡ length bytes) → option_map_or (λ (bytes : List ℕ). nat_le (length bytes) CONTENT_MAX) o false ≡ nat_le size CONTENT_MAX
    by None some sized = absurd cc
    by (Some bytes) some sized = ap (λ n. nat_le n CONTENT_MAX) (sym sized)

takeable_one : (left : List NamedFile) (name : List ℕ) → fits_in left name ≡ true → IsSomeAnd (bytes_of left name) (λ bytes. length bytes ≤ CONTENT_MAX)
takeable_one left name fits = by (bytes_of left name) fits
  where
    by : (o : Option (List ℕ)) → option_map_or (λ (bytes : List ℕ). nat_le (length bytes) CONTENT_MAX) o false ≡ true → IsSomeAnd o (λ bytes. length bytes ≤ CONTENT_MAX)
    by None fits = absurd (true≢false (sym fits))
    by (Some bytes) fits = leb-true (length bytes) CONTENT_MAX fits

-- what fits may be taken
pub fitting_takeable : (left : List NamedFile) (names : List (List ℕ)) → AreTakeable left (filter (fits_in left) names)
fitting_takeable left [] = All-nil (λ (name : List ℕ). IsSomeAnd (bytes_of left name) (λ bytes. length bytes ≤ CONTENT_MAX))
fitting_takeable left (name ∷ names) = by_test (fits_in left name) refl (fitting_takeable left names)
  where
    by_test : (b : Bool) → fits_in left name ≡ b → AreTakeable left (filter (fits_in left) names) → AreTakeable left (cond b (name ∷ filter (fits_in left) names) (filter (fits_in left) names))
    by_test true fits rest = All-cons (λ (n : List ℕ). IsSomeAnd (bytes_of left n) (λ bytes. length bytes ≤ CONTENT_MAX)) name (filter (fits_in left) names) (takeable_one left name fits) rest
    by_test false fails rest = rest

-- the next name, by the size of its file
pub fits_next : (left now : List NamedFile) (items rest : List (List ℕ)) (name : List ℕ) (size : ℕ) → now ≡ left → items ≡ name ∷ rest → AllByRecursion (λ n. IsSome (bytes_of left n)) items
    → IfSome (bytes_of now name) (λ bytes. size ≡ length bytes) → fits_in left name ≡ nat_le size CONTENT_MAX
fits_next left now items rest name size same next there sized =
    fits_by_size left name size (subst (λ (l : List (List ℕ)). AllByRecursion (λ n. IsSome (bytes_of left n)) l) next there).0
    (subst (λ (l : List NamedFile). IfSome (bytes_of l name) (λ bytes. size ≡ length bytes)) same sized)

pub is_larger : (size most : ℕ) → most < size → nat_le size most ≡ false
is_larger size most larger = by (nat_le size most) refl
  where
    by : (b : Bool) → nat_le size most ≡ b → nat_le size most ≡ false
    by true is = let within : size ≤ most = leb-true size most is in absurd (omega arith)
    by false is = is

module _ (fits : List ℕ → Bool) (coming items rest all : List (List ℕ)) (name : List ℕ) (next : items ≡ name ∷ rest) (so_far : coming ++ filter fits items ≡ all) where
  -- a name is passed over, or it comes
  pub passed_over : fits name ≡ false → coming ++ filter fits rest ≡ all
  passed_over fails = ap (λ (l : List (List ℕ)). coming ++ l) (sym (ap (filter fits) next ∙ cond-false _ (name ∷ filter fits rest) (filter fits rest) fails)) ∙ so_far

  pub comes : fits name ≡ true → (coming ++ name ∷ []) ++ filter fits rest ≡ all
  comes holds =
      append_assoc coming (name ∷ []) (filter fits rest)
      ∙ ap (λ (l : List (List ℕ)). coming ++ l) (sym (ap (filter fits) next ∙ cond-true _ (name ∷ filter fits rest) (filter fits rest) holds)) ∙ so_far
