-- What a change of one file of a list leaves.
use Rattle.std.proofs.Common.{◌≡◌, ℕ, zero, suc, ◌+◌, ◌<◌, List, [], ◌∷◌, map, length, get_or, set, sum_by, Option, None, Some, refl, sym, ◌∙◌, ap, subst, arith}
use Rattle.std.specs.List.{All, slice_get}
use Rattle.std.specs.Option.{option_map_or, option_and_then}
use Rattle.std.proofs.lemmas.List.Elements.{All-get_or, All-set}
use Rattle.std.proofs.lemmas.List.Sums.{sum_by-set}
use Rattle.std.proofs.lemmas.Option.{slice_get-get_or, slice_get_within, get_or_from_slice_get}
use Rattle.std.proofs.Math.ListN.{length-set}
use Rattle.std.specs.FinMap.{empty}
use Rattle.flowfile_record.specs.declared.worked.Origin.{Origin}
use Rattle.process_session.specs.declared.file.File.{File}
use Rattle.process_session.specs.declared.file.Source.{Source}
use Rattle.process_session.specs.Bench.{attributes_in, body_bytes, bytes_in}
use Rattle.process_session.specs.Changes.{change_at}

-- a change of the file that stands at the place is a write of the changed file
pub change_at-there : (change : File → File) (place : ℕ) (files : List File) (file : File) → place < length files → file ≡ get_or files place file → change_at change place files ≡ set files place (change file)
unfolding change_at
change_at-there change place files file within is =
    let at : slice_get files place ≡ Some file = slice_get-get_or files place file within ∙ ap Some (sym is) in
    ap (λ o. option_map_or (λ f. set files place (change f)) o files) at

pub length-change_at : (change : File → File) (place : ℕ) (files : List File) → length (change_at change place files) ≡ length files
unfolding change_at
length-change_at change place files = of_option (slice_get files place)
  where
    of_option : (o : Option File) → length (option_map_or (λ f. set files place (change f)) o files) ≡ length files
    of_option None = refl
    of_option (Some file) = length-set files place (change file)

-- a change that keeps a measure of each file keeps the sum
pub sum_by-change_at : (measure : File → ℕ) (change : File → File) → ((file : File) → measure (change file) ≡ measure file) → (place : ℕ) (files : List File) → sum_by measure (change_at change place files) ≡ sum_by measure files
unfolding change_at
sum_by-change_at measure change keeps place files = of_option (slice_get files place) refl
  where
    of_option : (o : Option File) → slice_get files place ≡ o → sum_by measure (option_map_or (λ f. set files place (change f)) o files) ≡ sum_by measure files
    of_option None is = refl
    of_option (Some file) is =
        let there : get_or files place file ≡ file = get_or_from_slice_get files place file file is in
        let sums : sum_by measure (set files place (change file)) + measure (get_or files place file) ≡ sum_by measure files + measure (change file) = sum_by-set measure files place (change file) file (slice_get_within files place file is) in
        let same : measure (get_or files place file) ≡ measure (change file) = ap measure there ∙ sym (keeps file) in
        omega arith

-- a change that keeps a fact of the file that stands there keeps it of all
pub All-change_at : (P : File → Type 0) (change : File → File) (place : ℕ) (files : List File) → ((file : File) → slice_get files place ≡ Some file → P file → P (change file)) → All P files → All P (change_at change place files)
unfolding change_at
All-change_at P change place files keeps all = of_option (slice_get files place) refl
  where
    of_option : (o : Option File) → slice_get files place ≡ o → All P (option_map_or (λ f. set files place (change f)) o files)
    of_option None is = all
    of_option (Some file) is =
        let there : get_or files place file ≡ file = get_or_from_slice_get files place file file is in
        All-set P files place (change file) (keeps file is (subst P there (All-get_or P files place file (slice_get_within files place file is) all))) all

abbrev pub origin_of : File → Origin
origin_of file = file.origin

origins-set : (files : List File) (place : ℕ) (file new : File) → slice_get files place ≡ Some file → new.origin ≡ file.origin → map origin_of (set files place new) ≡ map origin_of files
origins-set [] place file new is same = refl
origins-set (first ∷ files) zero file new is same =
    let here : first ≡ file = cc in
    ap (λ origin. origin ∷ map origin_of files) (same ∙ ap origin_of (sym here))
origins-set (first ∷ files) (suc place) file new is same = ap (λ origins. first.origin ∷ origins) (origins-set files place file new is same)

-- a change that keeps where each file comes from
pub origins-change_at : (change : File → File) → ((file : File) → (change file).origin ≡ file.origin) → (place : ℕ) (files : List File) → map origin_of (change_at change place files) ≡ map origin_of files
unfolding change_at
origins-change_at change keeps place files = of_option (slice_get files place) refl
  where
    of_option : (o : Option File) → slice_get files place ≡ o → map origin_of (option_map_or (λ f. set files place (change f)) o files) ≡ map origin_of files
    of_option None is = refl
    of_option (Some file) is = origins-set files place file (change file) is (keeps file)

-- a write of this file is such a change
pub set-from_change : (change : File → File) (place : ℕ) (files : List File) (file new : File) → place < length files → file ≡ get_or files place file → change file ≡ new → set files place new ≡ change_at change place files
set-from_change change place files file new within is made = ap (set files place) (sym made) ∙ sym (change_at-there change place files file within is)

pub attributes_in-there : (place : ℕ) (files : List File) (file : File) → place < length files → file ≡ get_or files place file → attributes_in files place ≡ file.attributes
attributes_in-there place files file within is =
    ap (λ o. option_map_or (λ (f : File). f.attributes) o empty) (slice_get-get_or files place file within ∙ ap Some (sym is))

pub body_at-there : (sources : List Source) (place : ℕ) (files : List File) (file : File) → place < length files → file ≡ get_or files place file → bytes_in sources files place ≡ body_bytes sources file.body
body_at-there sources place files file within is =
    ap (λ o. option_and_then (λ (f : File). body_bytes sources f.body) o) (slice_get-get_or files place file within ∙ ap Some (sym is))

-- a change of one file replaces what it counts
pub sum_by-set_there : (measure : File → ℕ) (place : ℕ) (files : List File) (file new : File) → place < length files → file ≡ get_or files place file → sum_by measure (set files place new) + measure file ≡ sum_by measure files + measure new
sum_by-set_there measure place files file new within is =
    let sums : sum_by measure (set files place new) + measure (get_or files place file) ≡ sum_by measure files + measure new = sum_by-set measure files place new file within in
    let same : measure (get_or files place file) ≡ measure file = ap measure (sym is) in
    omega arith
