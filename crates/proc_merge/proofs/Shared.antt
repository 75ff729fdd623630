-- What taken files share, a file at a time.
use Rattle.std.proofs.Common.{◌≡◌, ℕ, ◌+◌, ◌<◌, List, [], ◌∷◌, ◌++◌, length, map, drop, get_or, refl, sym, ◌∙◌, ap, arith, append_assoc, length-append}
use Rattle.std.specs.Prelude.{fold, slice_get}
use Rattle.std.specs.FinMap.{empty}
use Rattle.std.specs.List.{range_with_len}
use Rattle.std.specs.Option.{option_map_or}
use Rattle.std.proofs.lemmas.Option.{slice_get-get_or}
use Rattle.flowfile_record.specs.Attributes.{AttributeMap, shared}
use Rattle.machine_model.specs.Making.{TakenFile}
use Rattle.machine_model.specs.MergeContent.{shared_by_all}
use Rattle.process_session.specs.declared.file.File.{File}
use Rattle.process_session.specs.Bench.{Bench, bench_attributes}
use Rattle.process_session.specs.Changes.{common_attributes}
use Rattle.proc_merge.specs.Taken.{files_seen, file_seen}
use Rattle.proc_merge.proofs.Benches.{at-seam}
use Rattle.proc_merge.proofs.Passed.{left}

-- what these share with the files from a place on
abbrev pub shared_with : AttributeMap → List File → AttributeMap
shared_with these files = fold (λ these (other : TakenFile). shared these other.attributes) these (map file_seen files)

pub shared-more : (these new : AttributeMap) (files : List File) (place : ℕ) (d : File) → place < length files → new ≡ shared these (get_or files place d).attributes → shared_with these (drop place files) ≡ shared_with new (drop (place + 1) files)
shared-more these new files place d within is =
    ap (shared_with these) (left files place d within) ∙ ap (λ a. shared_with a (drop (place + 1) files)) (sym is)

pub attributes-there : (bench : Bench) (place : ℕ) (d : File) → place < length bench.files → bench_attributes bench place ≡ (get_or bench.files place d).attributes
attributes-there bench place d within = ap (λ o. option_map_or (λ (file : File). file.attributes) o empty) (slice_get-get_or bench.files place d within)

-- ---- as a session shares them

fold-range : (bench : Bench) (before files : List File) (these : AttributeMap) → bench.files ≡ before ++ files
    → fold (λ attributes other. shared attributes (bench_attributes bench other)) these (range_with_len (length before) (length files)) ≡ shared_with these files
fold-range bench before [] these is = refl
fold-range bench before (file ∷ files) these is =
    let here : bench_attributes bench (length before) ≡ file.attributes =
    ap (λ fs. option_map_or (λ (f : File). f.attributes) (slice_get fs (length before)) empty) is
    ∙ ap (λ o. option_map_or (λ (f : File). f.attributes) o empty) (at-seam before files file) in
    let step : AttributeMap → ℕ → AttributeMap = λ attributes other. shared attributes (bench_attributes bench other) in
    let long : length before + 1 ≡ length (before ++ file ∷ []) = omega (arith, length-append before (file ∷ [])) in
    ap (λ a. fold step (shared these a) (range_with_len (length before + 1) (length files))) here
    ∙ ap (λ n. fold step (shared these file.attributes) (range_with_len n (length files))) long
    ∙ fold-range bench (before ++ file ∷ []) files (shared these file.attributes) (is ∙ sym (append_assoc before (file ∷ []) files))

pub common-is : (bench : Bench) → 0 < length bench.files → common_attributes bench (range_with_len 0 (length bench.files)) ≡ shared_by_all (files_seen bench)
common-is bench some = of_files bench.files refl some
  where
    of_files : (files : List File) → bench.files ≡ files → 0 < length files → common_attributes bench (range_with_len 0 (length files)) ≡ shared_by_all (map file_seen files)
    of_files [] is some = absurd (omega arith)
    of_files (file ∷ files) is some =
        let here : bench_attributes bench 0 ≡ file.attributes = ap (λ fs. option_map_or (λ (f : File). f.attributes) (slice_get fs 0) empty) is in
        let step : AttributeMap → ℕ → AttributeMap = λ attributes other. shared attributes (bench_attributes bench other) in
        let one : 0 + 1 ≡ 1 = refl in
        ap (λ a. fold step a (range_with_len (0 + 1) (length files))) here
        ∙ fold-range bench (file ∷ []) files file.attributes is
