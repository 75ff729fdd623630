-- The files with which a session begins, a file at a time.
use Rattle.std.proofs.Common.{◌≡◌, ℕ, suc, ◌+◌, ◌≤◌, List, [], ◌∷◌, ◌++◌, length, map, sum_by, refl, sym, ◌∙◌, ap, arith, add-zero}
use Rattle.std.specs.List.{All}
use Rattle.std.proofs.lemmas.List.Elements.{All-nil, All-cons, All-head, All-tail}
use Rattle.std.proofs.lemmas.List.Sums.{sum_by-append, sum_by-cons}
use Rattle.flowfile_record.specs.Attributes.{IsWithinLimits, encoded_size}
use Rattle.flowfile_record.specs.declared.attributes.TheConstants.{ATTRIBUTES_MAX}
use Rattle.process_session.specs.declared.file.File.{File}
use Rattle.process_session.specs.declared.file.Source.{Source}
use Rattle.process_session.specs.declared.file.Taken.{Taken}
use Rattle.process_session.specs.Bench.{HasItsSize, IsBodyOf, IsWhole, file_size, taken_source, taken_file, files_taken}
use Rattle.process_session.specs.Sound.{IsHeldFile}

pub taken_files-push : (place : ℕ) (files : List Taken) (file : Taken) → files_taken place (files ++ file ∷ []) ≡ files_taken place files ++ taken_file (place + length files) file ∷ []
taken_files-push place [] file = ap (λ n. taken_file n file ∷ []) (sym (add-zero place))
taken_files-push place (first ∷ files) file =
    let later : place + 1 + length files ≡ place + suc (length files) = omega arith in
    ap (λ fs. taken_file place first ∷ fs) (taken_files-push (place + 1) files file ∙ ap (λ n. files_taken (place + 1) files ++ taken_file n file ∷ []) later)

pub sum_by-taken_push : (files : List Taken) (file : Taken) → sum_by file_size (files_taken 0 (files ++ file ∷ [])) ≡ sum_by file_size (files_taken 0 files) + encoded_size file.attributes
sum_by-taken_push files file =
    let last = taken_file (0 + length files) file in
    let same : sum_by file_size (files_taken 0 (files ++ file ∷ [])) ≡ sum_by file_size (files_taken 0 files ++ last ∷ []) = ap (sum_by file_size) (taken_files-push 0 files file) in
    let sums : sum_by file_size (files_taken 0 files ++ last ∷ []) ≡ sum_by file_size (files_taken 0 files) + sum_by file_size (last ∷ []) = sum_by-append file_size (files_taken 0 files) (last ∷ []) in
    let one : sum_by file_size (last ∷ []) ≡ file_size last + sum_by file_size [] = sum_by-cons file_size last [] in
    let none : sum_by file_size [] ≡ 0 = refl in
    let size : file_size last ≡ encoded_size file.attributes = refl in
    omega arith

pub length-taken_files : (place : ℕ) (files : List Taken) → length (files_taken place files) ≡ length files
length-taken_files place [] = refl
length-taken_files place (file ∷ files) = ap suc (length-taken_files (place + 1) files)

pub length-sources : (files : List Taken) → length (map taken_source files) ≡ length files
length-sources [] = refl
length-sources (file ∷ files) = ap suc (length-sources files)

pub sources_whole : (files : List Taken) → All IsWhole files → All (λ source. HasItsSize source.bytes source.size) (map taken_source files)
sources_whole [] all = All-nil (λ source. HasItsSize source.bytes source.size)
sources_whole (file ∷ files) all =
    All-cons (λ (source : Source). HasItsSize source.bytes source.size) (taken_source file) (map taken_source files) (All-head IsWhole file files all) (sources_whole files (All-tail IsWhole file files all))

-- each taken file stands for itself, below so many
pub bodies_taken : (sources : List Source) (place : ℕ) (files : List Taken) → place + length files ≤ length sources → All (λ file. IsBodyOf sources file.body) (files_taken place files)
bodies_taken sources place [] room = All-nil (λ file. IsBodyOf sources file.body)
bodies_taken sources place (file ∷ files) room =
    All-cons (λ (one : File). IsBodyOf sources one.body) (taken_file place file) (files_taken (place + 1) files) (omega arith) (bodies_taken sources (place + 1) files (omega arith))

-- nothing is settled of a taken file yet, and its attributes are within their limits
pub held_taken : (relationships place : ℕ) (files : List Taken) → All (λ file. IsWithinLimits file.attributes) files → All (IsHeldFile relationships) (files_taken place files)
held_taken relationships place [] limits = All-nil (IsHeldFile relationships)
held_taken relationships place (file ∷ files) limits =
    let here : IsWithinLimits file.attributes = All-head (λ (one : Taken). IsWithinLimits one.attributes) file files limits in
    let size : encoded_size file.attributes ≤ ATTRIBUTES_MAX = here.size in
    let held : IsHeldFile relationships (taken_file place file) = record { names = tt; ends = tt; routed = tt; limits = here; named = omega arith } in
    All-cons (IsHeldFile relationships) (taken_file place file) (files_taken (place + 1) files) held (held_taken relationships (place + 1) files (All-tail (λ (one : Taken). IsWithinLimits one.attributes) file files limits))
