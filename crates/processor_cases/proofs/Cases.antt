-- That the files of a case are read as a session's are.
use Rattle.std.proofs.Common.{◌≡◌, ◌+◌, ◌≤◌, true, false, List, [], ◌∷◌, ◌++◌, map, refl, sym, ◌∙◌, ap, subst}
use Rattle.std.specs.Prelude.{All, is_some, nat_le, sum_by}
use Rattle.std.proofs.lemmas.List.Elements.{All-append, All-cons, All-map, All-nil, All-weaker}
use Rattle.std.proofs.lemmas.List.Sums.{sum_by-cons}
use Rattle.flowfile_record.specs.declared.TheConstants.{CONTENT_MAX}
use Rattle.process_session.specs.Bench.{IsWhole}
use Rattle.process_session.specs.declared.file.Taken.{Taken}
use Rattle.processor_api.specs.Acts.{AreRead, fit_a_content}
use Rattle.processor_cases.specs.Cases.{IsReadFile, taken_without_bytes}

pub one-more : (files : List Taken) (file : Taken) → All IsReadFile files → IsReadFile file → All IsReadFile (files ++ file ∷ [])
one-more files file all one = All-append IsReadFile files (file ∷ []) all (All-cons IsReadFile file [] one (All-nil IsReadFile))

pub all-read : (files : List Taken) → All IsReadFile files → fit_a_content files ≡ true → AreRead files
all-read files all fits = record {
  small = All-weaker IsReadFile (λ file. file.size ≤ CONTENT_MAX) (λ file is. is.small) files all;
  whole = All-weaker IsReadFile IsWhole (λ file is. is.whole) files all;
  filled = All-weaker IsReadFile (λ file. is_some file.bytes ≡ fit_a_content files) (λ file is. is.filled ∙ sym fits) files all;
}

same-sizes : (files : List Taken) → sum_by (λ (file : Taken). file.size) (map taken_without_bytes files) ≡ sum_by (λ (file : Taken). file.size) files
same-sizes [] = refl
same-sizes (file ∷ files) =
    sum_by-cons (λ (file : Taken). file.size) (taken_without_bytes file) (map taken_without_bytes files) ∙ ap (λ rest. file.size + rest) (same-sizes files)
    ∙ sym (sum_by-cons (λ (file : Taken). file.size) file files)

pub none-read : (files unread : List Taken) → All IsReadFile files → fit_a_content files ≡ false → unread ≡ map taken_without_bytes files → AreRead unread
none-read files unread all fits is =
    let same : false ≡ fit_a_content (map taken_without_bytes files) = sym fits ∙ ap (λ size. nat_le size CONTENT_MAX) (sym (same-sizes files)) in
    subst AreRead (sym is) (record {
      small = All-map (λ file. file.size ≤ CONTENT_MAX) taken_without_bytes files (All-weaker IsReadFile (λ file. file.size ≤ CONTENT_MAX) (λ file is. is.small) files all);
      whole = All-map IsWhole taken_without_bytes files (All-weaker IsReadFile (λ file. IsWhole (taken_without_bytes file)) (λ file is. tt) files all);
      filled = All-map (λ file. is_some file.bytes ≡ fit_a_content (map taken_without_bytes files)) taken_without_bytes files
          (All-weaker IsReadFile (λ file. false ≡ fit_a_content (map taken_without_bytes files)) (λ file is. same) files all);
    })
