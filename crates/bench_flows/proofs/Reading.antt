-- That the files of a measurement are read as a session's are.
use Rattle.std.proofs.Common.{◌≡◌, ℕ, ◌≤◌, ◌+◌, ◌-◌, true, List, [], ◌∷◌, ◌++◌, sym, ◌∙◌, arith}
use Rattle.std.specs.Prelude.{All, is_some, sum_by}
use Rattle.std.proofs.lemmas.Bool.{le-leb}
use Rattle.std.proofs.lemmas.List.Elements.{All-append, All-cons, All-nil, All-weaker}
use Rattle.std.proofs.lemmas.List.Sums.{sum_by_push}
use Rattle.flowfile_record.specs.declared.TheConstants.{CONTENT_MAX}
use Rattle.process_session.specs.Bench.{IsWhole}
use Rattle.process_session.specs.declared.file.Taken.{Taken}
use Rattle.processor_api.specs.Acts.{AreRead, fit_a_content}
use Rattle.bench_flows.specs.Reading.{IsReadFile}

-- the files so far, with the room that they leave of a content
pub record LeaveRoom (room : ℕ) (files : List Taken) : Type 0 where
  pub read : All IsReadFile files
  pub left : room + sum_by (λ (file : Taken). file.size) files ≡ CONTENT_MAX

pub with_one_more : (room : ℕ) (files : List Taken) (file : Taken) → LeaveRoom room files → IsWhole file
    → is_some file.bytes ≡ true → file.size ≤ room → LeaveRoom (room - file.size) (files ++ file ∷ [])
with_one_more room files file before whole filled fits =
    let small : file.size ≤ CONTENT_MAX = omega arith in
    record {
      read = All-append IsReadFile files (file ∷ []) before.read
          (All-cons IsReadFile file [] (record { small = small; whole = whole; filled = filled }) (All-nil IsReadFile));
      left = omega (arith, sum_by_push (λ (file : Taken). file.size) files file);
    }

pub all-read : (room : ℕ) (files : List Taken) → LeaveRoom room files → AreRead files
all-read room files leaves =
    let fits : fit_a_content files ≡ true =
    le-leb (sum_by (λ (file : Taken). file.size) files) CONTENT_MAX (omega arith) in
    record {
      small = All-weaker IsReadFile (λ file. file.size ≤ CONTENT_MAX) (λ file is. is.small) files leaves.read;
      whole = All-weaker IsReadFile IsWhole (λ file is. is.whole) files leaves.read;
      filled = All-weaker IsReadFile (λ file. is_some file.bytes ≡ fit_a_content files) (λ file is. is.filled ∙ sym fits)
          files leaves.read;
    }
