-- Which Ends are right, and what a block of another kind says.
use Rattle.std.proofs.Common.{◌≡◌, ◌≢◌, ◌==◌, ℕ, true, false, List, length, Result, Ok, Err, None, Some, refl, sym, ap, ◌∙◌, arith}
use Rattle.std.proofs.lemmas.Bool.Decides.{nat_tests}
use Rattle.flowfile_record.specs.Reading.{answer}
use Rattle.flowfile_record.specs.declared.error.CodecError.{CodecError}
use Rattle.flowfile_record.specs.declared.flow_file.FlowFile.{FlowFile}
use Rattle.record_codec.specs.Snapshot.{kind_code}
use Rattle.record_codec.specs.declared.snapshot.SnapshotKind.{SnapshotKind}
use Rattle.record_codec.specs.declared.snapshot.SnapshotKind.TheVariants as kinds
use Rattle.swap_store.specs.Reading.{Ends, end_step, step_in}

abbrev done : ℕ → Result ℕ CodecError
done blocks = Ok blocks

read_ok : (size blocks : ℕ) (read : Result ℕ ℕ) → done blocks ≡ answer size read → read ≡ Ok blocks
read_ok size blocks (Ok n) e = cc
read_ok size blocks (Err left) e = absurd cc

module _ (files : List FlowFile) (size blocks : ℕ) (read : Result ℕ ℕ) (is : done blocks ≡ answer size read) where
  -- an End with another number of blocks
  pub other_end : blocks ≢ length files → end_step files read ≡ None
  other_end apart =
      let other : (blocks == length files) ≡ false = grind (arith, nat_tests, apart) in
      ap (end_step files) (read_ok size blocks read is) ∙ rw other refl

  pub right_end : blocks ≡ length files → end_step files read ≡ Some Ends
  right_end same =
      let one : (blocks == length files) ≡ true = grind (arith, nat_tests, same) in
      ap (end_step files) (read_ok size blocks read is) ∙ rw one refl

-- a block of no kind that a snapshot has
pub no_step : (files : List FlowFile) (kind : ℕ) (payload : List ℕ) → ((holds : SnapshotKind) → kind_code holds ≡ kind → ⊥) → step_in files kind payload ≡ None
no_step files kind payload none =
    let apart_file : kind ≢ 11 = λ e. none kinds.File (sym e) in
    let apart_end : kind ≢ 13 = λ e. none kinds.End (sym e) in
    let file : (kind == 11) ≡ false = grind (arith, nat_tests, apart_file) in
    let end : (kind == 13) ≡ false = grind (arith, nat_tests, apart_end) in
    rw (file, end) refl
