-- What was written is read back.
use Rattle.std.proofs.Common.{◌≡◌, ◌==◌, ℕ, suc, ◌+◌, ◌-◌, ◌<◌, ◌≤◌, true, List, [], ◌∷◌, ◌++◌, length, drop, All, Some, Ok, refl, sym, ap, ◌∙◌, append_assoc, length-append, arith}
use Rattle.std.specs.List.{flat_map}
use Rattle.std.specs.Prelude.{nat_lt}
use Rattle.std.proofs.lemmas.Bool.Decides.{nat_tests}
use Rattle.std.proofs.lemmas.List.{append-nil, drop_at}
use Rattle.std.proofs.lemmas.List.Concat.{flat_map-cons}
use Rattle.disk_trait.specs.declared.file_name.FileName.{FileName}
use Rattle.flowfile_record.specs.NumberedItems.{AscendsByNumber}
use Rattle.flowfile_record.specs.declared.flow_file.FlowFile.{FlowFile}
use Rattle.flowfile_record.specs.declared.limits.TheConstants.{NUMBER_LIMIT}
use Rattle.flowfile_record.proofs.FieldLaws.{whole_again}
use Rattle.record_codec.specs.ActiveFile.{active, active_file, active_file_at, IsActiveFile}
use Rattle.record_codec.specs.Block.{Reading, block}
use Rattle.record_codec.specs.FileEncoding.{IsFlowFile}
use Rattle.record_codec.specs.Snapshot.{kind_code, ending, IsEnding}
use Rattle.record_codec.specs.SnapshotReading.{ending_at}
use Rattle.record_codec.specs.declared.block.TheConstants.{PAYLOAD_MAX, BLOCK_OVERHEAD}
use Rattle.record_codec.specs.declared.snapshot.SnapshotKind.TheVariants as kinds
use Rattle.record_codec.proofs.ActiveFiles.{active_file_is}
use Rattle.record_codec.proofs.Blocks.{reading_of-block, length-block}
use Rattle.record_codec.proofs.Sizes.{file_at_most}
use Rattle.record_codec.proofs.Snapshots.{ending_is}
use Rattle.swap_store.specs.Batch.{swapped_block, closing_block, batch_bytes, IsSwapBatch}
use Rattle.swap_store.specs.Reading.{Swapped, Adds, Ends, last_file_number, file_step, end_step, step_in, stepped, past_block, files_from, swapped_files}
use Rattle.swap_store.proofs.Joining.{last_is, ascending_count}

abbrev number_of : FlowFile → ℕ
number_of f = f.number

-- ---- a block in front of some bytes

module _ (file : FileName) where
  block_adds : (most at kind : ℕ) (files more : List FlowFile) (payload rest : List ℕ) → length payload ≤ PAYLOAD_MAX → step_in files kind payload ≡ Some (Adds more)
      → files_from (suc most) file at files (block kind payload ++ rest) ≡ files_from most file (at + (length payload + BLOCK_OVERHEAD)) more rest
  block_adds most at kind files more payload rest small says =
      let following : List FlowFile → ℕ → Swapped = λ m n. files_from most file (at + n) m (drop n (block kind payload ++ rest)) in
      ap (λ (r : Reading). past_block file at files following r) (reading_of-block kind payload rest small)
      ∙ ap (stepped file at (length payload + BLOCK_OVERHEAD) files following) says
      ∙ ap (files_from most file (at + (length payload + BLOCK_OVERHEAD)) more) (drop_at (block kind payload) rest (length payload + BLOCK_OVERHEAD) (length-block kind payload))

  block_ends : (most at kind : ℕ) (files : List FlowFile) (payload rest : List ℕ) → length payload ≤ PAYLOAD_MAX → step_in files kind payload ≡ Some Ends
      → files_from (suc most) file at files (block kind payload ++ rest) ≡ Ok files
  block_ends most at kind files payload rest small says =
      let following : List FlowFile → ℕ → Swapped = λ m n. files_from most file (at + n) m (drop n (block kind payload ++ rest)) in
      ap (λ (r : Reading). past_block file at files following r) (reading_of-block kind payload rest small)
      ∙ ap (stepped file at (length payload + BLOCK_OVERHEAD) files following) says

-- ---- what each block says

-- a file that is swapped out is encoded with connection 0

pub in_none : (f : FlowFile) → IsFlowFile f → IsActiveFile (active 0 f)
in_none f has = record { connection = omega arith; file = has }

file_says : (files : List FlowFile) (f : FlowFile) → IsFlowFile f → last_file_number files < f.number → step_in files (kind_code kinds.File) (active_file (active 0 f)) ≡ Some (Adds (files ++ f ∷ []))
file_says files f has above =
    let greater : nat_lt (last_file_number files) f.number ≡ true = grind (arith, nat_tests, above) in
    ap (file_step files) (whole_again active_file_at active_file IsActiveFile active_file_is (active 0 f) (in_none f has)) ∙ rw greater refl

end_says : (files : List FlowFile) → IsEnding (length files) → step_in files (kind_code kinds.End) (ending (length files)) ≡ Some Ends
end_says files has =
    let same : (length files == length files) ≡ true = grind (arith, nat_tests) in
    ap (end_step files) (whole_again ending_at ending IsEnding ending_is (length files) has) ∙ rw same refl

-- ---- the files

-- these files follow those, one behind the other
record AllFollow (taken left : List FlowFile) : Type 0 where
  pub encoded : All IsFlowFile left
  pub ascends : AscendsByNumber number_of left
  pub above : All (λ f. last_file_number taken < f.number) left

follow_on : (taken left : List FlowFile) (f : FlowFile) → AllFollow taken (f ∷ left) → AllFollow (taken ++ f ∷ []) left
follow_on taken left f follow = record {
  encoded = λ i d lt. follow.encoded (suc i) d (omega (arith, lt));
  ascends = follow.ascends.1;
  above = λ i d lt. let later = follow.ascends.0 i d lt in let last = last_is f taken in omega (arith, later, last);
}

files_read : (file : FileName) (taken left : List FlowFile) (most at count : ℕ) (rest : List ℕ) → AllFollow taken left → count ≡ length left + most
    → (next : ℕ) × (files_from count file at taken (flat_map swapped_block left ++ rest) ≡ files_from most file next (taken ++ left) rest)
files_read file taken [] most at count rest follow is =
    let none : count ≡ most = omega (arith, is) in
    (at, ap (λ (n : ℕ). files_from n file at taken rest) none ∙ ap (λ (l : List FlowFile). files_from most file at l rest) (sym (append-nil taken)))
files_read file taken (f ∷ left) most at count rest follow is =
    let has = follow.encoded 0 f (omega arith) in
    let small = file_at_most (active 0 f) (in_none f has) in
    let step = block_adds file (length left + most) at (kind_code kinds.File) taken (taken ++ f ∷ []) (active_file (active 0 f)) (flat_map swapped_block left ++ rest)
    (omega (arith, small)) (file_says taken f has (follow.above 0 f (omega arith))) in
    let others = files_read file (taken ++ f ∷ []) left most (at + (length (active_file (active 0 f)) + BLOCK_OVERHEAD)) (length left + most) rest (follow_on taken left f follow) refl in
    let more : count ≡ suc (length left + most) = omega (arith, is) in (
      others.0,
      ap (λ (n : ℕ). files_from n file at taken (flat_map swapped_block (f ∷ left) ++ rest)) more
          ∙ ap (λ (l : List ℕ). files_from (suc (length left + most)) file at taken l)
          (ap (λ (l : List ℕ). l ++ rest) (flat_map-cons swapped_block f left) ∙ append_assoc (swapped_block f) (flat_map swapped_block left) rest)
          ∙ step ∙ others.1 ∙ ap (λ (l : List FlowFile). files_from most file others.0 l rest) (append_assoc taken (f ∷ []) left),
    )

-- ---- the whole

no_fewer_bytes : (files : List FlowFile) → length files ≤ length (flat_map swapped_block files)
no_fewer_bytes [] = omega arith
no_fewer_bytes (f ∷ files) =
    let others = no_fewer_bytes files in
    let first = length-block (kind_code kinds.File) (active_file (active 0 f)) in
    omega (arith, others, first, ap length (flat_map-cons swapped_block f files), length-append (swapped_block f) (flat_map swapped_block files))

pub read_back : (file : FileName) (files : List FlowFile) (rest : List ℕ) → IsSwapBatch files → swapped_files file (batch_bytes files ++ rest) ≡ Ok files
read_back file files rest is =
    let fs = flat_map swapped_block files in
    let eb = closing_block (length files) in
    let parted : batch_bytes files ++ rest ≡ fs ++ (eb ++ rest) = append_assoc fs eb rest in
    let size = length (fs ++ (eb ++ rest)) in
    let long : length files ≤ size = omega (arith, no_fewer_bytes files, length-append fs (eb ++ rest)) in
    let spare = size - length files in
    let follow : AllFollow [] files = record {
      encoded = is.encoded;
      ascends = is.ascends;
      above = λ i d lt. let one = (is.encoded i d lt).first_number in omega (arith, one);
    } in
    let counted = ascending_count NUMBER_LIMIT 0 files is.ascends (λ i d lt. (is.encoded i d lt).number) (λ i d lt. omega arith) (omega arith) in
    let ended : IsEnding (length files) = omega (arith, counted) in
    let at_files = files_read file [] files (suc spare) 0 (suc size) (eb ++ rest) follow (omega (arith, long)) in
    ap (swapped_files file) parted ∙ at_files.1
    ∙ block_ends file spare at_files.0 (kind_code kinds.End) files (ending (length files)) rest (omega arith) (end_says files ended)

-- a file that begins with a batch, as a write at its start leaves it
pub stands_written : (file : FileName) (files : List FlowFile) (old new : List ℕ) → IsSwapBatch files → new ≡ batch_bytes files ++ drop (0 + length (batch_bytes files)) old
    → swapped_files file new ≡ Ok files
stands_written file files old new is here = ap (swapped_files file) here ∙ read_back file files (drop (0 + length (batch_bytes files)) old) is
