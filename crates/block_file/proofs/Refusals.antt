-- Why a block isn't read: by its header, and by its bytes.
use Rattle.std.proofs.Common.{◌≡◌, ℕ, ◌+◌, ◌<◌, ◌≤◌, ltb, cond, Bool, true, false, List, length, take, Some, refl, sym, ap, ◌∙◌, arith}
use Rattle.std.specs.Prelude.{Result, Ok, Err}
use Rattle.std.specs.Int.{w32, from_be_bytes}
use Rattle.std.proofs.lemmas.Bool.{ltb-true, ltb-false}
use Rattle.disk_trait.specs.declared.file_name.FileName.{FileName}
use Rattle.record_codec.specs.Block.{Reading, Whole, Cut, Long, Differs, reading_of, sized, answer_at}
use Rattle.record_codec.specs.Head.{IsWholeHead}
use Rattle.record_codec.specs.declared.block.TheConstants.{PAYLOAD_MAX, HEADER_SIZE, BLOCK_OVERHEAD}
use Rattle.record_codec.specs.declared.block.BlockEnd.{BlockEnd}
use Rattle.record_codec.specs.declared.block.BlockEnd.TheVariants.{Short, TooLong, Digest}
use Rattle.record_codec.specs.declared.block.Block.{Block}
use Rattle.record_codec.proofs.Blocks.{reading_of-head_cut, reading_of-long, reading_of-payload_cut}
use Rattle.block_file.specs.Damage.{damage_by, damage_in}

abbrev Sized : Type 0
Sized = Result ℕ BlockEnd

abbrev refused : BlockEnd → Sized
refused end = Err end

abbrev passed : ℕ → Sized
passed n = Ok n

-- a header cut short
pub header_cut : (file : FileName) (at : ℕ) (bytes : List ℕ) → length bytes < HEADER_SIZE → damage_in file at (reading_of bytes) ≡ Some (damage_by file at (Short HEADER_SIZE (length bytes)))
header_cut file at bytes few = ap (damage_in file at) (reading_of-head_cut bytes few)

module _ (file : FileName) (at : ℕ) (bytes : List ℕ) (some : HEADER_SIZE ≤ length bytes) where
  refuses : (size : ℕ) (long cut : Bool) (end : BlockEnd) → from_be_bytes w32 (take 4 bytes) ≡ size → ltb PAYLOAD_MAX size ≡ long → ltb (length bytes) (size + BLOCK_OVERHEAD) ≡ cut
      → cond long (refused (TooLong size)) (cond cut (refused (Short (size + BLOCK_OVERHEAD) (length bytes))) (passed (size + BLOCK_OVERHEAD))) ≡ refused end
      → damage_in file at (reading_of bytes) ≡ Some (damage_by file at end)
  refuses size true cut end is l c e =
      let same : TooLong size ≡ end = cc in
      ap (damage_in file at) (reading_of-long bytes size some is (ltb-true PAYLOAD_MAX size l)) ∙ ap (λ (x : BlockEnd). Some (damage_by file at x)) same
  refuses size false true end is l c e =
      let same : Short (size + BLOCK_OVERHEAD) (length bytes) ≡ end = cc in
      ap (damage_in file at) (reading_of-payload_cut bytes size some is (ltb-false PAYLOAD_MAX size l) (ltb-true (length bytes) (size + BLOCK_OVERHEAD) c)) ∙ ap (λ (x : BlockEnd). Some (damage_by file at x)) same
  refuses size false false end is l c e = absurd cc

  -- what a header refuses
  pub header_refused : (end : BlockEnd) → refused end ≡ sized (from_be_bytes w32 (take 4 bytes)) (length bytes) → damage_in file at (reading_of bytes) ≡ Some (damage_by file at end)
  header_refused end e = let size = from_be_bytes w32 (take 4 bytes) in refuses size (ltb PAYLOAD_MAX size) (ltb (length bytes) (size + BLOCK_OVERHEAD)) end refl refl refl (sym e)

passes : (bytes : List ℕ) (size n : ℕ) (long cut : Bool) → from_be_bytes w32 (take 4 bytes) ≡ size → ltb PAYLOAD_MAX size ≡ long → ltb (length bytes) (size + BLOCK_OVERHEAD) ≡ cut
    → cond long (refused (TooLong size)) (cond cut (refused (Short (size + BLOCK_OVERHEAD) (length bytes))) (passed (size + BLOCK_OVERHEAD))) ≡ passed n
    → IsWholeHead n bytes
passes bytes size n true cut is l c e = absurd cc
passes bytes size n false true is l c e = absurd cc
passes bytes size n false false is l c e =
    let same : size + BLOCK_OVERHEAD ≡ n = cc in
    record {
      size = sym same ∙ ap (λ (k : ℕ). k + BLOCK_OVERHEAD) (sym is);
      short = omega (arith, same, ltb-false PAYLOAD_MAX size l);
      whole = omega (arith, same, ltb-false (length bytes) (size + BLOCK_OVERHEAD) c);
    }

-- what a header lets stand there
pub header_passed : (bytes : List ℕ) (n : ℕ) → passed n ≡ sized (from_be_bytes w32 (take 4 bytes)) (length bytes) → IsWholeHead n bytes
header_passed bytes n e = let size = from_be_bytes w32 (take 4 bytes) in passes bytes size n (ltb PAYLOAD_MAX size) (ltb (length bytes) (size + BLOCK_OVERHEAD)) refl refl refl (sym e)

abbrev pub Answer : Type 0
Answer = Result Block BlockEnd

abbrev pub none : BlockEnd → Answer
none end = Err end

-- what a reading refuses
pub read_refused : (file : FileName) (at : ℕ) (reading : Reading) (end : BlockEnd) → none end ≡ answer_at 0 reading → damage_in file at reading ≡ Some (damage_by file at end)
read_refused file at (Whole kind payload) end e = absurd cc
read_refused file at (Cut need have) end e =
    let same : Short need have ≡ end = cc in ap (λ (x : BlockEnd). Some (damage_by file at x)) same
read_refused file at (Long size) end e =
    let same : TooLong size ≡ end = cc in ap (λ (x : BlockEnd). Some (damage_by file at x)) same
read_refused file at (Differs stored found) end e =
    let same : Digest stored found ≡ end = cc in ap (λ (x : BlockEnd). Some (damage_by file at x)) same

abbrev pub some : Block → Answer
some block = Ok block

-- where the payload of a block that was read begins
pub found_start : (block : Block) (reading : Reading) (kind : ℕ) (payload : List ℕ) → some block ≡ answer_at 0 reading → reading ≡ Whole kind payload → block.start ≡ HEADER_SIZE
found_start block reading kind payload e is =
    let found : some block ≡ answer_at 0 (Whole kind payload) = e ∙ ap (answer_at 0) is in
    let same : block ≡ record { kind = kind; start = HEADER_SIZE; end = HEADER_SIZE + length payload; next = BLOCK_OVERHEAD + length payload } = cc in
    ap (λ (b : Block). b.start) same
