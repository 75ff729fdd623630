-- What a block that has no place says.
use Rattle.std.proofs.Common.{◌≡◌, ◌≢◌, ◌==◌, ◌+◌, ℕ, suc, true, false, List, [], ◌∷◌, ◌++◌, length, drop, Result, Ok, Err, None, Some, refl, sym, ap, ◌∙◌, arith}
use Rattle.disk_trait.specs.declared.damage.Damage.{Damage}
use Rattle.disk_trait.specs.declared.file_name.FileName.{FileName}
use Rattle.flowfile_record.specs.declared.stored.ActiveFile.{ActiveFile}
use Rattle.flowfile_record.specs.declared.stored.SwapBatch.{SwapBatch}
use Rattle.record_codec.specs.Block.{Reading, Whole, reading_of}
use Rattle.std.proofs.lemmas.Bool.Decides.{nat_tests}
use Rattle.flowfile_record.specs.Reading.{answer}
use Rattle.flowfile_record.specs.Stored.{Kept}
use Rattle.flowfile_record.specs.declared.error.CodecError.{CodecError}
use Rattle.record_codec.specs.Snapshot.{kind_code}
use Rattle.record_codec.specs.declared.snapshot.SnapshotKind.{SnapshotKind}
use Rattle.record_codec.specs.declared.snapshot.SnapshotKind.TheVariants as kinds
use Rattle.checkpoint_store.specs.Reading.{More, said, behind_block, blocks_from, file_may_join, batch_may_follow, first_block_kept, next_in, file_next, batch_next, end_next, snapshot_of}
use Rattle.checkpoint_store.specs.Snapshot.{blocks_in}

abbrev done : {A : Type 0} → A → Result A CodecError
done x = Ok x

pub read_ok : {A : Type 0} (size : ℕ) (x : A) (read : Result A ℕ) → done x ≡ answer size read → read ≡ Ok x
read_ok size x (Ok y) e = cc
read_ok size x (Err left) e = absurd cc

-- another number of blocks
pub not_the_end : (k : Kept) (size blocks : ℕ) (read : Result ℕ ℕ) → done blocks ≡ answer size read → blocks ≢ blocks_in k → end_next k read ≡ None
not_the_end k size blocks read e apart =
    let other : (blocks == blocks_in k) ≡ false = grind (arith, nat_tests, apart) in
    ap (end_next k) (read_ok size blocks read e) ∙ rw other refl

module _ (kind : ℕ) (none : (holds : SnapshotKind) → kind_code holds ≡ kind → ⊥) (payload : List ℕ) where
  pub no_first : (version : ℕ) → first_block_kept version kind payload ≡ None
  no_first version =
      let apart : kind ≢ 10 = λ e. none kinds.Head (sym e) in
      let other : (kind == 10) ≡ false = grind (arith, nat_tests, apart) in
      rw other refl

  pub no_next : (k : Kept) → next_in k kind payload ≡ None
  no_next k =
      let apart_file : kind ≢ 11 = λ e. none kinds.File (sym e) in
      let apart_batch : kind ≢ 12 = λ e. none kinds.Batch (sym e) in
      let apart_end : kind ≢ 13 = λ e. none kinds.End (sym e) in
      let file : (kind == 11) ≡ false = grind (arith, nat_tests, apart_file) in
      let batch : (kind == 12) ≡ false = grind (arith, nat_tests, apart_batch) in
      let end : (kind == 13) ≡ false = grind (arith, nat_tests, apart_end) in
      rw (file, batch, end) refl

-- ---- a part that is wanted joins

pub batch_follows : (k : Kept) (b : SwapBatch) (size : ℕ) (read : Result SwapBatch ℕ) → done b ≡ answer size read → batch_may_follow k b ≡ true → (now : Kept) × (batch_next k read ≡ Some (More now))
batch_follows k b size read e follows = (record k { batches = k.batches ++ b ∷ [] }, ap (batch_next k) (read_ok size b read e) ∙ rw follows refl)

pub file_follows : (k : Kept) (a : ActiveFile) (size : ℕ) (read : Result ActiveFile ℕ) → done a ≡ answer size read → file_may_join k a ≡ true → (now : Kept) × (file_next k read ≡ Some (More now))
file_follows k a size read e joins = (record k { files = k.files ++ a ∷ [] }, ap (file_next k) (read_ok size a read e) ∙ rw joins refl)

-- ---- the first block

-- what follows a block
abbrev following : FileName → List ℕ → Kept → ℕ → Result Kept Damage
following file bytes k size = blocks_from (suc (length bytes)) file size k (drop size bytes)

pub behind_first : (version : ℕ) (file : FileName) (bytes : List ℕ) (kind : ℕ) (payload : List ℕ) (k : Kept) (next : ℕ) → reading_of bytes ≡ Whole kind payload → first_block_kept version kind payload ≡ Some k
    → next ≡ length payload + 37 → snapshot_of version file bytes ≡ blocks_from (suc (length bytes)) file next k (drop next bytes)
behind_first version file bytes kind payload k next read first size =
    ap (λ (r : Reading). behind_block file 0 (first_block_kept version) r (following file bytes)) read
    ∙ ap (said file 0 (length payload + 37) (following file bytes)) first ∙ ap (following file bytes k) (sym size)
