-- Reading a swap file, block by block.
use Rattle.std.proofs.Common.{◌≡◌, ℕ, suc, ◌+◌, ◌-◌, ◌≤◌, Bool, true, false, IsTrue, List, [], length, drop, Ok, refl, sym, ap, ◌∙◌, subst, zero-add, arith}
use Rattle.std.proofs.lemmas.List.{append-nil}
use Rattle.disk_trait.specs.Files.{Files}
use Rattle.disk_trait.specs.declared.file_name.FileName.{FileName}
use Rattle.flowfile_record.specs.declared.flow_file.FlowFile.{FlowFile}
use Rattle.swap_store.specs.Batch.{batch_bytes, IsSwapBatch}
use Rattle.swap_store.specs.Reading.{Swapped, files_from, swapped_files}
use Rattle.swap_store.specs.Taken.{HasReadBatch}
use Rattle.swap_store.proofs.ReadBack.{read_back}

-- Reading these bytes comes to this offset with these files: one block each stands before it.
pub record ComesTo (file : FileName) (bytes : List ℕ) (at : ℕ) (files : List FlowFile) : Type 0 where
  pub same : (most : ℕ) → files_from (length files + most) file 0 [] bytes ≡ files_from most file at files (drop at bytes)

module _ (file : FileName) (bytes : List ℕ) where
  pub comes_first : (files : List FlowFile) → files ≡ [] → ComesTo file bytes 0 files
  comes_first files none =
      let first : ComesTo file bytes 0 [] = record { same = λ most. ap (λ (n : ℕ). files_from n file 0 [] bytes) (zero-add most) } in
      subst (ComesTo file bytes 0) (sym none) first

  pub comes_on : (at next : ℕ) (old new : List FlowFile) → ComesTo file bytes at old → length new ≡ suc (length old)
      → ((most : ℕ) → files_from (suc most) file at old (drop at bytes) ≡ files_from most file next new (drop next bytes)) → ComesTo file bytes next new
  comes_on at next old new comes one step = record {
    same = λ most.
        let count : length new + most ≡ length old + suc most = omega (arith, one) in
        ap (λ (n : ℕ). files_from n file 0 [] bytes) count ∙ comes.same (suc most) ∙ step most;
  }

  pub comes_to_end : (at : ℕ) (files : List FlowFile) (answer : Swapped) → ComesTo file bytes at files → length files ≤ length bytes
      → ((most : ℕ) → files_from (suc most) file at files (drop at bytes) ≡ answer) → swapped_files file bytes ≡ answer
  comes_to_end at files answer comes few last =
      let most = length bytes - length files in
      let count : suc (length bytes) ≡ length files + suc most = omega (arith, few) in
      ap (λ (n : ℕ). files_from n file 0 [] bytes) count ∙ comes.same (suc most) ∙ last most

-- the bytes of a batch that was read: those of the file, where the disk tells
pub has_read : (tells : Bool) (files : Files) (file : FileName) (batch : List FlowFile) → IsSwapBatch batch → (IsTrue tells → swapped_files file (files file) ≡ Ok batch) → HasReadBatch tells files file batch
has_read true files file batch is says = record { bytes = files file; says = says refl; held = λ told. refl }
has_read false files file batch is says = record {
  bytes = batch_bytes batch;
  says = ap (swapped_files file) (sym (append-nil (batch_bytes batch))) ∙ read_back file batch [] is;
  held = λ told. absurd cc;
}
