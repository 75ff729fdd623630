-- Blocks on their way into a file.
use Rattle.std.specs.Prelude.{◌≡◌, ℕ, Bool, IsTrue, List, ◌++◌, length}
use Rattle.disk_trait.specs.Files.{Files, At, Overwritten, Torn}
use Rattle.disk_trait.specs.Images.{After, Since}
use Rattle.disk_trait.specs.declared.file_name.FileName.{FileName}

-- From a call's start to now these bytes were put: the first of them stand in the file from its start on, up to this
-- offset, and the others in a piece that isn't written yet.
pub record IsPut {D : Type 0} (tells : Bool) (holds : D → Files) (moment : D → ℕ) (images : D → ℕ → Files → Type 0)
    (file : FileName) (start now : D) (offset : ℕ) (piece bytes : List ℕ) : Type 0 where
  pub written : List ℕ
  pub split : bytes ≡ written ++ piece
  pub size : length written ≡ offset
  pub held : IsTrue tells → At file (Overwritten 0 written) (holds start) (holds now)
  pub left : Since moment images start now (After (At file (Torn 0 offset)) (images start (moment start)))

-- From a call's start to now at most the first so many bytes of the file were written.
abbrev pub Within : {D : Type 0} → (D → ℕ) → (D → ℕ → Files → Type 0) → FileName → (start now : D) → ℕ → Type 0
Within moment images file start now size =
    Since moment images start now (After (At file (Torn 0 size)) (images start (moment start)))
