-- A disk that tells nothing has no images.
use Rattle.std.proofs.Common.{ℕ, ◌≤◌}
use Rattle.disk_trait.specs.Files.{Files}
use Rattle.disk_trait.specs.Images.{Since}

pub since_nothing : {D : Type 0} (moment : D → ℕ) (old new : D) (P : Files → Type 0) → moment old ≤ moment new → Since moment (λ _ _ _. ⊥) old new P
since_nothing moment old new P later = record {
  later = later;
  begun = later;
  past = λ k c before none. none;
  kept = λ k c before none. none;
  each = λ k c from to none. absurd none;
}
