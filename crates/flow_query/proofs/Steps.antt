-- A disk that is only read, again and again.
use Rattle.std.proofs.Common.{ℕ, refl, ◌∙◌}
use Rattle.disk_trait.specs.Files.{Files}
use Rattle.disk_trait.specs.Images.{Stays}

module _ {D : Type 0} (held : D → Files) (moment : D → ℕ) (images : D → ℕ → Files → Type 0) where
  pub stays_still : (d : D) → Stays held moment images d d
  stays_still d = record { files = refl; time = refl; past = λ k c left. left; kept = λ k c left. left }

  pub stays_on : (old mid new : D) → Stays held moment images old mid → Stays held moment images mid new → Stays held moment images old new
  stays_on old mid new one more = record {
    files = more.files ∙ one.files;
    time = more.time ∙ one.time;
    past = λ k c left. one.past k c (more.past k c left);
    kept = λ k c left. more.kept k c (one.kept k c left);
  }
