-- Which files a run changes.
use Rattle.std.proofs.Common.{◌≡◌, inl, inr, ℕ, ◌+◌, Bool, IsTrue, subst, arith}
use Rattle.std.specs.Prelude.{Option, Some}
use Rattle.disk_trait.specs.Files.{Files}
use Rattle.disk_trait.specs.Images.{After}
use Rattle.disk_trait.proofs.Moments.{wider_at_each, one_part_after_another, left_at_the_end}
use Rattle.flowfile_wal.specs.Current.{current_number}
use Rattle.store_core.specs.Calls.{SinceSync}
use Rattle.store_core.specs.Touched.{OnlyShortens, Revives, log_opened}
use Rattle.store_core.proofs.Cutting.{shortened_in_turn}
use Rattle.run_law.specs.Work.{WritesFrom, WritesLog}
use Rattle.run_top.specs.Run.{MayWrite, WritesAlone}

revived_shortens : (files c : Files) → Revives (current_number files) files c → OnlyShortens (MayWrite files) files c
revived_shortens files c revived f other = revived.shorter f (λ is. other (inl is))

both_shorten : (files d c : Files) → Revives (current_number files) files d → WritesFrom (Some (log_opened (current_number files))) d c → OnlyShortens (MayWrite files) files c
both_shorten files d c revived written f other = shortened_in_turn 0 (files f) (d f) (c f) (revived.shorter f (λ is. other (inl is))) (written.shorter f (λ is. other (inr is)))

module _ {D : Type 0} (moment : D → ℕ) (images : D → ℕ → Files → Type 0) (files : Files) where
  pub opens_alone : (old new : D) → SinceSync moment images old new (Revives (current_number files) files) → WritesAlone moment images files old new
  opens_alone old new since =
      wider_at_each moment images (moment old + 1) old new (λ k c. Revives (current_number files) files c) (λ k c. OnlyShortens (MayWrite files) files c) since
      (λ k c from up left revived. revived_shortens files c revived)

  pub runs_alone : (tells : Bool) (log : Option ℕ) (old mid new : D) → ((disk : D) (k : ℕ) (c : Files) → images disk k c → IsTrue tells)
      → (IsTrue tells → log ≡ Some (log_opened (current_number files)))
      → SinceSync moment images old mid (Revives (current_number files) files) → WritesLog moment images log mid new → WritesAlone moment images files old new
  runs_alone tells log old mid new told is first second =
      one_part_after_another moment images (moment old + 1) (moment mid) old mid new
      (λ k c. Revives (current_number files) files c) (λ k c. After (WritesFrom log) (images mid (moment mid)) c) (λ k c. OnlyShortens (MayWrite files) files c)
      first second (omega arith)
      (λ k c from early revived. revived_shortens files c revived)
      (λ k c late up left after.
      both_shorten files after.0 c
      (left_at_the_end moment images (moment old + 1) old mid (λ k c. Revives (current_number files) files c) first after.0 after.1)
      (subst (λ (l : Option ℕ). WritesFrom l after.0 c) (is (told new k c left)) after.2))
