-- Parts of live contents: what holds of a content holds of each part of it.
use Rattle.std.proofs.Common.{◌≡◌, ℕ, true, List, length, get_or, ap, subst, ◌∙◌, arith}
use Rattle.std.specs.Prelude.{All}
use Rattle.sha2.specs.Sha256.{sha256}
use Rattle.disk_trait.specs.Files.{Files}
use Rattle.flowfile_record.specs.Ranges.{IsRangeOf}
use Rattle.flowfile_record.specs.Shared.{is_stored}
use Rattle.flowfile_record.specs.declared.content.ContentRef.{ContentRef}
use Rattle.flowfile_record.specs.declared.stored.Placed.{Placed}
use Rattle.content_repo.specs.Claims.{claim, content_in, IsCovered}
use Rattle.content_repo.specs.Slots.{count_of, size_of}
use Rattle.content_repo.specs.declared.slot.Slot.{Slot}
use Rattle.content_repo.proofs.Ranges.{part_same}
use Rattle.machine_model.specs.Changing.{HaveDigests}
use Rattle.store_core.specs.Change.{IsOldLive}
use Rattle.store_core.specs.Placing.{IsHeldIn}
use Rattle.store_core.specs.Store.{StoreState}
use Rattle.store_core.proofs.Following.{Follows}

pub part_held : (slots : List Slot) (at whole : ContentRef) → IsRangeOf at whole → IsHeldIn slots whole → IsHeldIn slots at
part_held slots at whole is held = record {
  held = omega (arith, held.held, ap (count_of slots) is.slot);
  named = (omega (arith, held.named.0, is.slot), omega (arith, held.named.1, is.to));
  within = omega (arith, held.within, is.to, ap (size_of slots) is.slot);
}

pub part_covered : (files : Files) (at whole : ContentRef) → IsRangeOf at whole → IsCovered files whole → IsCovered files at
part_covered files at whole is covered = omega (arith, covered, is.to, ap {B = ℕ} (λ (k : ℕ). length (files (claim k))) is.slot)

-- ---- placed files whose contents are parts of live ones

-- where live contents stay, each of them reads as before
pub parts_stay : (s : StoreState) (old new : Files) (placed : List Placed) → All (IsOldLive s) placed → Follows s old new
    → All (λ (p : Placed). is_stored p.fresh ≡ true → content_in new p.file.content ≡ content_in old p.file.content) placed
parts_stay s old new placed live follows i d lt stored =
    let part = live i d lt stored in
    let same : content_in new part.0 ≡ content_in old part.0 =
    subst (λ (r : ContentRef). content_in new r ≡ content_in old r) part.1.2 (follows.contents part.1.0 part.0 part.1.1).bytes in
    part_same old new (get_or placed i d).file.content part.0 part.2 same

-- and has its digest still
pub digests_stay : (s : StoreState) (old new : Files) (placed : List Placed) → All (IsOldLive s) placed → Follows s old new → HaveDigests (content_in old) placed → HaveDigests (content_in new) placed
digests_stay s old new placed live follows digests i d lt stored = ap sha256 (parts_stay s old new placed live follows i d lt stored) ∙ digests i d lt stored
