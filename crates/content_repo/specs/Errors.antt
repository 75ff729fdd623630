-- Why a call gave no answer.
use Rattle.std.specs.Prelude.{◌≡◌, ◌≢◌, ℕ, Result, IfErr, IsErr}
use Rattle.disk_trait.specs.Faults.{CountsFaults}
use Rattle.disk_trait.specs.declared.damage.Damage.{Damage}
use Rattle.disk_trait.specs.declared.file_name.DiskError.{DiskError}
use Rattle.disk_trait.specs.declared.file_name.DiskError.TheVariants.{Failed}
use Rattle.content_repo.specs.declared.error.ContentError.{ContentError}
use Rattle.content_repo.specs.declared.error.ContentError.TheVariants.{Disk, Memory, SlotsFull, Damaged}

-- what a disk's refusal is to who asks for contents
abbrev pub error_of : DiskError → ContentError
error_of Failed = Disk
error_of DiskError.Memory = Memory

-- the one refusal is Disk, and it comes only where the disk's fault count rose
pub record RefusesOnFault {A : Type 0} (result : Result A ContentError) (before now : ℕ) : Type 0 where
  pub refusal : IfErr result (λ error. error ≡ Disk)
  pub cause : CountsFaults before now (IsErr result)

-- a refusal that no content and no slot is the cause of
pub record IsNeitherFullNorDamaged (error : ContentError) : Type 0 where
  pub not_full : error ≢ SlotsFull
  pub not_damaged : (damage : Damage) → error ≢ Damaged damage
