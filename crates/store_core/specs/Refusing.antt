-- Why a call on the way to a store's refuses.
use Rattle.std.specs.Prelude.{ℕ, Result, IfErr, IsErrOf}
use Rattle.disk_trait.specs.Faults.{CountsFaults}
use Rattle.store_core.specs.declared.error.StoreError.{StoreError}
use Rattle.store_core.specs.declared.error.StoreError.TheVariants.{Disk}

-- A call refuses by these errors alone, and by Disk only where the disk's fault count rose.
pub record RefusesBy {D A : Type 0} (Kinds : StoreError → Type 0) (result : Result A StoreError) (faults : D → ℕ)
    (old new : D) : Type 0 where
  pub kinds : IfErr result Kinds
  pub cause : CountsFaults (faults old) (faults new) (IsErrOf result Disk)
