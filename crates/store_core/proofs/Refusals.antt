-- What the errors of the repositories tell, once they are the store's.
use Rattle.std.proofs.Common.{◌≡◌, inl, inr, refl, ap}
use Rattle.disk_trait.specs.declared.damage.Damage.{Damage}
use Rattle.disk_trait.specs.declared.file_name.DiskError.{DiskError}
use Rattle.block_file.specs.declared.error.BlockError.{BlockError}
use Rattle.content_repo.specs.declared.error.ContentError.{ContentError}
use Rattle.flowfile_wal.specs.declared.error.LoadError.{LoadError}
use Rattle.store_core.specs.Calls.{IsDiskOrMemory, IsDiskMemoryOrDamage}
use Rattle.store_core.specs.Errors.{disk_store_error, of_block, of_load, of_content}
use Rattle.store_core.specs.declared.error.StoreError.{StoreError}

pub block_damaged : (e : BlockError) (damage : Damage) → of_block e ≡ StoreError.Damaged damage → e ≡ BlockError.Damaged damage
block_damaged BlockError.Disk damage is = absurd cc
block_damaged BlockError.Memory damage is = absurd cc
block_damaged (BlockError.Damaged other) damage is = cc

pub load_damaged : (e : LoadError) (damage : Damage) → of_load e ≡ StoreError.Damaged damage → e ≡ LoadError.Block (BlockError.Damaged damage)
load_damaged LoadError.NoList damage is = absurd cc
load_damaged (LoadError.Block error) damage is = ap (λ (e : BlockError). LoadError.Block e) (block_damaged error damage is)

pub content_damaged : (e : ContentError) (damage : Damage) → of_content e ≡ StoreError.Damaged damage → e ≡ ContentError.Damaged damage
content_damaged ContentError.Disk damage is = absurd cc
content_damaged ContentError.Memory damage is = absurd cc
content_damaged ContentError.SlotsFull damage is = absurd cc
content_damaged (ContentError.Damaged other) damage is = cc

pub content_memory : (e : ContentError) → of_content e ≡ StoreError.Memory → e ≡ ContentError.Memory
content_memory ContentError.Disk is = absurd cc
content_memory ContentError.Memory is = refl
content_memory ContentError.SlotsFull is = absurd cc
content_memory (ContentError.Damaged other) is = absurd cc

pub disk_refuses : (e : DiskError) → IsDiskOrMemory (disk_store_error e)
disk_refuses DiskError.Failed = inl refl
disk_refuses DiskError.Memory = inr refl

pub block_refuses : (e : BlockError) → IsDiskMemoryOrDamage (of_block e)
block_refuses BlockError.Disk = inl refl
block_refuses BlockError.Memory = inr (inl refl)
block_refuses (BlockError.Damaged damage) = inr (inr (damage, refl))

pub load_refuses : (e : LoadError) → IsDiskMemoryOrDamage (of_load e)
load_refuses LoadError.NoList = inr (inl refl)
load_refuses (LoadError.Block error) = block_refuses error
