-- What the errors of the repositories are to who asks for the store.
use Rattle.disk_trait.specs.declared.file_name.DiskError.{DiskError}
use Rattle.block_file.specs.declared.error.BlockError.{BlockError}
use Rattle.content_repo.specs.declared.error.ContentError.{ContentError}
use Rattle.flowfile_wal.specs.declared.error.LoadError.{LoadError}
use Rattle.store_core.specs.Change.{claims_full}
use Rattle.store_core.specs.declared.error.StoreError.{StoreError}

abbrev pub disk_store_error : DiskError → StoreError
disk_store_error DiskError.Failed = StoreError.Disk
disk_store_error DiskError.Memory = StoreError.Memory

abbrev pub of_block : BlockError → StoreError
of_block BlockError.Disk = StoreError.Disk
of_block BlockError.Memory = StoreError.Memory
of_block (BlockError.Damaged damage) = StoreError.Damaged damage

abbrev pub of_load : LoadError → StoreError
of_load LoadError.NoList = StoreError.Memory
of_load (LoadError.Block error) = of_block error

abbrev pub of_content : ContentError → StoreError
of_content ContentError.Disk = StoreError.Disk
of_content ContentError.Memory = StoreError.Memory
of_content ContentError.SlotsFull = StoreError.Limit claims_full
of_content (ContentError.Damaged damage) = StoreError.Damaged damage
