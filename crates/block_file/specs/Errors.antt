-- What the errors of a disk are to who reads blocks.
use Rattle.disk_trait.specs.declared.file_name.DiskError.{DiskError}
use Rattle.block_file.specs.declared.error.BlockError.{BlockError}

abbrev pub disk_block_error : DiskError → BlockError
disk_block_error DiskError.Failed = BlockError.Disk
disk_block_error DiskError.Memory = BlockError.Memory
