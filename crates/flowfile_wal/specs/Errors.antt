-- What the errors of a disk are to who loads a log.
use Rattle.disk_trait.specs.declared.file_name.DiskError.{DiskError}
use Rattle.block_file.specs.declared.error.BlockError.{BlockError}
use Rattle.flowfile_wal.specs.declared.error.LoadError.{LoadError}

abbrev pub disk_load_error : DiskError → LoadError
disk_load_error DiskError.Failed = LoadError.Block BlockError.Disk
disk_load_error DiskError.Memory = LoadError.NoList
