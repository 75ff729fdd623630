-- The files of an inbox in memory.
use Rattle.std.specs.Prelude.{List, map}
use Rattle.flowfile_record.specs.NamedFile.{NamedFile}
use Rattle.world_io.specs.Memory.{file_of}
use Rattle.world_io.specs.declared.memory.inbox.MemoryInbox.{MemoryInbox}

-- the files that are left in it
abbrev pub files_left : MemoryInbox → List NamedFile
files_left inbox = map file_of inbox.files.items
