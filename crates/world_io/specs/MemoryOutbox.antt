-- The files of an outbox in memory.
use Rattle.std.specs.Prelude.{ℕ, List, Option, map}
use Rattle.flowfile_record.specs.NamedFile.{NamedFile, bytes_of}
use Rattle.world_io.specs.Memory.{file_of}
use Rattle.world_io.specs.declared.memory.outbox.MemoryOutbox.{MemoryOutbox}

-- the files that stand in it, each under a name of its own
abbrev pub files_standing : MemoryOutbox → List NamedFile
files_standing outbox = map file_of outbox.files.items

-- what stands under each name
abbrev pub standing_in : MemoryOutbox → List ℕ → Option (List ℕ)
standing_in outbox = bytes_of (files_standing outbox)

-- the files that were put into it, in order, also where a put failed behind its beginning
abbrev pub files_put : MemoryOutbox → List NamedFile
files_put outbox = map file_of outbox.puts.items
