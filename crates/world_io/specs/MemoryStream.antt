-- The bytes of a source and of a sink in memory.
use Rattle.std.specs.Prelude.{ℕ, List, drop}
use Rattle.world_io.specs.declared.memory.stream.MemorySink.{MemorySink}
use Rattle.world_io.specs.declared.memory.stream.MemorySource.{MemorySource}

-- the bytes that weren't read yet
abbrev pub rest_of : MemorySource → List ℕ
rest_of source = drop source.at source.bytes.items

-- the bytes that were written
abbrev pub written_to : MemorySink → List ℕ
written_to sink = sink.bytes.items
