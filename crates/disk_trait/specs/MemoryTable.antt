-- What a table of files holds under a name.
use Rattle.std.specs.Prelude.{ℕ, Bool, List, [], Option, None, Some, is_some}
use Rattle.std.specs.BTreeMap.{get}
use Rattle.disk_trait.specs.declared.file_name.FileName.{FileName}
use Rattle.disk_trait.specs.declared.memory.table.MemoryFile.{MemoryFile}
use Rattle.disk_trait.specs.declared.memory.table.FileTable.{FileTable}
use Rattle.disk_trait.specs.contracts.file_name.FileNameOrd.TheImpl as order

abbrev pub entry_of : FileTable → FileName → Option MemoryFile
entry_of table name = get order.ghosts.cmp table.files name

abbrev pub now_in : Option MemoryFile → List ℕ
now_in None = []
now_in (Some file) = file.bytes.items

abbrev pub first_in : Option MemoryFile → List ℕ
first_in None = []
first_in (Some file) = file.first.items

-- the bytes under the name
unfoldable pub bytes_of : FileTable → FileName → List ℕ
bytes_of table name = now_in (entry_of table name)

-- the bytes under the name that the table began with
unfoldable pub first_of : FileTable → FileName → List ℕ
first_of table name = first_in (entry_of table name)

-- whether the table has an entry, empty or not, under the name
unfoldable pub has_file : FileTable → FileName → Bool
has_file table name = is_some (entry_of table name)
