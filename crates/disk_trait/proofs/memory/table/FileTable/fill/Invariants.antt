use Rattle.std.proofs.Common.{◌≡◌, ◌++◌}
use Rattle.std.specs.BTreeMap.{keys}
use Rattle.disk_trait.proofs.FileLists.{numbers_of}
use Rattle.disk_trait.proofs.memory.table.FileTable.fill.Given as goal

abbrev pub invariant-loop-name : goal.invariant-loop-name
invariant-loop-name l = l.list.items ++ numbers_of l.self l.kind l.name-iterator ≡ numbers_of l.self l.kind (keys l.self.files)
