use Rattle.std.proofs.Common.{◌≡◌, refl, ◌∙◌}
use Rattle.disk_trait.specs.declared.memory.table.MemoryFile.{MemoryFile}
use Rattle.disk_trait.specs.declared.memory.table.FileTable.{FileTable}
use Rattle.disk_trait.proofs.FileTables.{bytes_at, first_at, Sets, set_here, set_at, set_first_at, sets_from_insert}
use Rattle.disk_trait.proofs.memory.table.FileTable.put.Goals as goal

pub returns-clause-bytes : goal.returns-clause-bytes
returns-clause-bytes c =
    let t = c.args.self.now in
    let name = c.args.name in
    let file : MemoryFile = record { first = c.in_ok-first.first; bytes = c.args.bytes } in
    let u : FileTable = record { files = c.insert.new.self; alloc = t.alloc } in
    let sets : Sets t u name file = sets_from_insert t u name file t.files refl c.in_ok-insert.ensures.updates in
    set_at t u name file sets {step = λ _ new. new ≡ c.args.bytes.items} (bytes_at u name _ (set_here t u name file sets))

pub returns-clause-first : goal.returns-clause-first
returns-clause-first c =
    let t = c.args.self.now in
    let name = c.args.name in
    let file : MemoryFile = record { first = c.in_ok-first.first; bytes = c.args.bytes } in
    let u : FileTable = record { files = c.insert.new.self; alloc = t.alloc } in
    let sets : Sets t u name file = sets_from_insert t u name file t.files refl c.in_ok-insert.ensures.updates in
    set_first_at t u name file sets {step = λ _ new. new ≡ c.args.bytes.items} (first_at u name _ (set_here t u name file sets) ∙ c.in_ok-first.ensures.items ∙ c.as_slice.ensures.value)
