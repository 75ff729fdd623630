use Rattle.std.proofs.Common.{◌≡◌, sym, ◌∙◌, ap, length, take, [], Some, ◌≤◌, arith}
use Rattle.std.proofs.lemmas.List.{take_all}
use Rattle.disk_trait.specs.declared.memory.table.MemoryFile.{MemoryFile}
use Rattle.disk_trait.specs.declared.memory.table.FileTable.{FileTable}
use Rattle.disk_trait.specs.MemoryTable.{entry_of, bytes_of}
use Rattle.disk_trait.proofs.FileTables.{bytes_at, first_at, has_at, Sets, set_here, set_at, same_first, same_has, sets_from_lent, lent_entry, lent_none, kept_bytes}
use Rattle.disk_trait.proofs.memory.table.FileTable.cut.Goals as goal

pub returns-in-Some-clause-cut : goal.returns-in-Some-clause-cut
returns-in-Some-clause-cut c =
    let t = c.args.self.now in
    let name = c.args.name in
    let file : MemoryFile = record { first = c.in-Some.file.now.first; bytes = c.truncate.new.self } in
    let u : FileTable = record { files = c.get_mut.follows.lender file; alloc = t.alloc } in
    let found : entry_of t name ≡ Some c.in-Some.file.now = lent_entry t name c.get_mut.result c.in-Some.file c.get_mut.ensures.value c.in-Some.is in
    let sets : Sets t u name file = sets_from_lent t u name file c.in-Some.file.now found (c.get_mut.follows.holds file) in
    set_at t u name file sets {step = λ old new. new ≡ take c.args.size old} (bytes_at u name _ (set_here t u name file sets) ∙ c.truncate.ensures.items ∙ ap (take c.args.size) (sym (bytes_at t name _ found)))

pub returns-in-Some-clause-first : goal.returns-in-Some-clause-first
returns-in-Some-clause-first c =
    let t = c.args.self.now in
    let name = c.args.name in
    let file : MemoryFile = record { first = c.in-Some.file.now.first; bytes = c.truncate.new.self } in
    let u : FileTable = record { files = c.get_mut.follows.lender file; alloc = t.alloc } in
    let found : entry_of t name ≡ Some c.in-Some.file.now = lent_entry t name c.get_mut.result c.in-Some.file c.get_mut.ensures.value c.in-Some.is in
    let sets : Sets t u name file = sets_from_lent t u name file c.in-Some.file.now found (c.get_mut.follows.holds file) in
    same_first t u name file sets (sym (first_at t name _ found))

pub returns-in-Some-clause-had : goal.returns-in-Some-clause-had
returns-in-Some-clause-had c =
    let t = c.args.self.now in
    let name = c.args.name in
    let file : MemoryFile = record { first = c.in-Some.file.now.first; bytes = c.truncate.new.self } in
    let u : FileTable = record { files = c.get_mut.follows.lender file; alloc = t.alloc } in
    let found : entry_of t name ≡ Some c.in-Some.file.now = lent_entry t name c.get_mut.result c.in-Some.file c.get_mut.ensures.value c.in-Some.is in
    let sets : Sets t u name file = sets_from_lent t u name file c.in-Some.file.now found (c.get_mut.follows.holds file) in
    same_has t u name file sets (has_at t name _ found)

pub returns-in_default-clause-cut : goal.returns-in_default-clause-cut
returns-in_default-clause-cut c =
    let t = c.args.self.now in
    let name = c.args.name in
    let u : FileTable = record { files = c.get_mut.follows.lender-at-none; alloc = t.alloc } in
    let kept = kept_bytes t u (ap (λ files. files.entries) c.get_mut.follows.holds-at-none) in
    let none : bytes_of t name ≡ [] = bytes_at t name _ (lent_none t name c.get_mut.result c.get_mut.ensures.value c.in_default.not-Some) in
    let short : length (bytes_of t name) ≤ c.args.size = omega (arith, ap length none) in
    record { here = kept name ∙ sym (take_all c.args.size (bytes_of t name) short); others = λ f other. kept f }
