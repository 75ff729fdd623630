use Rattle.std.proofs.Common.{◌≡◌, sym, ◌∙◌, ap, length, Some, None, rules, arith}
use Rattle.std.proofs.lemmas.Result.{on_ok_weaker, on_err_weaker}
use Rattle.std.specs.Option.{option_copied_mut}
use Rattle.disk_trait.specs.declared.memory.table.MemoryFile.{MemoryFile}
use Rattle.disk_trait.specs.declared.memory.table.FileTable.{FileTable}
use Rattle.disk_trait.specs.Files.{Overwritten}
use Rattle.disk_trait.specs.MemoryTable.{entry_of, bytes_of}
use Rattle.disk_trait.proofs.FileTables.{bytes_at, first_at, Sets, set_here, set_at, set_has, set_had, same_bytes, same_first, sets_from_lent, sets_from_insert, lent_entry, overwritten_nothing, on_err, kept_bytes, kept_first, kept_has}
use Rattle.disk_trait.proofs.memory.table.FileTable.write.Goals as goal

pub overwrite-requires : goal.overwrite-requires
overwrite-requires c =
    let found : entry_of c.args.self.now c.args.name ≡ Some c.in-Some.file.now = lent_entry c.args.self.now c.args.name c.get_mut.result c.in-Some.file c.get_mut.ensures.value c.in-Some.is in
    omega (arith, ap length (bytes_at c.args.self.now c.args.name _ found), c.requires)

pub returns-in_err-insert-in-None-clause-err : goal.returns-in_err-insert-in-None-clause-err
returns-in_err-insert-in-None-clause-err c =
    let t = c.args.self.now in
    let u : FileTable = record { files = c.insert.new.self; alloc = t.alloc } in
    let same = c.in_err-insert-in-None.ensures.err ∙ ap (λ files. files.entries) c.get_mut.follows.holds-at-none in
    on_err c.from_residual-in_err-insert-in-None.result (kept_bytes t u same)

pub returns-in_err-insert-in-None-clause-first : goal.returns-in_err-insert-in-None-clause-first
returns-in_err-insert-in-None-clause-first c =
    let t = c.args.self.now in
    let u : FileTable = record { files = c.insert.new.self; alloc = t.alloc } in
    let same = c.in_err-insert-in-None.ensures.err ∙ ap (λ files. files.entries) c.get_mut.follows.holds-at-none in
    kept_first t u same

pub returns-in_err-insert-in-None-clause-had : goal.returns-in_err-insert-in-None-clause-had
returns-in_err-insert-in-None-clause-had c =
    let t = c.args.self.now in
    let u : FileTable = record { files = c.insert.new.self; alloc = t.alloc } in
    let same = c.in_err-insert-in-None.ensures.err ∙ ap (λ files. files.entries) c.get_mut.follows.holds-at-none in
    λ f none. sym (kept_has t u same f) ∙ none

pub returns-in-Some-clause-ok : goal.returns-in-Some-clause-ok
returns-in-Some-clause-ok c =
    let t = c.args.self.now in
    let name = c.args.name in
    let file : MemoryFile = record { first = c.in-Some.file.now.first; bytes = c.overwrite.new.file } in
    let u : FileTable = record { files = c.get_mut.follows.lender file; alloc = t.alloc } in
    let found : entry_of t name ≡ Some c.in-Some.file.now = lent_entry t name c.get_mut.result c.in-Some.file c.get_mut.ensures.value c.in-Some.is in
    let sets : Sets t u name file = sets_from_lent t u name file c.in-Some.file.now found (c.get_mut.follows.holds file) in
    let here = bytes_at u name _ (set_here t u name file sets) in
    let was = bytes_at t name _ found in
    on_ok_weaker c.overwrite.result
    (λ written. set_at t u name file sets {step = Overwritten c.args.at c.args.bytes.now} (rw (here, was) written))
    c.overwrite.ensures.ok

pub returns-in-Some-clause-err : goal.returns-in-Some-clause-err
returns-in-Some-clause-err c =
    let t = c.args.self.now in
    let name = c.args.name in
    let file : MemoryFile = record { first = c.in-Some.file.now.first; bytes = c.overwrite.new.file } in
    let u : FileTable = record { files = c.get_mut.follows.lender file; alloc = t.alloc } in
    let found : entry_of t name ≡ Some c.in-Some.file.now = lent_entry t name c.get_mut.result c.in-Some.file c.get_mut.ensures.value c.in-Some.is in
    let sets : Sets t u name file = sets_from_lent t u name file c.in-Some.file.now found (c.get_mut.follows.holds file) in
    let was = bytes_at t name _ found in
    on_err_weaker c.overwrite.result (λ same. same_bytes t u name file sets (same ∙ sym was)) c.overwrite.ensures.err

pub returns-in-Some-clause-first : goal.returns-in-Some-clause-first
returns-in-Some-clause-first c =
    let t = c.args.self.now in
    let name = c.args.name in
    let file : MemoryFile = record { first = c.in-Some.file.now.first; bytes = c.overwrite.new.file } in
    let u : FileTable = record { files = c.get_mut.follows.lender file; alloc = t.alloc } in
    let found : entry_of t name ≡ Some c.in-Some.file.now = lent_entry t name c.get_mut.result c.in-Some.file c.get_mut.ensures.value c.in-Some.is in
    let sets : Sets t u name file = sets_from_lent t u name file c.in-Some.file.now found (c.get_mut.follows.holds file) in
    same_first t u name file sets (sym (first_at t name _ found))

pub returns-in-Some-clause-had : goal.returns-in-Some-clause-had
returns-in-Some-clause-had c =
    let t = c.args.self.now in
    let name = c.args.name in
    let file : MemoryFile = record { first = c.in-Some.file.now.first; bytes = c.overwrite.new.file } in
    let u : FileTable = record { files = c.get_mut.follows.lender file; alloc = t.alloc } in
    let found : entry_of t name ≡ Some c.in-Some.file.now = lent_entry t name c.get_mut.result c.in-Some.file c.get_mut.ensures.value c.in-Some.is in
    let sets : Sets t u name file = sets_from_lent t u name file c.in-Some.file.now found (c.get_mut.follows.holds file) in
    set_had t u name file sets

pub returns-in-Some-clause-has : goal.returns-in-Some-clause-has
returns-in-Some-clause-has c =
    let t = c.args.self.now in
    let name = c.args.name in
    let file : MemoryFile = record { first = c.in-Some.file.now.first; bytes = c.overwrite.new.file } in
    let u : FileTable = record { files = c.get_mut.follows.lender file; alloc = t.alloc } in
    let found : entry_of t name ≡ Some c.in-Some.file.now = lent_entry t name c.get_mut.result c.in-Some.file c.get_mut.ensures.value c.in-Some.is in
    let sets : Sets t u name file = sets_from_lent t u name file c.in-Some.file.now found (c.get_mut.follows.holds file) in
    let has = set_has t u name file sets in
    search rules

pub returns-in_ok-insert-in-None-clause-ok : goal.returns-in_ok-insert-in-None-clause-ok
returns-in_ok-insert-in-None-clause-ok c =
    let t = c.args.self.now in
    let name = c.args.name in
    let file : MemoryFile = record { first = c.new.result; bytes = c.in_ok-from_slice-in-None.field-0 } in
    let u : FileTable = record { files = c.insert.new.self; alloc = t.alloc } in
    let none : entry_of t name ≡ None = sym c.get_mut.ensures.value ∙ ap option_copied_mut c.in-None.is in
    let sets : Sets t u name file = sets_from_insert t u name file c.get_mut.follows.lender-at-none (ap (λ files. files.entries) c.get_mut.follows.holds-at-none) c.in_ok-insert-in-None.ensures.updates in
    set_at t u name file sets {step = Overwritten c.args.at c.args.bytes.now}
    (overwritten_nothing c.args.at c.args.bytes.now (bytes_of t name) (bytes_of u name) (bytes_at t name _ none) (bytes_at u name _ (set_here t u name file sets) ∙ c.in_ok-from_slice-in-None.ensures.items))

pub returns-in_ok-insert-in-None-clause-first : goal.returns-in_ok-insert-in-None-clause-first
returns-in_ok-insert-in-None-clause-first c =
    let t = c.args.self.now in
    let name = c.args.name in
    let file : MemoryFile = record { first = c.new.result; bytes = c.in_ok-from_slice-in-None.field-0 } in
    let u : FileTable = record { files = c.insert.new.self; alloc = t.alloc } in
    let none : entry_of t name ≡ None = sym c.get_mut.ensures.value ∙ ap option_copied_mut c.in-None.is in
    let sets : Sets t u name file = sets_from_insert t u name file c.get_mut.follows.lender-at-none (ap (λ files. files.entries) c.get_mut.follows.holds-at-none) c.in_ok-insert-in-None.ensures.updates in
    same_first t u name file sets (c.new.ensures.items ∙ sym (first_at t name _ none))

pub returns-in_ok-insert-in-None-clause-had : goal.returns-in_ok-insert-in-None-clause-had
returns-in_ok-insert-in-None-clause-had c =
    let t = c.args.self.now in
    let name = c.args.name in
    let file : MemoryFile = record { first = c.new.result; bytes = c.in_ok-from_slice-in-None.field-0 } in
    let u : FileTable = record { files = c.insert.new.self; alloc = t.alloc } in
    let none : entry_of t name ≡ None = sym c.get_mut.ensures.value ∙ ap option_copied_mut c.in-None.is in
    let sets : Sets t u name file = sets_from_insert t u name file c.get_mut.follows.lender-at-none (ap (λ files. files.entries) c.get_mut.follows.holds-at-none) c.in_ok-insert-in-None.ensures.updates in
    set_had t u name file sets

pub returns-in_ok-insert-in-None-clause-has : goal.returns-in_ok-insert-in-None-clause-has
returns-in_ok-insert-in-None-clause-has c =
    let t = c.args.self.now in
    let name = c.args.name in
    let file : MemoryFile = record { first = c.new.result; bytes = c.in_ok-from_slice-in-None.field-0 } in
    let u : FileTable = record { files = c.insert.new.self; alloc = t.alloc } in
    let none : entry_of t name ≡ None = sym c.get_mut.ensures.value ∙ ap option_copied_mut c.in-None.is in
    let sets : Sets t u name file = sets_from_insert t u name file c.get_mut.follows.lender-at-none (ap (λ files. files.entries) c.get_mut.follows.holds-at-none) c.in_ok-insert-in-None.ensures.updates in
    set_has t u name file sets
