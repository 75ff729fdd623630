use Rattle.std.proofs.Common.{sym, ◌∙◌, ap}
use Rattle.std.specs.Option.{option_copied}
use Rattle.disk_trait.proofs.FileTables.{first_at}
use Rattle.disk_trait.proofs.memory.table.FileTable.first.Goals as goal

pub returns-in-Some : goal.returns-in-Some
returns-in-Some c = c.as_slice.ensures.value ∙ sym (first_at _ _ _ (sym c.get.ensures.value ∙ ap option_copied c.in-Some.is))

pub returns-in-None : goal.returns-in-None
returns-in-None c = sym (first_at _ _ _ (sym c.get.ensures.value ∙ ap option_copied c.in-None.is))
