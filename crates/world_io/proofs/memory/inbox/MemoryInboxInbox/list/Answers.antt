use Rattle.std.proofs.Common.{List, ℕ, map, sym, ap, ◌∙◌, subst}
use Rattle.world_io.specs.Inbox.{IsAscending}
use Rattle.world_io.specs.Memory.{file_of}
use Rattle.world_io.proofs.Places.{Stored}
use Rattle.world_io.proofs.memory.inbox.MemoryInboxInbox.list.Goals as goal

pub returns-in-Ok-clause-ascending : goal.returns-in-Ok-clause-ascending
returns-in-Ok-clause-ascending c =
    let ascends : List (List ℕ) → Type 0 = λ names. IsAscending names in
    let names : List Stored → List (List ℕ) = λ files. map (λ file. file.name) (map file_of files) in
    subst ascends (sym (c.in-Ok.ensures ∙ ap names c.deref.ensures.value)) c.args.self.now.ascends
