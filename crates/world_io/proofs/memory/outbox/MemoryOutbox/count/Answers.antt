use Rattle.std.proofs.Common.{List, ℕ, subst}
use Rattle.world_io.specs.Memory.{EachOnce, names_of}
use Rattle.world_io.proofs.Once.{once-from_distinct}
use Rattle.world_io.proofs.Places.{names-of}
use Rattle.world_io.proofs.memory.outbox.MemoryOutbox.count.Goals as goal

pub returns-clause-once : goal.returns-clause-once
returns-clause-once c =
    let outbox = c.args.self.now in
    let once : List (List ℕ) → Type 0 = λ names. EachOnce names in
    subst once (names-of outbox.files.items) (once-from_distinct (names_of outbox.files.items) outbox.once)
