use Rattle.std.proofs.Common.{◌∙◌, List, Option, ℕ, position, ap}
use Rattle.world_io.proofs.Places.{Stored, is_of}
use Rattle.world_io.proofs.Standing.{found-stands}
use Rattle.world_io.proofs.memory.outbox.MemoryOutboxOutbox.holds.Goals as goal

pub returns-clause-holds : goal.returns-clause-holds
returns-clause-holds c =
    let place : List Stored → Option ℕ = λ files. position (is_of c.args.name.now) files in
    c.is_some.ensures ∙ found-stands c.args.name.now c.args.self.now.files.items c.place_among.result (c.place_among.ensures ∙ ap place c.deref.ensures.value)
