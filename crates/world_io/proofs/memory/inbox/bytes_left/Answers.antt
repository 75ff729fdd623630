use Rattle.std.proofs.Common.{List, ℕ, Some, sym, ap, ◌∙◌}
use Rattle.world_io.proofs.Places.{Stored, bytes_of-place}
use Rattle.world_io.proofs.memory.inbox.bytes_left.Goals as goal

pub returns : goal.returns
returns c =
    let file = c.index-files-place_left in
    bytes_of-place c.args.name.now c.args.files.now c.place_left.result file.result c.place_left.ensures ∙ ap (λ (stored : Stored). Some stored.1.items) (sym file.is) ∙ ap (λ (bytes : List ℕ). Some bytes) (sym c.deref.ensures.value)
