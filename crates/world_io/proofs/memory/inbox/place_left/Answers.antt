use Rattle.std.proofs.Common.{sym, ◌∙◌}
use Rattle.world_io.proofs.Places.{place-some, place-of}
use Rattle.world_io.proofs.memory.inbox.place_left.Goals as goal

pub unwrap-requires : goal.unwrap-requires
unwrap-requires c = place-some c.args.name.now c.args.files.now c.place_of.result c.place_of.ensures c.requires

pub returns : goal.returns
returns c = place-of c.args.name.now c.args.files.now c.unwrap.result (sym c.place_of.ensures ∙ c.unwrap.ensures)
