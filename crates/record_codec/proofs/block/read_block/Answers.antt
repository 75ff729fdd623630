use Rattle.std.proofs.Common.{◌∙◌, ap}
use Rattle.record_codec.specs.Block.{answer_at}
use Rattle.record_codec.proofs.Blocks.{reading_of-anywhere}
use Rattle.record_codec.proofs.block.read_block.Goals as goal

pub returns-clause-only : goal.returns-clause-only
returns-clause-only c = λ front rest payload kind long small is.
    c.read_whole.ensures.read ∙ ap (answer_at c.args.at) (reading_of-anywhere c.args.bytes.now front rest payload c.args.at kind long small is)
