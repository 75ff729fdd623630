use Rattle.record_codec.proofs.Blocks.{one_encoding}
use Rattle.record_codec.proofs.block.blocks_have_one_encoding.Goals as goal

pub returns : goal.returns
returns c = one_encoding
