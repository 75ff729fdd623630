use Rattle.std.proofs.Common.{arith}
use Rattle.record_codec.proofs.Blocks.{length-block}
use Rattle.checkpoint_store.proofs.output.Output.put_block.Goals as goal

pub unwrap-requires : goal.unwrap-requires
unwrap-requires c =
    c.append_block.ensures.room (omega (arith, length-block c.code.result c.as_slice.result.now, c.as_slice.ensures.len, c.requires.size, c.requires.room.1, c.requires.room.0.piece))
