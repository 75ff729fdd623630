use Rattle.record_codec.proofs.BlockContents.{one_held, group_held}
use Rattle.record_codec.proofs.block_entries.blocks_hold_their_entries.Goals as goal

pub returns : goal.returns
returns c = record { one = one_held; several = group_held }
