use Rattle.std.proofs.Common.{◌∙◌, ap, ◌+◌}
use Rattle.record_codec.specs.declared.block.TheConstants.{BLOCK_OVERHEAD}
use Rattle.record_codec.proofs.Blocks.{length-block}
use Rattle.record_codec.proofs.block.block_size.Goals as goal

pub returns-clause-encoded : goal.returns-clause-encoded
returns-clause-encoded c = λ kind bytes long. length-block kind bytes ∙ ap (λ n. n + BLOCK_OVERHEAD) long
