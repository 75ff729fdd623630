use Rattle.std.proofs.Common.{[], arith}
use Rattle.record_codec.proofs.Parts.{parts_within}
use Rattle.record_codec.proofs.block.size_of.Goals as goal

pub overflow_add-size : goal.overflow_add-size
overflow_add-size c =
    omega (arith, parts_within (λ part. part.now) c.args.parts.now c.loop-part.part-index (record { ref_ptr = (0, 0); now = [] }) c.loop-part-test.true)
