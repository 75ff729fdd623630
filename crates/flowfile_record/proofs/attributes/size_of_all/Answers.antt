use Rattle.std.proofs.Common.{arith}
use Rattle.flowfile_record.proofs.Held.{size_within, size_more}
use Rattle.flowfile_record.proofs.attributes.size_of_all.Goals as goal

pub size-size-requires : goal.size-size-requires
size-size-requires c =
    omega (arith, size_within c.args.pairs.now c.loop-pair.pair-index c.pair-item.result (omega arith) c.pair-item.is)

pub overflow_add-size : goal.overflow_add-size
overflow_add-size c =
    let more = size_more c.args.pairs.now c.loop-pair.pair-index c.pair-item.result (omega arith) c.pair-item.is in
    omega arith
