use Rattle.std.proofs.Common.{length, ap, arith, length-append}
use Rattle.record_codec.specs.Snapshot.{swap_batch}
use Rattle.record_codec.proofs.Sizes.{swap_batch_size}
use Rattle.checkpoint_store.proofs.output.Output.put_batch.Goals as goal

pub put_block-requires-clause-size : goal.put_block-requires-clause-size
put_block-requires-clause-size c =
    let items = rw c.unwrap.ensures at c.write_swap_batch.ensures.ok in
    omega (arith, ap length items, ap length c.clear.ensures.items, length-append c.clear.new.self.items (swap_batch c.args.batch.now), swap_batch_size c.args.batch.now, c.requires.room.0.files)
