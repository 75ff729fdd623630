use Rattle.std.proofs.Common.{length, ap, arith, length-append}
use Rattle.record_codec.specs.ActiveFile.{active_file}
use Rattle.record_codec.proofs.Sizes.{file_at_most}
use Rattle.checkpoint_store.proofs.output.Output.put_file.Goals as goal

pub unwrap-requires : goal.unwrap-requires
unwrap-requires c =
    c.write_active_file.ensures.room (omega (arith, file_at_most c.args.active.now c.requires.file, c.clear.ensures.len, c.clear.ensures.capacity, c.requires.room.0.files, c.requires.room.0.payload))

pub put_block-requires-clause-size : goal.put_block-requires-clause-size
put_block-requires-clause-size c =
    let items = rw c.unwrap.ensures at c.write_active_file.ensures.ok in
    omega (arith, ap length items, ap length c.clear.ensures.items, length-append c.clear.new.self.items (active_file c.args.active.now), file_at_most c.args.active.now c.requires.file, c.requires.room.0.files)
