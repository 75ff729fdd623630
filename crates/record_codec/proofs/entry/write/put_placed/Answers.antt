use Rattle.std.proofs.Common.{length, length-append, ap, arith}
use Rattle.std.specs.List.{flat_map}
use Rattle.std.specs.Int.{w32, to_be_bytes}
use Rattle.record_codec.specs.ActiveFile.{active_file}
use Rattle.record_codec.proofs.Parts.{parts_within}
use Rattle.record_codec.proofs.entry.write.put_placed.Goals as goal

pub put_active_file-requires-clause-room : goal.put_active_file-requires-clause-room
put_active_file-requires-clause-room c =
    let xs = c.args.placed.now in
    let one = c.one-item.result in
    omega (
      arith,
      parts_within active_file xs c.loop-one.one-index one c.loop-one-test.true,
      length-append (to_be_bytes w32 (length xs)) (flat_map active_file xs),
      c.loop-one.invariant.len,
      c.loop-one.invariant.capacity,
      c.requires.room,
      ap (λ a. length (active_file a)) c.one-item.is,
    )
