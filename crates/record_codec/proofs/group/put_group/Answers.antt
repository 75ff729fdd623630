use Rattle.std.proofs.Common.{length, length-append, ap, arith}
use Rattle.std.specs.List.{flat_map}
use Rattle.std.specs.Int.{w32, to_be_bytes}
use Rattle.record_codec.specs.Group.{item, group}
use Rattle.record_codec.proofs.Parts.{parts_within}
use Rattle.record_codec.proofs.group.put_group.Goals as goal

pub put_item-requires-clause-room : goal.put_item-requires-clause-room
unfolding group
put_item-requires-clause-room c =
    let xs = c.args.items.now in
    let one = c.item-item.result in
    omega (
      arith,
      parts_within item xs c.loop-item.item-index one c.loop-item-test.true,
      length-append (to_be_bytes w32 (length xs)) (flat_map item xs),
      c.loop-item.invariant.len,
      c.loop-item.invariant.capacity,
      c.requires.room,
      ap (λ i. length (item i)) c.item-item.is,
    )
