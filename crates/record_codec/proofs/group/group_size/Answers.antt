use Rattle.std.proofs.Common.{length, length-append, take, ap, arith}
use Rattle.std.specs.Prelude.{slice_index_or}
use Rattle.std.specs.List.{flat_map}
use Rattle.std.specs.Int.{w32, to_be_bytes}
use Rattle.record_codec.specs.Group.{item, group}
use Rattle.record_codec.proofs.Parts.{one_part_more, parts_within}
use Rattle.record_codec.proofs.Sizes.{item_size}
use Rattle.record_codec.proofs.group.group_size.Goals as goal

pub overflow_add-size-in-loop-item : goal.overflow_add-size-in-loop-item
unfolding group
overflow_add-size-in-loop-item c =
    let xs = c.args.items.now in
    let one = c.item-item.result in
    omega (
      arith,
      parts_within item xs c.loop-item.item-index one c.loop-item-test.true,
      length-append (to_be_bytes w32 (length xs)) (flat_map item xs),
      c.loop-item.invariant,
      c.requires.size,
      item_size one,
      ap (λ i. length (item i)) c.item-item.is,
      c.len.ensures,
    )

pub loop-item-preserved : goal.loop-item-preserved
loop-item-preserved c =
    let xs = c.args.items.now in
    let i = c.loop-item.item-index in
    let one = c.item-item.result in
    omega (
      arith,
      ap length (one_part_more item xs i one c.loop-item-test.true),
      length-append (flat_map item (take i xs)) (item (slice_index_or xs i one)),
      c.loop-item.invariant,
      item_size one,
      ap (λ i. length (item i)) c.item-item.is,
      c.len.ensures,
    )
