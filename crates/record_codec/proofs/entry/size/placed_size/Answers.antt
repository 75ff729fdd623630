use Rattle.std.proofs.Common.{◌+◌, length, ap, arith}
use Rattle.flowfile_record.specs.declared.attributes.TheConstants.{ATTRIBUTES_MAX}
use Rattle.record_codec.specs.ActiveFile.{active_file, IsActiveFile}
use Rattle.record_codec.proofs.Parts.{parts_within, front_within}
use Rattle.record_codec.proofs.Sizes.{each_at_most, file_at_most}
use Rattle.record_codec.proofs.entry.size.placed_size.Goals as goal

pub overflow_add-size : goal.overflow_add-size
overflow_add-size c =
    let xs = c.args.placed.now in
    let one = c.one-item.result in
    omega (
      arith,
      parts_within active_file xs c.loop-one.one-index one c.loop-one-test.true,
      each_at_most active_file IsActiveFile (ATTRIBUTES_MAX + 86) file_at_most xs c.requires.1,
      c.requires.0,
      c.loop-one.invariant,
      ap (λ a. length (active_file a)) c.one-item.is,
      c.active_file_size-size.ensures one.connection,
    )

pub returns-clause-bound : goal.returns-clause-bound
returns-clause-bound c =
    omega (
      arith,
      front_within active_file c.args.placed.now c.loop-one.one-index,
      each_at_most active_file IsActiveFile (ATTRIBUTES_MAX + 86) file_at_most c.args.placed.now c.requires.1,
      c.requires.0,
      c.loop-one.invariant,
    )
