use Rattle.std.proofs.Common.{◌≢◌, arith}
use Rattle.std.specs.Int.{w64, to_be_bytes}
use Rattle.flowfile_record.proofs.Sizes.{numbers_size}
use Rattle.record_codec.specs.declared.TheConstants.{SECOND_VERSION}
use Rattle.record_codec.specs.Texts.{texts}
use Rattle.record_codec.proofs.StoreHeads.{in_the_second, not_in_another}
use Rattle.record_codec.proofs.head.size_of.Goals as goal

pub overflow_add-result : goal.overflow_add-result
overflow_add-result c = omega (arith, c.texts_size.ensures.bound)

pub returns-then-version-eq-SECOND_VERSION : goal.returns-then-version-eq-SECOND_VERSION
returns-then-version-eq-SECOND_VERSION c =
    let second = c.if-version-eq-SECOND_VERSION.true in
    omega (
      arith,
      c.texts_size.ensures.size,
      c.texts_size-then-version-eq-SECOND_VERSION.ensures.size,
      numbers_size c.args.counts.now,
      in_the_second c.args.version (texts c.args.processors.now) second,
      in_the_second c.args.version (to_be_bytes w64 0) second,
    )

pub returns-else-version-eq-SECOND_VERSION : goal.returns-else-version-eq-SECOND_VERSION
returns-else-version-eq-SECOND_VERSION c =
    let other : c.args.version ≢ SECOND_VERSION = omega (arith, c.if-version-eq-SECOND_VERSION.false) in
    omega (
      arith,
      c.texts_size.ensures.size,
      numbers_size c.args.counts.now,
      not_in_another c.args.version (texts c.args.processors.now) other,
      not_in_another c.args.version (to_be_bytes w64 0) other,
    )
