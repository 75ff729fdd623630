use Rattle.std.proofs.Common.{◌+◌, ◌^◌, length, length-append, ap, arith}
use Rattle.std.specs.Int.{w16, to_be_bytes}
use Rattle.flowfile_record.specs.Encoding.{text, IsText}
use Rattle.record_codec.proofs.Parts.{parts_within, front_within}
use Rattle.record_codec.proofs.Sizes.{each_at_most, text_at_most}
use Rattle.record_codec.proofs.texts.texts_size.Goals as goal

pub overflow_add-size-in-loop-text : goal.overflow_add-size-in-loop-text
overflow_add-size-in-loop-text c =
    let xs = c.args.texts.now in
    let one = c.text-item.result in
    omega (
      arith,
      parts_within text xs c.loop-text.text-index one c.loop-text-test.true,
      each_at_most text IsText (2 ^ 16 + 1) text_at_most xs c.requires.1,
      c.requires.0,
      c.loop-text.invariant,
      ap (λ t. length (text t)) c.text-item.is,
      ap length c.as_str.ensures.text,
      length-append (to_be_bytes w16 (length one)) one,
    )

pub returns-clause-bound : goal.returns-clause-bound
returns-clause-bound c =
    omega (
      arith,
      front_within text c.args.texts.now c.loop-text.text-index,
      each_at_most text IsText (2 ^ 16 + 1) text_at_most c.args.texts.now c.requires.1,
      c.requires.0,
      c.loop-text.invariant,
    )
