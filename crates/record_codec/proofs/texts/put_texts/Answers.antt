use Rattle.std.proofs.Common.{length, length-append, ap, arith}
use Rattle.std.specs.List.{flat_map}
use Rattle.std.specs.Int.{w16, w32, to_be_bytes}
use Rattle.flowfile_record.specs.Encoding.{text}
use Rattle.record_codec.proofs.Parts.{parts_within}
use Rattle.record_codec.proofs.texts.put_texts.Goals as goal

pub put_text-requires-clause-room : goal.put_text-requires-clause-room
put_text-requires-clause-room c =
    let xs = c.args.texts.now in
    let one = c.text-item.result in
    omega (
      arith,
      parts_within text xs c.loop-text.text-index one c.loop-text-test.true,
      length-append (to_be_bytes w32 (length xs)) (flat_map text xs),
      c.loop-text.invariant.len,
      c.loop-text.invariant.capacity,
      c.requires.room,
      ap (λ t. length (text t)) c.text-item.is,
      ap length c.as_str.ensures.text,
      length-append (to_be_bytes w16 (length one)) one,
    )
