use Rattle.std.proofs.Common.{[], ◌++◌, get_or, take, ap, ◌∙◌, sym, arith, append_assoc, length, length-append}
use Rattle.std.specs.List.{flat_map}
use Rattle.record_codec.proofs.Parts.{parts_within, one_part_more}
use Rattle.record_codec.proofs.block.put_all.Goals as goal

pub put-requires : goal.put-requires
put-requires c =
    let within = parts_within (λ part. part.now) c.args.parts.now c.loop-part.part-index (record { ref_ptr = (0, 0); now = [] }) c.loop-part-test.true in
    omega (arith, within, c.requires, c.loop-part.invariant.1, c.loop-part.invariant.2)

pub loop-part-preserved : goal.loop-part-preserved
loop-part-preserved c =
    let old = c.args.out.now.items in
    let i = c.loop-part.part-index in
    let part = get_or c.args.parts.now i (record { ref_ptr = (0, 0); now = [] }) in
    let done = flat_map (λ part. part.now) (take i c.args.parts.now) in
    let more = one_part_more (λ part. part.now) c.args.parts.now i (record { ref_ptr = (0, 0); now = [] }) c.loop-part-test.true in (
      c.put.ensures.items ∙ ap (λ l. l ++ part.now) c.loop-part.invariant.0 ∙ append_assoc old done part.now ∙ ap (λ l. old ++ l) (sym more),
      omega (arith, c.put.ensures.len, c.loop-part.invariant.1, ap length more, length-append done part.now),
      omega (arith, c.loop-part.invariant.2, c.put.ensures.capacity),
    )
