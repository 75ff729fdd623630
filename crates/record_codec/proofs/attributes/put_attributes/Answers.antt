use Rattle.std.proofs.Common.{◌++◌, ℕ, List, length, length-append, take, sym, ap, ◌∙◌, append_assoc, arith}
use Rattle.std.specs.List.{flat_map}
use Rattle.std.specs.Int.{w16, to_be_bytes}
use Rattle.std.specs.FinMap.{entries, len, len-entries}
use Rattle.record_codec.specs.FileEncoding.{pair, attributes}
use Rattle.record_codec.proofs.AttributeLaws.{are_few, texts_fit, one_more, all_written, fits_within}
use Rattle.record_codec.proofs.attributes.put_attributes.Goals as goal

pub overflow_cast-len : goal.overflow_cast-len
overflow_cast-len c = omega (arith, are_few c.args.attributes.now c.requires.attributes, c.len.ensures)

pub put_pair-requires-clause-key : goal.put_pair-requires-clause-key
put_pair-requires-clause-key c = (texts_fit c.args.attributes.now c.loop-key.place c.in-Some.key.now c.in-Some.value.now c.requires.attributes c.in-Some.ensures.pair).0

pub put_pair-requires-clause-value : goal.put_pair-requires-clause-value
put_pair-requires-clause-value c = (texts_fit c.args.attributes.now c.loop-key.place c.in-Some.key.now c.in-Some.value.now c.requires.attributes c.in-Some.ensures.pair).1

pub put_pair-requires-clause-room : goal.put_pair-requires-clause-room
put_pair-requires-clause-room c =
    omega (arith, fits_within c.args.attributes.now c.loop-key.place (c.in-Some.key.now, c.in-Some.value.now) c.in-Some.ensures.pair, c.loop-key.invariant.long, c.loop-key.invariant.capacity, c.requires.room)

pub overflow_add-place : goal.overflow_add-place
overflow_add-place c =
    let more = one_more c.args.attributes.now c.loop-key.place (c.in-Some.key.now, c.in-Some.value.now) c.in-Some.ensures.pair in
    omega (arith, more.0, are_few c.args.attributes.now c.requires.attributes, len-entries c.args.attributes.now)

pub loop-key-smaller : goal.loop-key-smaller
loop-key-smaller c =
    let more = one_more c.args.attributes.now c.loop-key.place (c.in-Some.key.now, c.in-Some.value.now) c.in-Some.ensures.pair in
    omega (arith, more.0)

pub loop-key-preserved : goal.loop-key-preserved
loop-key-preserved c =
    let m = c.args.attributes.now in
    let p : List ℕ × List ℕ = (c.in-Some.key.now, c.in-Some.value.now) in
    let more = one_more m c.loop-key.place p c.in-Some.ensures.pair in
    let front = c.args.out.now.items ++ to_be_bytes w16 (len m) in
    record {
      written = c.put_pair.ensures.items ∙ ap (λ (w : List ℕ). w ++ pair p) c.loop-key.invariant.written
          ∙ append_assoc front (flat_map pair (take c.loop-key.place (entries m))) (pair p) ∙ ap (λ (w : List ℕ). front ++ w) (sym more.1);
      long = omega (arith, c.put_pair.ensures.len, c.loop-key.invariant.long, ap length more.1, length-append (flat_map pair (take c.loop-key.place (entries m))) (pair p));
      capacity = omega (arith, c.put_pair.ensures.capacity, c.loop-key.invariant.capacity);
      within = omega (arith, more.0);
    }

pub returns-clause-items : goal.returns-clause-items
unfolding attributes
returns-clause-items c =
    let m = c.args.attributes.now in
    let all = all_written m c.loop-key.place c.in_default.ensures.pair in
    c.loop-key.invariant.written ∙ ap (λ es. c.args.out.now.items ++ to_be_bytes w16 (len m) ++ flat_map pair es) all ∙ append_assoc c.args.out.now.items (to_be_bytes w16 (len m)) (flat_map pair (entries m))

pub returns-clause-len : goal.returns-clause-len
unfolding attributes
returns-clause-len c =
    let m = c.args.attributes.now in
    let all = all_written m c.loop-key.place c.in_default.ensures.pair in
    omega (arith, c.loop-key.invariant.long, ap (λ es. length (flat_map pair es)) all, length-append (to_be_bytes w16 (len m)) (flat_map pair (entries m)))
