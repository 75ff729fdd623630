use Rattle.std.proofs.Common.{◌++◌, ◌<◌, length, map, sym, ap, subst, arith}
use Rattle.std.proofs.lemmas.List.{length-map}
use Rattle.flowfile_record.specs.declared.limits.TheConstants.{FILES_MAX}
use Rattle.flowfile_record.specs.declared.worked.End.TheVariants.{To, Removed}
use Rattle.process_session.specs.Bench.{Bench}
use Rattle.processor_api.proofs.Answered.{changed_so, never_refused}
use Rattle.proc_text.specs.Parting.{opened}
use Rattle.proc_text.specs.Pieces.{piece_of}
use Rattle.proc_text.proofs.PartsEnd.{EndsParted, adds-open, all-parted, last-transfer, none-parted}
use Rattle.proc_text.proofs.parting.part_into.Goals as goal
use Rattle.proc_text.proofs.parting.part_into.Goals.{then-made-pieces, else-made-pieces}

pub end_parts-requires-clause-open : goal.end_parts-requires-clause-open
end_parts-requires-clause-open c =
    adds-open c.args.session.now c.add_parts.new.session c.args.ways.parts (map piece_of c.args.pieces.now) c.in_ok-made.made c.requires.one (c.in_ok-made.ensures c.args.ways.parts)

pub end_parts-requires-clause-there : goal.end_parts-requires-clause-there
end_parts-requires-clause-there c =
    let same = ap (λ (b : Bench). b.relationships) (c.in_ok-made.ensures c.args.ways.parts).is in
    omega (arith, same, c.requires.parts)

pub unwrap-requires : goal.unwrap-requires
unwrap-requires c =
    let adds = c.in_ok-made.ensures c.args.ways.parts in
    never_refused _ _ c.transfer.ensures.refusal
    (last-transfer (To c.args.ways.parts) c.args.session.now c.add_parts.new.session c.end_parts.new.session c.in_ok-made.made c.args.ways.original (map opened adds.parts ++ adds.dropped) c.requires.one adds.is c.end_parts.ensures c.requires.original)

pub end_parts-requires-else-made-pieces-clause-open : goal.end_parts-requires-else-made-pieces-clause-open
end_parts-requires-else-made-pieces-clause-open c =
    adds-open c.args.session.now c.add_parts.new.session c.args.ways.parts (map piece_of c.args.pieces.now) c.in_ok-made.made c.requires.one (c.in_ok-made.ensures c.args.ways.parts)

pub unwrap-requires-else-made-pieces : goal.unwrap-requires-else-made-pieces
unwrap-requires-else-made-pieces c =
    let adds = c.in_ok-made.ensures c.args.ways.parts in
    never_refused _ _ c.transfer-else-made-pieces.ensures.refusal
    (last-transfer Removed c.args.session.now c.add_parts.new.session c.end_parts-else-made-pieces.new.session c.in_ok-made.made 2 (map opened adds.parts ++ adds.dropped) c.requires.one adds.is c.end_parts-else-made-pieces.ensures c.requires.given_up)

pub returns : goal.returns
returns c =
    let before = c.args.session.now in
    let now = c.add_parts.new.session in
    let pieces = map piece_of c.args.pieces.now in
    let made = c.in_ok-made.made in
    let original = c.args.ways.original in
    let parts = c.args.ways.parts in
    let adds = c.in_ok-made.ensures parts in
    let count = length-map c.args.pieces.now piece_of in
    let few : length pieces < FILES_MAX = omega (arith, count, c.requires.few) in
    elim c.if-made-pieces.branch [
      | then-made-pieces w ↦
          let after : Bench = w.transfer.new.self in
          subst (λ (b : Bench). EndsParted before b original parts pieces) (sym w.session-is)
          (all-parted before now w.end_parts.new.session after original parts pieces made c.requires.one few adds (omega (arith, w.if-made-pieces.true, count)) w.end_parts.ensures
          (changed_so _ _ _ _ _ w.transfer.ensures.after w.unwrap.ensures))
      | else-made-pieces w ↦
          let after : Bench = w.transfer-else-made-pieces.new.self in
          subst (λ (b : Bench). EndsParted before b original parts pieces) (sym w.session-is)
          (none-parted before now w.end_parts-else-made-pieces.new.session after original parts pieces made c.requires.one few adds (omega (arith, w.if-made-pieces.false, count, adds.few)) w.end_parts-else-made-pieces.ensures
          (changed_so _ _ _ _ _ w.transfer-else-made-pieces.ensures.after w.unwrap-else-made-pieces.ensures))
    ]
