use Rattle.std.proofs.Common.{true≢false, sym, rules, arith}
use Rattle.std.specs.List.{flat_map}
use Rattle.record_codec.proofs.Blocks.{length-block, written-block}
use Rattle.record_codec.proofs.block.append_parts.Goals as goal

pub returns-clause-ok : goal.returns-clause-ok
returns-clause-ok c =
    written-block c.args.out.now.items c.put_all.new.out.items c.end_block.new.out.items c.in_ok-start.start c.args.kind
    (flat_map (λ part. part.now) c.args.parts.now) (search rules) (search rules) c.end_block.ensures.items

pub returns-in_err-start-clause-room : goal.returns-in_err-start-clause-room
returns-in_err-start-clause-room c =
    λ room. absurd (true≢false (sym (c.in_err-start.ensures.room (omega (arith, length-block c.args.kind (flat_map (λ part. part.now) c.args.parts.now), c.size_of.ensures, room)))))
