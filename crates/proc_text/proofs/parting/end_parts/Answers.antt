use Rattle.std.proofs.Common.{◌+◌, arith}
use Rattle.proc_text.specs.Parting.{end_or_removed}
use Rattle.proc_text.proofs.PartsEnd.{end-more, part-open-at}
use Rattle.proc_text.proofs.parting.end_parts.Goals as goal

pub end_part-requires-clause-open : goal.end_part-requires-clause-open
end_part-requires-clause-open c =
    let k = c.loop-index.index in
    part-open-at (end_or_removed c.args.relationship) c.args.session.now c.loop-index.session c.args.count k (1 + k) c.requires.open c.loop-index-test.true (omega arith) c.loop-index.invariant

pub loop-index-preserved : goal.loop-index-preserved
loop-index-preserved c =
    let k = c.loop-index.index in
    end-more (end_or_removed c.args.relationship) c.args.session.now c.loop-index.session c.end_part.new.session c.args.count k (1 + k) (k + 1) c.requires.open c.loop-index-test.true (omega arith) (omega arith) c.loop-index.invariant c.end_part.ensures
