use Rattle.std.proofs.Common.{◌-◌, sym, subst, arith}
use Rattle.bench_flows.proofs.Reading.{LeaveRoom, all-read, with_one_more}
use Rattle.bench_flows.proofs.files.taken.Goals as goal

pub loop-text-preserved : goal.loop-text-preserved
loop-text-preserved c =
    let file = c.in_ok-file.file in
    subst (LeaveRoom (c.loop-text.room - file.size)) (sym c.in_ok-push.ensures.ok)
    (with_one_more c.loop-text.room c.loop-text.files file c.loop-text.invariant c.in_ok-file.ensures.whole c.in_ok-file.ensures.filled (omega arith))

pub returns : goal.returns
returns c = all-read c.loop-text.room c.loop-text.files c.loop-text.invariant
