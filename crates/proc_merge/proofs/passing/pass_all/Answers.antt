use Rattle.std.proofs.Common.{length, arith}
use Rattle.processor_api.proofs.Answered.{changed_so, never_refused}
use Rattle.proc_merge.proofs.Benches.{no_file}
use Rattle.proc_merge.proofs.Passed.{pass-free, pass-step}
use Rattle.proc_merge.proofs.passing.pass_all.Goals as goal

pub unwrap-requires : goal.unwrap-requires
unwrap-requires c =
    let bench = c.args.session.now in
    never_refused _ _ c.transfer.ensures.refusal
    (pass-free bench c.loop-place.session c.loop-place.place (length bench.sources) c.args.relationship no_file
    (omega (arith, c.loop-place-test.true, c.taken-place-end.ensures)) c.requires.all c.loop-place.invariant c.requires.still_open c.requires.there)

pub loop-place-preserved : goal.loop-place-preserved
loop-place-preserved c =
    let bench = c.args.session.now in
    pass-step bench c.loop-place.session c.transfer.new.self c.loop-place.place c.args.relationship no_file
    (omega (arith, c.loop-place-test.true, c.taken-place-end.ensures, c.requires.all)) c.loop-place.invariant (changed_so _ _ _ _ _ c.transfer.ensures.after c.unwrap.ensures)
