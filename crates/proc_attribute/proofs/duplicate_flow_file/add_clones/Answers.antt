use Rattle.std.proofs.Common.{◌<◌, sym, ◌∙◌, ap, subst, arith}
use Rattle.std.proofs.lemmas.List.{length-replicate}
use Rattle.machine_model.specs.Making.{clone_of}
use Rattle.process_session.specs.Bench.{bench_attributes}
use Rattle.process_session.specs.Refusals.{refusal_of_clone}
use Rattle.processor_api.specs.Sessions.{HasFirstTaken}
use Rattle.processor_api.proofs.Clones.{cloned-has, took-free}
use Rattle.proc_attribute.proofs.Duplicating.{are-clones, clones_of}
use Rattle.proc_attribute.proofs.duplicate_flow_file.add_clones.Goals as goal

pub add_clone-requires-clause-taken : goal.add_clone-requires-clause-taken
add_clone-requires-clause-taken c =
    subst HasFirstTaken (sym c.loop.invariant) (cloned-has c.args.session.now (clones_of c.loop.counter (bench_attributes c.args.session.now 0)) c.requires.one)

pub add_clone-requires-clause-free : goal.add_clone-requires-clause-free
add_clone-requires-clause-free c =
    let attributes = bench_attributes c.args.session.now 0 in
    let some : 0 < c.args.copies = omega arith in
    ap (λ b. refusal_of_clone b 0) c.loop.invariant
    ∙ took-free c.args.session.now (clones_of c.loop.counter attributes) c.requires.one (c.requires.may some) (are-clones c.loop.counter attributes)
    (omega (arith, length-replicate c.loop.counter (clone_of 0 attributes 0)))
