use Rattle.std.proofs.Common.{◌<◌, length, take, sym, ◌∙◌, ap, subst, arith, length-take}
use Rattle.std.proofs.lemmas.List.{length-map}
use Rattle.machine_model.specs.RouteOnAttribute.{routed_clone}
use Rattle.process_session.specs.Bench.{bench_attributes}
use Rattle.process_session.specs.Refusals.{refusal_of_clone}
use Rattle.processor_api.specs.Sessions.{HasFirstTaken}
use Rattle.processor_api.proofs.Clones.{cloned-has, took-free}
use Rattle.processor_api.proofs.Routed.{are-clones, routed_clones}
use Rattle.processor_api.proofs.cloning.add_routed_clones.Goals as goal

pub add_routed_clone-requires-clause-taken : goal.add_routed_clone-requires-clause-taken
add_routed_clone-requires-clause-taken c =
    let done = take c.loop-relationship.relationship-index c.args.relationships.now in
    subst HasFirstTaken (sym c.loop-relationship.invariant) (cloned-has c.args.session.now (routed_clones (bench_attributes c.args.session.now 0) done) c.requires.one)

pub add_routed_clone-requires-clause-free : goal.add_routed_clone-requires-clause-free
add_routed_clone-requires-clause-free c =
    let attributes = bench_attributes c.args.session.now 0 in
    let done = take c.loop-relationship.relationship-index c.args.relationships.now in
    let some : 0 < length c.args.relationships.now = omega arith in
    ap (λ b. refusal_of_clone b 0) c.loop-relationship.invariant
    ∙ took-free c.args.session.now (routed_clones attributes done) c.requires.one (c.requires.may some) (are-clones attributes done)
    (omega (arith, length-map done (routed_clone attributes), length-take c.loop-relationship.relationship-index c.args.relationships.now))
