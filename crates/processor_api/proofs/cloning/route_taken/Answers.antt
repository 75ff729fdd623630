use Rattle.process_session.specs.Changes.{with_route}
use Rattle.processor_api.proofs.Answered.{changed_so, never_refused}
use Rattle.processor_api.proofs.Clones.{first-route, routed-transfer}
use Rattle.processor_api.proofs.cloning.route_taken.Goals as goal

pub unwrap-requires : goal.unwrap-requires
unwrap-requires c = never_refused _ _ c.route.ensures.refusal (first-route c.args.session.now c.args.relationship c.requires.taken c.requires.there)

pub unwrap-requires-2 : goal.unwrap-requires-2
unwrap-requires-2 c =
    never_refused _ _ c.transfer.ensures.refusal
    (routed-transfer c.args.session.now _ c.args.relationship c.requires.taken (changed_so _ _ _ _ (with_route c.args.session.now 0 c.args.relationship) c.route.ensures.after c.unwrap.ensures) c.requires.there)
