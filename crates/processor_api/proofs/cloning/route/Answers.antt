use Rattle.std.proofs.Common.{◌≡◌, ◌<◌, ◌∷◌, sym, ◌∙◌, ap, subst}
use Rattle.std.specs.List.{All}
use Rattle.std.proofs.lemmas.List.Elements.{All-tail}
use Rattle.flowfile_record.specs.declared.worked.End.TheVariants.{To}
use Rattle.process_session.specs.Bench.{bench_attributes}
use Rattle.process_session.specs.Changes.{with_end, with_route}
use Rattle.processor_api.proofs.Answered.{changed_so, never_refused}
use Rattle.processor_api.specs.Sessions.{HasFirstTaken}
use Rattle.processor_api.proofs.Clones.{cloned-has, first-transfer, took-has}
use Rattle.processor_api.proofs.Routed.{no_places, none-routed, routed_clones, some-routed, up-routed}
use Rattle.processor_api.proofs.cloning.route.Goals as goal

pub route_taken-requires-clause-taken : goal.route_taken-requires-clause-taken
route_taken-requires-clause-taken c = took-has c.args.session.now c.requires.one

pub returns-in_default : goal.returns-in_default
returns-in_default c = none-routed c.args.session.now c.route_taken.new.session c.args.unmatched c.args.places.now c.requires.one (no_places c.args.places.now c.in_default.ensures.cases) c.route_taken.ensures

pub may_be_routed-requires : goal.may_be_routed-requires
may_be_routed-requires c = took-has c.args.session.now c.requires.one

pub add_routed_clones-requires-clause-there : goal.add_routed_clones-requires-clause-there
add_routed_clones-requires-clause-there c =
    let are : c.args.places.now ≡ c.in-Some.first.now ∷ c.in-Some.others.now = c.in-Some.ensures.cases.0 in
    All-tail (λ place. place < c.args.session.now.relationships) c.in-Some.first.now c.in-Some.others.now (subst (All (λ place. place < c.args.session.now.relationships)) are c.requires.there)

pub route_taken-requires-then-may_be_routed-clause-taken : goal.route_taken-requires-then-may_be_routed-clause-taken
route_taken-requires-then-may_be_routed-clause-taken c =
    subst HasFirstTaken (sym c.in_ok-add_routed_clones.ensures) (cloned-has c.args.session.now (routed_clones (bench_attributes c.args.session.now 0) c.in-Some.others.now) c.requires.one)

pub unwrap-requires : goal.unwrap-requires
unwrap-requires c = never_refused _ _ c.transfer.ensures.refusal (first-transfer c.args.session.now c.args.unmatched (took-has c.args.session.now c.requires.one) c.requires.unmatched)

pub returns-in_ok-add_routed_clones : goal.returns-in_ok-add_routed_clones
returns-in_ok-add_routed_clones c =
    let first = c.in-Some.first.now in
    some-routed c.args.session.now c.route_taken-then-may_be_routed.new.session c.args.unmatched first c.in-Some.others.now c.args.places.now c.requires.one c.in-Some.ensures.cases.0
    (sym c.may_be_routed.ensures ∙ c.if-may_be_routed.true)
    (c.route_taken-then-may_be_routed.ensures ∙ ap (λ b. with_end (with_route b 0 first) 0 (To first)) c.in_ok-add_routed_clones.ensures)

pub returns-else-may_be_routed : goal.returns-else-may_be_routed
returns-else-may_be_routed c =
    up-routed c.args.session.now c.transfer.new.self c.args.unmatched c.in-Some.first.now c.in-Some.others.now c.args.places.now c.requires.one c.in-Some.ensures.cases.0
    (sym c.may_be_routed.ensures ∙ c.if-may_be_routed.false) (changed_so _ _ _ _ _ c.transfer.ensures.after c.unwrap.ensures)
