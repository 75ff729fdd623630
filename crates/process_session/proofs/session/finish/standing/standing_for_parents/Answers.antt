use Rattle.std.proofs.Common.{map, ap, ◌∙◌}
use Rattle.std.specs.List.{flat_map}
use Rattle.flowfile_record.specs.Outcome.{parents_of}
use Rattle.process_session.specs.Finishing.{places_of, stand_at, with_each}
use Rattle.process_session.proofs.FinishPlaces.{none_marked, standing_for-is, upto_marked}
use Rattle.process_session.proofs.session.finish.standing.standing_for_parents.Goals as goal

pub add_parents_of-requires-clause-marked : goal.add_parents_of-requires-clause-marked
add_parents_of-requires-clause-marked c = rw c.new-left.ensures.items (none_marked c.args.met.now c.args.round c.requires.below)

pub returns-clause-left : goal.returns-clause-left
returns-clause-left c =
    let stand = map places_of c.args.stands.now in
    standing_for-is stand (parents_of c.args.origin.now) c.add_parents_of.new.left.items (c.in_ok-add_parents_of.ensures.left ∙ ap (λ l. with_each l (flat_map (stand_at stand) (parents_of c.args.origin.now))) c.new-left.ensures.items)

pub returns-clause-upto : goal.returns-clause-upto
returns-clause-upto c = upto_marked c.add_parents_of.new.met c.add_parents_of.new.left.items c.args.round c.in_ok-add_parents_of.ensures.marked
