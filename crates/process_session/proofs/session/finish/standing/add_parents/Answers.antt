use Rattle.std.proofs.Common.{get_or, map, refl, ◌∙◌, arith}
use Rattle.process_session.specs.Finishing.{places_of, stand_at}
use Rattle.process_session.proofs.FinishPlaces.{parent_step}
use Rattle.process_session.proofs.session.finish.standing.add_parents.Goals as goal

pub loop-parent-preserved : goal.loop-parent-preserved
loop-parent-preserved c = record {
  marked = c.in_ok-add_standing.ensures.marked;
  left = parent_step (stand_at (map places_of c.args.stands.now)) c.loop-parent.left.items c.add_standing.new.left.items c.args.parents.now c.loop-parent.parent-index (get_or c.args.parents.now c.loop-parent.parent-index 0) (omega arith) refl c.in_ok-add_standing.ensures.left ∙ c.loop-parent.invariant.left;
}
