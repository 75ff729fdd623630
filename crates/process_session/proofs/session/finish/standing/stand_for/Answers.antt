use Rattle.process_session.proofs.FinishPlaces.{upto_below}
use Rattle.process_session.proofs.session.finish.standing.stand_for.Goals as goal

pub returns-then-not-is_left_out-clause-upto : goal.returns-then-not-is_left_out-clause-upto
returns-then-not-is_left_out-clause-upto c = upto_below c.args.met.now c.args.round c.requires.below
