use Rattle.process_session.proofs.FinishPlaces.{marked_more}
use Rattle.process_session.proofs.session.finish.standing.add_once.Goals as goal

pub returns-clause-marked : goal.returns-clause-marked
returns-clause-marked c = rw c.in_ok-push.ensures.items (marked_more c.args.met.now c.args.left.now.items c.args.round c.args.place c.requires.inside c.requires.marked)
