use Rattle.std.proofs.Common.{subst, sym}
use Rattle.std.proofs.lemmas.Result.{IfOk-weaker}
use Rattle.process_session.specs.Finishing.{AreMarkedUpto}
use Rattle.process_session.proofs.FinishPlaces.{no_marks}
use Rattle.process_session.proofs.session.finish.standing.new_marks.Goals as goal

pub returns-clause-upto : goal.returns-clause-upto
returns-clause-upto c = IfOk-weaker c.vec.result _ _ (λ met is. subst (λ l. AreMarkedUpto l 0) (sym (is (λ y e. e))) (no_marks c.args.places)) c.vec.ensures.items_if_clones_equal
