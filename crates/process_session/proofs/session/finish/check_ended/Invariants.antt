use Rattle.std.proofs.Common.{◌≡◌, drop}
use Rattle.process_session.specs.Reasons.{not_accounted_from}
use Rattle.process_session.proofs.session.finish.check_ended.Given as goal

abbrev pub invariant-loop-file : goal.invariant-loop-file
invariant-loop-file l = (l.place ≡ l.file-index) × (not_accounted_from l.place (drop l.file-index l.files) ≡ not_accounted_from 0 l.files)
