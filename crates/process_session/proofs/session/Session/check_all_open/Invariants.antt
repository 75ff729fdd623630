use Rattle.std.proofs.Common.{◌≡◌, drop}
use Rattle.process_session.specs.Refusals.{ended_refusal}
use Rattle.process_session.proofs.session.Session.check_all_open.Given as goal

abbrev pub invariant-loop-place : goal.invariant-loop-place
invariant-loop-place l = ended_refusal l.self l.places ≡ ended_refusal l.self (drop l.place-index l.places)
