use Rattle.std.proofs.Common.{◌≡◌, ◌<◌, length, take, drop}
use Rattle.std.specs.List.{All}
use Rattle.process_session.specs.Refusals.{unknown_files}
use Rattle.process_session.proofs.session.Session.check_all_known.Given as goal

abbrev pub invariant-loop-place : goal.invariant-loop-place
invariant-loop-place l = record {
  rest : unknown_files l.self l.places ≡ unknown_files l.self (drop l.place-index l.places);
  there : All (λ place. place < length l.self.files) (take l.place-index l.places);
}
