use Rattle.std.proofs.Common.{◌≡◌, take}
use Rattle.process_session.proofs.session.making.numbers_of.Given as goal

abbrev pub invariant-loop-place : goal.invariant-loop-place
invariant-loop-place l = l.numbers ≡ take l.place-index l.places
