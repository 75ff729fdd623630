use Rattle.std.proofs.Common.{◌≡◌, take, map}
use Rattle.engine_session.proofs.done.are_same_contents.Given as goal

abbrev pub invariant-loop-place : goal.invariant-loop-place
invariant-loop-place l = take l.place (map (λ source. source.bytes) l.sources) ≡ take l.place l.contents
