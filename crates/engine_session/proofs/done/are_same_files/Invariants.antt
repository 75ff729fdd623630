use Rattle.std.proofs.Common.{◌≡◌, take}
use Rattle.engine_session.proofs.done.are_same_files.Given as goal

abbrev pub invariant-loop-place : goal.invariant-loop-place
invariant-loop-place l = take l.place l.files ≡ take l.place l.others
