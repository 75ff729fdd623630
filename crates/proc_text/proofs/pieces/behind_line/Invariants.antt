use Rattle.std.proofs.Common.{◌≡◌, false, take}
use Rattle.std.specs.Prelude.{All, ◌==◌}
use Rattle.proc_text.proofs.pieces.behind_line.Given as goal

abbrev pub invariant-loop-place : goal.invariant-loop-place
invariant-loop-place l = All (λ byte. (byte == 10) ≡ false) (take l.place l.content)
