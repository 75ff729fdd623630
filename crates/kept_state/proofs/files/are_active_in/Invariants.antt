use Rattle.std.proofs.Common.{◌≡◌, drop}
use Rattle.kept_state.specs.Fits.{are_active_in}
use Rattle.kept_state.proofs.files.are_active_in.Given as goal

abbrev pub invariant-loop-number : goal.invariant-loop-number
invariant-loop-number l = are_active_in l.files.items l.connection (drop l.number-index l.numbers) ≡ are_active_in l.files.items l.connection l.numbers
