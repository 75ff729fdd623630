use Rattle.std.proofs.Common.{◌≡◌, ◌*◌, ◌≤◌, ◌^◌, map, take}
use Rattle.std.specs.List.{sum}
use Rattle.kept_state.specs.Fits.{active_of}
use Rattle.kept_state.specs.Moves.{record_size_of}
use Rattle.kept_state.proofs.files.bytes_at.Given as goal

abbrev pub invariant-loop-number : goal.invariant-loop-number
invariant-loop-number l =
    (l.bytes ≡ sum (map (λ n. record_size_of (active_of n l.files.items)) (take l.number-index l.numbers))) × (l.bytes ≤ 2 ^ 17 * l.number-index)
