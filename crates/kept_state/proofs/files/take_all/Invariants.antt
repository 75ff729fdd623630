use Rattle.std.proofs.Common.{◌≡◌, ◌≤◌, drop}
use Rattle.kept_state.specs.Applied.{left_after}
use Rattle.kept_state.proofs.files.take_all.Given as goal

abbrev pub invariant-loop-number : goal.invariant-loop-number
invariant-loop-number l =
    (left_after (drop l.number-index l.gone) l.files.items ≡ left_after l.gone l.initial.files.items) × (l.initial.files.room ≤ l.files.room)
