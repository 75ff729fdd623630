use Rattle.std.proofs.Common.{◌≡◌, ℕ, ◌<◌}
use Rattle.content_repo.specs.SlotSet.{has}
use Rattle.content_repo.proofs.content.all_slots.Given as goal

abbrev pub invariant-loop-number : goal.invariant-loop-number
invariant-loop-number l = (k : ℕ) → k < l.number → has l.slots k ≡ 1
