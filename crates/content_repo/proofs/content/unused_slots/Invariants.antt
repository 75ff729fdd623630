use Rattle.std.proofs.Common.{◌≡◌, ℕ, length}
use Rattle.content_repo.specs.Slots.{slot_numbered, unused, held_in}
use Rattle.content_repo.proofs.content.unused_slots.Given as goal

abbrev pub invariant-loop-number : goal.invariant-loop-number
invariant-loop-number l = record { long : length l.slots.items ≡ l.number; none : (k : ℕ) → slot_numbered l.slots.items k ≡ unused; held : held_in l.slots.items ≡ 0 }
