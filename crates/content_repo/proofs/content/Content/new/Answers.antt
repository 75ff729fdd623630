use Rattle.content_repo.proofs.SlotLists.{sorted_none}
use Rattle.content_repo.proofs.content.Content.new.Goals as goal

pub invariant_of-result : goal.invariant_of-result
invariant_of-result c =
    sorted_none c.in_ok-slots.slots.items c.in_ok-open_slots.open_slots c.in_ok-free_slots.free_slots
    c.in_ok-slots.ensures.long c.in_ok-slots.ensures.unused c.in_ok-open_slots.ensures c.in_ok-free_slots.ensures
