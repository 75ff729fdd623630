use Rattle.content_repo.proofs.SlotLists.{open_none, next_is_open, next_is_free}
use Rattle.content_repo.proofs.content.Content.next.Goals as goal

pub returns-in-Some-clause-next : goal.returns-in-Some-clause-next
returns-in-Some-clause-next c =
    rw (← c.self.view_is) (next_is_open c.self.inside.slots.items c.self.inside.open_slots c.self.inside.free_slots c.self.invariant c.in-Some.number c.in-Some.ensures.least)

pub returns-in-None-clause-next : goal.returns-in-None-clause-next
returns-in-None-clause-next c =
    let slots = c.self.inside.slots.items in
    let opens = c.self.inside.open_slots in
    let frees = c.self.inside.free_slots in
    rw (← c.self.view_is) (next_is_free slots opens frees c.self.invariant c.least-in-None.result
    (open_none slots opens frees c.self.invariant c.in-None.ensures.none) c.least-in-None.ensures.least c.least-in-None.ensures.none)
