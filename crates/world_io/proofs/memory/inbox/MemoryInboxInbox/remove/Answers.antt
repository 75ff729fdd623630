use Rattle.world_io.proofs.Places.{left-without}
use Rattle.world_io.proofs.memory.inbox.MemoryInboxInbox.remove.Goals as goal

pub invariant_of-self-2 : goal.invariant_of-self-2
invariant_of-self-2 c =
    let inbox = c.args.self.now in
    record { ascends = (left-without c.args.name.now inbox.files.items _ _ _ c.remove.result inbox.ascends c.deref.ensures.value c.place_left-place.ensures c.remove.ensures.items).1 }

pub returns-clause-removed : goal.returns-clause-removed
returns-clause-removed c =
    let inbox = c.args.self.now in
    (left-without c.args.name.now inbox.files.items _ _ _ c.remove.result inbox.ascends c.deref.ensures.value c.place_left-place.ensures c.remove.ensures.items).0
