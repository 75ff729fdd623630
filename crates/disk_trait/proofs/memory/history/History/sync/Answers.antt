use Rattle.disk_trait.proofs.DiskCalls.{sync_goes_on, sync_makes_durable}
use Rattle.disk_trait.proofs.memory.history.History.sync.Goals as goal

pub invariant_of-self : goal.invariant_of-self
invariant_of-self c =
    let h = c.args.self.now in
    record { past = (sync_goes_on h.table h.done c.note_sync.new.done h.moment h.past c.note_sync.result c.note_sync.ensures.noted c.note_sync.ensures.same).past }

pub returns-clause-synced : goal.returns-clause-synced
returns-clause-synced c =
    let h = c.args.self.now in
    sync_makes_durable h.table h.done c.note_sync.new.done h.moment h.past c.note_sync.result c.note_sync.ensures.noted

pub returns-clause-images : goal.returns-clause-images
returns-clause-images c =
    let h = c.args.self.now in
    (sync_goes_on h.table h.done c.note_sync.new.done h.moment h.past c.note_sync.result c.note_sync.ensures.noted c.note_sync.ensures.same).images
