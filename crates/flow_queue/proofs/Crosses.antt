-- That a queue may go to another thread and be shared by threads.
use denote.Param.Send.{IsSend, IsSync, sendable}
use Rattle.std.proofs.Crossing.{crosses}
use Rattle.flowfile_record.proofs.Crosses.{numbered_list_sync, numbered_list_send}
use Rattle.flow_queue.specs.contracts.held.Held as Held
use Rattle.flow_queue.specs.contracts.queue.Queue as Queue

pub held_sync : IsSync Held.the_row
held_sync = search (sendable, crosses) depth 60 fits 50000

pub held_send : IsSend Held.the_row
held_send = search (sendable, crosses) depth 60 fits 50000

pub queue_sync : IsSync Queue.the_row
queue_sync = search (sendable, crosses, held_sync, numbered_list_sync) depth 60 fits 50000

pub queue_send : IsSend Queue.the_row
queue_send = search (sendable, crosses, held_send, numbered_list_send) depth 60 fits 50000
