-- The queue of a connection before any file.
use Rattle.std.specs.Prelude.{false, []}
use Rattle.machine_model.specs.declared.flow.Connection.{Connection}
use Rattle.flow_queue.specs.Queue.{QueueState}

abbrev pub empty_queue : Connection → QueueState
empty_queue connection = record {
  order = connection.order;
  limits = connection.limits;
  files = [];
  spare = 0;
  batches = [];
  batch_room = false;
}
