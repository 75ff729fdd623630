-- A flow holds patterns.
use denote.Param.Send.{sendable}
use Rattle.std.proofs.Crossing.{crosses}
use Rattle.machine_model.proofs.Crosses.{flow_sync}
use Rattle.machine_examples.proofs.sharing.threads_may_share.Goals as goal

pub take_shared-requires-sync-T : goal.take_shared-requires-sync-T
take_shared-requires-sync-T c κs = search (sendable, crosses, flow_sync) depth 60 fits 50000
