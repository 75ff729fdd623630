use denote.Param.Send.{sendable}
use Rattle.std.proofs.Crossing.{crosses}
use Rattle.machine_model.proofs.Crosses.{flow_sync}
use Rattle.flow_workers.proofs.Crosses.{engine_send}
use Rattle.flow_workers.proofs.shop.Shop.open.Goals as goal

pub for_each_mut-requires-sync-F : goal.for_each_mut-requires-sync-F
for_each_mut-requires-sync-F g c κs within =
    let run_send = c.type_bounds.send-R in
    let run_sync = c.type_bounds.sync-R in
    let disk = c.type_bounds.send-D in
    let inbox = c.type_bounds.send-I in
    let outbox = c.type_bounds.send-O in
    let clock = c.type_bounds.send-C in
    let gate = c.type_bounds.sync-G in
    let runtime = c.type_bounds.sync-T in
    search (sendable, crosses, flow_sync, engine_send) depth 60 fits 2000000
