use Rattle.std.proofs.Common.{refl}
use Rattle.run_top.proofs.Anew.{anew_is_consistent, identity_is}
use Rattle.worker_cases.proofs.run.engine_over.Goals as goal

pub load-requires-after_bounds : goal.load-requires-after_bounds
load-requires-after_bounds g c κs within =
    anew_is_consistent c.args.flow.now 0 c.requires.sound c.requires.digest _ (identity_is c.args.flow.now _ _ _ refl c.in_ok-ids.ensures c.len.ensures)
