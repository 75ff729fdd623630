use Rattle.engine_change.proofs.DueExpiries.{due_expire}
use Rattle.engine_change.proofs.expiry.due_expiries_may_expire.Goals as goal

pub returns : goal.returns
returns c =
    let laws = c.what_is_kept_is_a_state.ensures in
    due_expire laws.valid laws.queued laws.live
