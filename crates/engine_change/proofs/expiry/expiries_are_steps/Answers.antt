use Rattle.engine_change.proofs.Expiring.{expiry_steps}
use Rattle.engine_change.proofs.expiry.expiries_are_steps.Goals as goal

pub returns : goal.returns
returns c =
    let laws = c.what_is_kept_is_a_state.ensures in
    expiry_steps laws.valid laws.queued laws.live
