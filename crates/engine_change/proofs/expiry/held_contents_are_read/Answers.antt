use Rattle.engine_change.proofs.Expiring.{held_read}
use Rattle.engine_change.proofs.expiry.held_contents_are_read.Goals as goal

pub returns : goal.returns
returns c = held_read
