use Rattle.engine_change.proofs.Expiring.{ascending_stay}
use Rattle.engine_change.proofs.expiry.ascending_numbers_stay.Goals as goal

pub returns : goal.returns
returns c = ascending_stay
