use Rattle.content_repo.proofs.ForCallers.{sizes_stay}
use Rattle.content_repo.proofs.law.counts_leave_the_sizes.Goals as goal

pub returns : goal.returns
returns c = sizes_stay
