use Rattle.content_repo.proofs.Ranges.{contents-have-ranges}
use Rattle.content_repo.proofs.law.contents_have_ranges.Goals as goal

pub returns : goal.returns
returns c = contents-have-ranges
