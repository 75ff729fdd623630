use Rattle.content_repo.proofs.ForCallers.{held_there, within_claim}
use Rattle.content_repo.proofs.law.appended_contents_are_held.Goals as goal

pub returns-clause-held : goal.returns-clause-held
returns-clause-held c = held_there

pub returns-clause-within : goal.returns-clause-within
returns-clause-within c = within_claim
