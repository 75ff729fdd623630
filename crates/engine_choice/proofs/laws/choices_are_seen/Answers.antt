use Rattle.engine_choice.proofs.Seen.{choices-are-seen}
use Rattle.engine_choice.proofs.laws.choices_are_seen.Goals as goal

pub returns : goal.returns
returns c = choices-are-seen
