use Rattle.content_repo.proofs.SlotSets.{clear-here, clear-changed, clear-left}
use Rattle.content_repo.proofs.slot_set.clear_bit.Goals as goal

pub returns-clause-here : goal.returns-clause-here
returns-clause-here c = clear-here c.args.words.now c.args.place c.requires

pub returns-clause-changed : goal.returns-clause-changed
returns-clause-changed c = clear-changed c.args.words.now c.args.place c.requires

pub returns-clause-left : goal.returns-clause-left
returns-clause-left c = clear-left c.args.words.now c.args.place c.requires
