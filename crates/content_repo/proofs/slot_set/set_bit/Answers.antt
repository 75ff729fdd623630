use Rattle.content_repo.proofs.SlotSets.{set-here, set-changed}
use Rattle.content_repo.proofs.slot_set.set_bit.Goals as goal

pub returns-clause-here : goal.returns-clause-here
returns-clause-here c = set-here c.args.words.now c.args.place c.requires

pub returns-clause-changed : goal.returns-clause-changed
returns-clause-changed c = set-changed c.args.words.now c.args.place c.requires
