use Rattle.settlement.specs.Telling.{told_by}
use Rattle.settlement.proofs.Lookups.{adds_nothing, none_at, sent_nowhere}
use Rattle.settlement.proofs.events.Teller.tell_put.Goals as goal

pub returns-in-None : goal.returns-in-None
returns-in-None c =
    adds_nothing _ _ _ (sent_nowhere (told_by c.args.self.now) c.args.put.now (none_at c.args.self.now.files.now c.args.put.now.place c.in-None.ensures.lookup.0))
