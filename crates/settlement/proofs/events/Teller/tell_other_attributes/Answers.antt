use Rattle.std.proofs.Common.{ap, sym, ◌∙◌}
use Rattle.std.specs.Option.{is_some}
use Rattle.settlement.specs.Telling.{if_other, told_by}
use Rattle.settlement.proofs.Lookups.{adds_nothing, none_at, same_is_silent, some_at}
use Rattle.settlement.proofs.events.Teller.tell_other_attributes.Goals as goal

pub returns-in_default : goal.returns-in_default
returns-in_default c =
    adds_nothing _ _ _
    (ap (if_other (told_by c.args.self.now) c.args.file.now) (some_at c.args.self.now.taken.now c.args.of c.in-Some.taken.now c.in-Some.ensures.lookup.0 c.in-Some.ensures.lookup.1)
    ∙ same_is_silent (told_by c.args.self.now) c.args.file.now c.in-Some.taken.now (sym c.equals.ensures.same ∙ c.if-not-equals.false))

pub returns-in_default-2 : goal.returns-in_default-2
returns-in_default-2 c =
    adds_nothing _ _ _
    (ap (if_other (told_by c.args.self.now) c.args.file.now) (none_at c.args.self.now.taken.now c.args.of (sym (ap is_some c.in_default.is) ∙ c.get.ensures.lookup.0)))
