use Rattle.std.proofs.Common.{◌≡◌, true, false, append-nil, sym, ◌∙◌}
use Rattle.machine_model.specs.Placing.{leads}
use Rattle.settlement.proofs.goes.add_if_led_to.Goals as goal

pub returns-in_ok-push : goal.returns-in_ok-push
returns-in_ok-push c =
    let yes : leads c.args.processor c.args.relationship.now (c.args.place, c.args.connection.now) ≡ true = sym (c.leads.ensures c.args.place) ∙ c.if-leads.true in
    rw yes c.in_ok-push.ensures.items

pub returns-else-leads : goal.returns-else-leads
returns-else-leads c =
    let none : leads c.args.processor c.args.relationship.now (c.args.place, c.args.connection.now) ≡ false = sym (c.leads.ensures c.args.place) ∙ c.if-leads.false in
    rw none (sym (append-nil c.args.found.now.items))
