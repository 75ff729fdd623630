use Rattle.std.proofs.Common.{◌≡◌, ℕ, List, ap, subst, ◌∙◌}
use Rattle.std.specs.Prelude.{IfOk}
use Rattle.machine_model.specs.RouteOnAttribute.{places_where}
use Rattle.proc_text.specs.Finding.{finds}
use Rattle.proc_text.proofs.Routes.{found-in-text, none-found}
use Rattle.proc_text.proofs.Texts.{is-text, isnt-text}
use Rattle.proc_text.proofs.route_on_content.found_places.Goals as goal

pub returns-in-Ok : goal.returns-in-Ok
returns-in-Ok c =
    let content = c.args.content.now in
    let own = c.args.own.now in
    let text = c.in-Ok.ensures in
    subst (λ (found : List ℕ). IfOk c.places_in.result (λ places. places.items ≡ found))
    (ap (λ t. places_where (finds t) own) text.0 ∙ found-in-text content own (is-text content text.1)) c.places_in.ensures

pub returns-in-Err : goal.returns-in-Err
returns-in-Err c = c.new.ensures.items ∙ none-found c.args.content.now c.args.own.now (isnt-text c.args.content.now c.in-Err.ensures)
