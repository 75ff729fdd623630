use Rattle.std.proofs.Common.{rules, ◌≡◌, List, [], ℕ, subst}
use Rattle.std.specs.Prelude.{IfOk, Option}
use Rattle.machine_model.specs.Making.{found_in}
use Rattle.machine_model.specs.RouteOnAttribute.{true_places}
use Rattle.proc_attribute.specs.Routing.{found_of}
use Rattle.proc_attribute.proofs.route_on_attribute.places_over.Goals as goal

-- src/route_on_attribute.rt:67:1
pub returns : goal.returns
returns c =
    let same : found_in (record { attributes = c.in-Some-Some.attributes.now; uuid = c.in-Some-Some.uuid.now; bytes = [] }) ≡ found_of c.args.session.now = search rules in
    subst (λ (find : List ℕ → Option (List ℕ)). IfOk c.true_places.result (λ places. places.items ≡ true_places find c.args.own.now)) same c.true_places.ensures
