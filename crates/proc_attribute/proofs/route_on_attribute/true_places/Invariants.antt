use Rattle.std.proofs.Common.{◌≡◌, take}
use Rattle.machine_model.specs.RouteOnAttribute.{true_places}
use Rattle.proc_attribute.proofs.route_on_attribute.true_places.Given as goal

abbrev pub invariant-loop-place : goal.invariant-loop-place
invariant-loop-place g l = l.places.items ≡ true_places (g.S.Subject.attributes l.subject) (take l.place l.own)
