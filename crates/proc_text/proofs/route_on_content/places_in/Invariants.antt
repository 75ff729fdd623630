use Rattle.std.proofs.Common.{◌≡◌, take}
use Rattle.machine_model.specs.RouteOnAttribute.{places_where}
use Rattle.proc_text.specs.Finding.{finds}
use Rattle.proc_text.proofs.route_on_content.places_in.Given as goal

abbrev pub invariant-loop-place : goal.invariant-loop-place
invariant-loop-place l = l.places.items ≡ places_where (finds l.text) (take l.place l.own)
