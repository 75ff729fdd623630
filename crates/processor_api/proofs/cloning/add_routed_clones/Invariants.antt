use Rattle.std.proofs.Common.{◌≡◌, map, take}
use Rattle.machine_model.specs.RouteOnAttribute.{routed_clone}
use Rattle.process_session.specs.Bench.{bench_attributes}
use Rattle.processor_api.specs.Cloning.{with_ended}
use Rattle.processor_api.proofs.cloning.add_routed_clones.Given as goal

abbrev pub invariant-loop-relationship : goal.invariant-loop-relationship
invariant-loop-relationship l = l.session ≡ with_ended l.fn.session (map (routed_clone (bench_attributes l.fn.session 0)) (take l.relationship-index l.relationships))
