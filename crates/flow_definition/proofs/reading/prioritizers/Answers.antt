use Rattle.std.proofs.Common.{arith}
use Rattle.std.proofs.lemmas.Grind.{common_steps}
use Rattle.std.proofs.lemmas.List.Elements.{filter_map-append}
use Rattle.flow_definition.proofs.reading.prioritizers.Goals as goal

pub names-preserved : goal.names-preserved
names-preserved c = grind (arith, common_steps, filter_map-append)
