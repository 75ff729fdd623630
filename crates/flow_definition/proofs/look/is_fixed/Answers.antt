use Rattle.std.proofs.Common.{rules, tests, bytes_eq}
use Rattle.std.proofs.lemmas.Iterator.{YieldsList-from_slice}
use Rattle.std.proofs.lemmas.Iterator.Search.{any_from_yields_List}
use Rattle.flow_definition.specs.Types.{property_name}
use Rattle.flow_definition.proofs.look.is_fixed.Goals as goal

pub returns : goal.returns
returns c =
    any_from_yields_List (λ property. bytes_eq (property_name property) c.args.name.now) _ _ _ c.any.ensures.ran
    (YieldsList-from_slice c.args.properties.now (cc)) (λ x b q k. search (rules, tests))
