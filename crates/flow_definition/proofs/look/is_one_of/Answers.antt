use Rattle.std.proofs.Common.{sym, ◌∙◌, rules, tests, bytes_eq}
use Rattle.std.proofs.lemmas.Iterator.{YieldsList-from_slice}
use Rattle.std.proofs.lemmas.Iterator.Search.{any_from_yields_List}
use Rattle.flow_definition.proofs.Lists.{list_any-map}
use Rattle.flow_definition.proofs.look.is_one_of.Goals as goal

pub returns : goal.returns
returns c =
    any_from_yields_List (λ x. bytes_eq c.args.name.now (x.now)) _ _ _ c.any.ensures.ran
    (YieldsList-from_slice c.args.names.now (cc)) (λ x b q k. search (rules, tests))
    ∙ sym (list_any-map (bytes_eq c.args.name.now) (λ x. x.now) c.args.names.now)
