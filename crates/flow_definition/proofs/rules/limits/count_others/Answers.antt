use Rattle.std.proofs.Common.{not, ◌∙◌, rules, tests, map, string_bytes}
use Rattle.std.proofs.lemmas.Iterator.Consumers.{YieldsList-at, YieldsList-from_rest, YieldsList-from_filter, count_from_yields_List}
use Rattle.flow_definition.specs.Looks.{is_fixed}
use Rattle.flow_definition.proofs.Others.{others_counted}
use Rattle.flow_definition.proofs.rules.limits.count_others.Goals as goal

pub returns : goal.returns
returns c =
    let entries = c.args.members.now.entries in
    let keys = map (λ e. e.0) entries in
    let fixed = c.args.properties.now in
    count_from_yields_List c.filter.result _ c.count.ensures.ran
    (YieldsList-from_filter _ (λ k. not (is_fixed fixed (string_bytes k)))
    (YieldsList-at c.filter.ensures.source (YieldsList-from_rest keys c.keys.ensures.rest)) c.filter.ensures.closure
    (λ x b q k. search (rules, tests)))
    ∙ others_counted fixed entries
