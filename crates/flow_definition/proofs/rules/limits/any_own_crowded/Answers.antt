use Rattle.std.proofs.Common.{ℕ, List, Bool, ◌&&◌, not, ap, sym, ◌∙◌, rules, tests, map, string_bytes}
use Rattle.std.specs.List.{list_any}
use Rattle.std.proofs.lemmas.Iterator.Consumers.{YieldsList-from_rest}
use Rattle.std.proofs.lemmas.Iterator.Search.{any_from_yields_List}
use Rattle.serde_json.specs.View.{view, members_view}
use Rattle.flow_definition.specs.Looks.{is_fixed, member_list, member_names, others}
use Rattle.flow_definition.specs.Rules.{is_crowded}
use Rattle.flow_definition.proofs.Lists.{list_any-map, member_names_view}
use Rattle.flow_definition.proofs.Others.{any_others}
use Rattle.flow_definition.proofs.rules.limits.any_own_crowded.Goals as goal

pub returns : goal.returns
returns c =
    let entries = c.args.members.now.entries in
    let keys = map (λ e. e.0) entries in
    let fixed = c.properties_in-fixed.result.now in
    let wrong = is_crowded (view c.args.top.now) (view c.args.processor.now) in
    let test : List ℕ → Bool = λ name. not (is_fixed fixed name) && wrong name in
    any_from_yields_List (λ k. test (string_bytes k)) _ _ _ c.any.ensures.ran
    (YieldsList-from_rest keys c.keys.ensures.rest) (λ x b q k. search (rules, tests))
    ∙ sym (list_any-map test string_bytes keys)
    ∙ ap (list_any test) (member_names_view entries)
    ∙ any_others fixed wrong (member_list (members_view entries))
    ∙ ap (λ ps. list_any wrong (member_names (others ps (member_list (members_view entries))))) c.properties_in-fixed.ensures
