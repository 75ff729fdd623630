use Rattle.std.proofs.Common.{◌&&◌, not, is_some, ap, sym, ◌∙◌}
use Rattle.serde_json.specs.View.{view}
use Rattle.machine_model.specs.Kinds.{is_among}
use Rattle.flow_definition.specs.Looks.{given_properties, is_fixed, member_names, properties_in}
use Rattle.flow_definition.proofs.Lists.{seen_some}
use Rattle.flow_definition.proofs.Others.{among_others}
use Rattle.flow_definition.proofs.OwnProperties.{among_given}
use Rattle.flow_definition.proofs.rules.connected.is_other.Goals as goal

pub returns-then-not-is_fixed : goal.returns-then-not-is_fixed
returns-then-not-is_fixed c =
    let d = view c.args.processor.now in
    let name = c.args.name.now in
    let fixed = sym (c.is_fixed.ensures ∙ ap (λ ps. is_fixed ps name) c.properties_in.ensures) ∙ c.if-not-is_fixed.true in
    c.is_some.ensures ∙ seen_some (λ v. view v.now) c.given_at.result ∙ ap is_some c.given_at.ensures ∙ among_given name d
    ∙ ap (λ b. not b && is_among name (member_names (given_properties d))) (sym fixed)
    ∙ among_others (properties_in d) name (given_properties d)

pub returns-else-not-is_fixed : goal.returns-else-not-is_fixed
returns-else-not-is_fixed c =
    let d = view c.args.processor.now in
    let name = c.args.name.now in
    let fixed = sym (c.is_fixed.ensures ∙ ap (λ ps. is_fixed ps name) c.properties_in.ensures) ∙ c.if-not-is_fixed.false in
    ap not c.if-not-is_fixed.false ∙ ap (λ b. not b && is_among name (member_names (given_properties d))) (sym fixed)
    ∙ among_others (properties_in d) name (given_properties d)
