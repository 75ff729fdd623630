use Rattle.std.proofs.Common.{ap, ◌∙◌}
use Rattle.serde_json.specs.View.{view, members_view}
use Rattle.flow_definition.specs.Looks.{member_list, member_names, others, others_in, properties_in, relationships_given}
use Rattle.flow_definition.proofs.Others.{names_seen}
use Rattle.flow_definition.proofs.look.own_relationships.Goals as goal

pub returns-in-Relationships : goal.returns-in-Relationships
returns-in-Relationships c =
    let d = view c.args.processor.now in
    names_seen (properties_in d) (λ m. member_list (members_view m.now.entries)) c.given.result
    ∙ ap (λ gs. member_names (others (properties_in d) gs)) c.given.ensures ∙ ap (λ o. member_names (relationships_given o (others_in d))) c.in-Relationships.ensures

pub returns-in-RelationshipPatterns : goal.returns-in-RelationshipPatterns
returns-in-RelationshipPatterns c =
    let d = view c.args.processor.now in
    names_seen (properties_in d) (λ m. member_list (members_view m.now.entries)) c.given-in-RelationshipPatterns.result
    ∙ ap (λ gs. member_names (others (properties_in d) gs)) c.given-in-RelationshipPatterns.ensures ∙ ap (λ o. member_names (relationships_given o (others_in d))) c.in-RelationshipPatterns.ensures
