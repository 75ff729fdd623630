use Rattle.std.proofs.Common.{ap, ◌∙◌}
use Rattle.serde_json.specs.View.{view, members_view}
use Rattle.flow_definition.specs.Looks.{member_list, others, others_in, properties_in, own_given}
use Rattle.flow_definition.proofs.Others.{others_seen}
use Rattle.flow_definition.proofs.look.own_properties.Goals as goal

pub returns-in-Attributes : goal.returns-in-Attributes
returns-in-Attributes c =
    let d = view c.args.processor.now in
    others_seen (properties_in d) (λ m. member_list (members_view m.now.entries)) c.given.result
    ∙ ap (others (properties_in d)) c.given.ensures ∙ ap (λ o. own_given o (others_in d)) c.in-Attributes.ensures

pub returns-in-Relationships : goal.returns-in-Relationships
returns-in-Relationships c =
    let d = view c.args.processor.now in
    others_seen (properties_in d) (λ m. member_list (members_view m.now.entries)) c.given-in-Relationships.result
    ∙ ap (others (properties_in d)) c.given-in-Relationships.ensures ∙ ap (λ o. own_given o (others_in d)) c.in-Relationships.ensures

pub returns-in-AttributePatterns : goal.returns-in-AttributePatterns
returns-in-AttributePatterns c =
    let d = view c.args.processor.now in
    others_seen (properties_in d) (λ m. member_list (members_view m.now.entries)) c.given-in-AttributePatterns.result
    ∙ ap (others (properties_in d)) c.given-in-AttributePatterns.ensures ∙ ap (λ o. own_given o (others_in d)) c.in-AttributePatterns.ensures

pub returns-in-RelationshipPatterns : goal.returns-in-RelationshipPatterns
returns-in-RelationshipPatterns c =
    let d = view c.args.processor.now in
    others_seen (properties_in d) (λ m. member_list (members_view m.now.entries)) c.given-in-RelationshipPatterns.result
    ∙ ap (others (properties_in d)) c.given-in-RelationshipPatterns.ensures ∙ ap (λ o. own_given o (others_in d)) c.in-RelationshipPatterns.ensures
