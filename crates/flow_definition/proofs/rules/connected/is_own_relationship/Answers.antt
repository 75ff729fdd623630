use Rattle.std.proofs.Common.{ap, ◌∙◌}
use Rattle.serde_json.specs.View.{view}
use Rattle.machine_model.specs.Kinds.{is_among}
use Rattle.flow_definition.specs.Looks.{member_names, others_in, relationships_given}
use Rattle.flow_definition.proofs.rules.connected.is_own_relationship.Goals as goal

pub returns-in-Relationships : goal.returns-in-Relationships
returns-in-Relationships c =
    c.is_other.ensures
    ∙ ap (λ own. is_among c.args.name.now (member_names (relationships_given own (others_in (view c.args.processor.now))))) c.in-Relationships.ensures

pub returns-in-RelationshipPatterns : goal.returns-in-RelationshipPatterns
returns-in-RelationshipPatterns c =
    c.is_other-in-RelationshipPatterns.ensures
    ∙ ap (λ own. is_among c.args.name.now (member_names (relationships_given own (others_in (view c.args.processor.now))))) c.in-RelationshipPatterns.ensures
