use Rattle.std.proofs.Common.{◌≡◌, find}
use Rattle.serde_json.specs.View.{view, members_view}
use Rattle.flow_definition.specs.Looks.{member_list}
use Rattle.flow_definition.specs.Rules.{is_bad_property}
use Rattle.flow_definition.proofs.rules.properties.first_bad.Given as goal

abbrev pub invariant-members : goal.invariant-members
invariant-members l =
    find (is_bad_property (view l.processor)) (member_list (members_view l.members.entries))
    ≡ find (is_bad_property (view l.processor)) (member_list (members_view l.name-iterator))
