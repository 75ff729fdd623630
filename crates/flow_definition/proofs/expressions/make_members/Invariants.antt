use Rattle.std.proofs.Common.{◌≡◌, ℕ, List, ◌++◌}
use Rattle.serde_json.specs.View.{members_view}
use Rattle.flow_definition.specs.Looks.{member_list, others, texts_of}
use Rattle.flow_definition.specs.Reading.{AreOwnOf}
use Rattle.flow_definition.proofs.expressions.make_members.Given as goal

abbrev pub invariant-members : goal.invariant-members
invariant-members l =
    (front : List (List ℕ × List ℕ))
    × (texts_of (others l.properties (member_list (members_view l.members.entries)))
    ≡ front ++ texts_of (others l.properties (member_list (members_view l.name-iterator))))
    × AreOwnOf front l.list.items
