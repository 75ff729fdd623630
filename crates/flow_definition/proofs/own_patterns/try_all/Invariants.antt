use Rattle.std.proofs.Common.{◌≡◌, ◌≤◌, ℕ, List, ◌++◌}
use Rattle.serde_json.specs.View.{members_view}
use Rattle.flow_definition.specs.Looks.{member_list, others, texts_of}
use Rattle.flow_definition.specs.OwnPatterns.{AreTried}
use Rattle.flow_definition.specs.Patterns.{told_by_builder}
use Rattle.flow_definition.proofs.own_patterns.try_all.Given as goal

abbrev pub invariant-members : goal.invariant-members
invariant-members g l = record {
  tried : (front : List (List ℕ × List ℕ))
      × (texts_of (others l.properties (member_list (members_view l.members.entries)))
      ≡ front ++ texts_of (others l.properties (member_list (members_view l.name-iterator))))
      × AreTried (told_by_builder g.P.Patterns.faults g.P.Patterns.refused l.fn.patterns)
      (told_by_builder g.P.Patterns.faults g.P.Patterns.refused l.patterns) l.is_whole front l.refused;
  count : g.P.Patterns.faults l.fn.patterns ≤ g.P.Patterns.faults l.patterns;
}
