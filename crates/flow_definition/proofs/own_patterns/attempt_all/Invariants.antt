use Rattle.std.proofs.Common.{◌≡◌, ◌≤◌, ℕ, List, ◌++◌}
use Rattle.serde_json.specs.View.{members_view}
use Rattle.flow_definition.specs.Looks.{member_list, others, texts_of}
use Rattle.flow_definition.specs.OwnPatterns.{AreAttempts, told_attempts}
use Rattle.flow_definition.specs.Patterns.{HasRisen, told_by_builder}
use Rattle.flow_definition.proofs.own_patterns.attempt_all.Given as goal

abbrev pub invariant-members : goal.invariant-members
invariant-members g l = record {
  made : (front : List (List ℕ × List ℕ))
      × (texts_of (others l.properties (member_list (members_view l.members.entries)))
      ≡ front ++ texts_of (others l.properties (member_list (members_view l.name-iterator))))
      × AreAttempts (HasRisen (g.P.Patterns.faults l.fn.patterns) (g.P.Patterns.faults l.patterns)) l.is_whole front l.list.items
      × (told_by_builder g.P.Patterns.faults g.P.Patterns.refused l.patterns
      ≡ told_attempts l.is_whole (told_by_builder g.P.Patterns.faults g.P.Patterns.refused l.fn.patterns) front l.list.items);
  count : g.P.Patterns.faults l.fn.patterns ≤ g.P.Patterns.faults l.patterns;
}
