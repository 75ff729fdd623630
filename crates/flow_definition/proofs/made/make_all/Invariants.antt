use Rattle.std.proofs.Common.{◌≡◌, ◌≤◌, ◌&&◌, map, take}
use Rattle.std.specs.List.{list_all}
use Rattle.serde_json.specs.View.{view}
use Rattle.flow_definition.specs.Judged.{AreJudged, is_processor_made}
use Rattle.flow_definition.specs.Patterns.{told_by_builder}
use Rattle.flow_definition.proofs.made.make_all.Given as goal

abbrev pub invariant-items : goal.invariant-items
invariant-items g l = record {
  judged : (are : AreJudged (told_by_builder g.P.Patterns.faults g.P.Patterns.refused l.fn.patterns)
      (told_by_builder g.P.Patterns.faults g.P.Patterns.refused l.patterns) l.may_be_accepted (map view (take l.place l.items)) l.judged)
      × (l.judged.may_be_accepted ≡ l.may_be_accepted && list_all is_processor_made are.made);
  count : g.P.Patterns.faults l.fn.patterns ≤ g.P.Patterns.faults l.patterns;
}
