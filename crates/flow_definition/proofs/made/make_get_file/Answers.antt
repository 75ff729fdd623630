use Rattle.std.proofs.Common.{ap, ◌∙◌, subst}
use Rattle.serde_json.specs.View.{view}
use Rattle.machine_model.specs.Sound.{to_match_whole}
use Rattle.flow_definition.specs.Building.{IsBuilt}
use Rattle.flow_definition.specs.Patterns.{HasRisen, IsUnread}
use Rattle.flow_definition.proofs.Verdicts.{file_filter_in}
use Rattle.flow_definition.proofs.made.make_get_file.Goals as goal

pub returns-in-Unread-clause-made : goal.returns-in-Unread-clause-made
returns-in-Unread-clause-made g c =
    let risen = HasRisen (g.P.Patterns.faults c.args.patterns.now) (g.P.Patterns.faults c.build.new.patterns) in (
      (file_filter_in (view c.args.processor.now) c.requires, tt),
      subst IsUnread (c.in_ok-text.ensures ∙ ap to_match_whole c.property_text.ensures)
          (subst (IsBuilt risen c.in_ok-text.text) c.in-Unread.is c.in_ok-filter.ensures.built),
    )
