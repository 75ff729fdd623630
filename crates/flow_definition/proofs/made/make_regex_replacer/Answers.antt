use Rattle.std.proofs.Common.{◌∙◌, subst}
use Rattle.serde_json.specs.View.{view}
use Rattle.flow_definition.specs.Building.{IsBuilt}
use Rattle.flow_definition.specs.Patterns.{HasRisen, IsUnread}
use Rattle.flow_definition.proofs.Verdicts.{search_value_in}
use Rattle.flow_definition.proofs.made.make_regex_replacer.Goals as goal

pub returns-in-Unread-clause-made : goal.returns-in-Unread-clause-made
returns-in-Unread-clause-made g c =
    let risen = HasRisen (g.P.Patterns.faults c.args.patterns.now) (g.P.Patterns.faults c.build.new.patterns) in (
      (search_value_in (view c.args.processor.now) c.requires.named, c.requires.strategy),
      subst IsUnread (c.in_ok-text.ensures ∙ c.property_text.ensures)
          (subst (IsBuilt risen c.in_ok-text.text) c.in-Unread.is c.in_ok-search.ensures.built),
    )

pub returns-in-TooBig-clause-made : goal.returns-in-TooBig-clause-made
returns-in-TooBig-clause-made g c =
    let risen = HasRisen (g.P.Patterns.faults c.args.patterns.now) (g.P.Patterns.faults c.build.new.patterns) in (
      (search_value_in (view c.args.processor.now) c.requires.named, c.requires.strategy),
      subst (IsBuilt risen c.in_ok-text.text) c.in-TooBig.is c.in_ok-search.ensures.built,
    )
