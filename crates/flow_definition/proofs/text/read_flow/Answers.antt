use Rattle.std.proofs.Common.{◌∙◌, ap, option_map, sym}
use Rattle.serde_json.specs.View.{view}
use Rattle.flow_definition.specs.Patterns.{HasRisen}
use Rattle.flow_definition.proofs.Soundness.{answer_sound}
use Rattle.flow_definition.proofs.text.read_flow.Goals as goal

pub returns-in-Some-clause-sound : goal.returns-in-Some-clause-sound
returns-in-Some-clause-sound g c =
    answer_sound (HasRisen (g.P.Patterns.faults c.args.patterns.now) (g.P.Patterns.faults c.read_top.new.patterns))
    c.args.bytes.now (view c.in-Some.top) c.read_top.result
    (sym c.in_ok-top.ensures ∙ ap (option_map view) c.in-Some.is) c.read_top.ensures.answer
