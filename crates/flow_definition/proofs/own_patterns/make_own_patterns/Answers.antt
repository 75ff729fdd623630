use Rattle.std.proofs.Common.{ap, sym, ◌∙◌}
use Rattle.std.specs.List.{list_all}
use Rattle.serde_json.specs.View.{view}
use Rattle.flow_definition.specs.Looks.{own_texts_in}
use Rattle.flow_definition.specs.OwnPatterns.{is_read}
use Rattle.flow_definition.specs.Patterns.{HasRisen, told_by_builder}
use Rattle.flow_definition.specs.Reading.{is_whole_in, own_patterns}
use Rattle.flow_definition.proofs.OwnPatterns.{all_read, none_told}
use Rattle.flow_definition.proofs.own_patterns.make_own_patterns.Goals as goal

pub returns-in_ok-list-clause-made : goal.returns-in_ok-list-clause-made
returns-in_ok-list-clause-made g c =
    let d = view c.args.processor.now in
    let risen = HasRisen (g.P.Patterns.faults c.args.patterns.now) (g.P.Patterns.faults c.attempt_own.new.patterns) in
    let attempts = c.in_ok-attempts.attempts.items in
    let read = ap (list_all is_read) (sym c.as_slice.ensures.value) ∙ sym c.are_read.ensures ∙ c.if-are_read.true in
    ap own_patterns (c.from.ensures ∙ c.in_ok-list.ensures)
    ∙ all_read risen (is_whole_in d) (own_texts_in d) attempts c.in_ok-attempts.ensures.made read

pub returns-in_ok-list-clause-told : goal.returns-in_ok-list-clause-told
returns-in_ok-list-clause-told g c =
    let d = view c.args.processor.now in
    let attempts = c.in_ok-attempts.attempts.items in
    let read = ap (list_all is_read) (sym c.as_slice.ensures.value) ∙ sym c.are_read.ensures ∙ c.if-are_read.true in
    c.in_ok-attempts.ensures.told
    ∙ none_told (told_by_builder g.P.Patterns.faults g.P.Patterns.refused c.args.patterns.now) (is_whole_in d) (own_texts_in d) attempts read
