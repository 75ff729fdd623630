use Rattle.std.proofs.Common.{◌≡◌, ℕ, true, List, Some, refl, sym, ◌∙◌}
use Rattle.std.specs.List.{filter_map, list_all}
use Rattle.serde_json.specs.View.{view}
use Rattle.flow_definition.specs.declared.made.Kept.TheVariants as kept
use Rattle.flow_definition.specs.declared.made.Made.TheVariants as made
use Rattle.flow_definition.specs.declared.made.Refusal.TheVariants.{NoOwnPatterns}
use Rattle.flow_definition.specs.declared.rule.Rule.{Rule}
use Rattle.flow_definition.specs.Looks.{own_texts_in}
use Rattle.flow_definition.specs.OwnPatterns.{is_read, read_in, refusal_by}
use Rattle.flow_definition.specs.Patterns.{HasRisen, told_by_builder}
use Rattle.flow_definition.specs.Reading.{is_whole_in}
use Rattle.flow_definition.proofs.OwnPatterns.{all_read, none_told, not_refused, processor_held, refused_by_name, refused_some}
use Rattle.flow_definition.proofs.made.judge_own_patterns.Goals as goal

pub returns-in-Some-clause-judged : goal.returns-in-Some-clause-judged
returns-in-Some-clause-judged g c =
    let are = c.in_ok-try_own_patterns.ensures.tried in
    let refusal : Rule × List ℕ = (c.in-Some.rule, c.in-Some.name) in
    let is = (λ i. refusal_by (sym are.unread i) (sym are.too_big i)) ∙ sym c.in-Some.ensures in
    let named = refused_by_name _ _ refusal is in
    record {
      made = made.Refused (NoOwnPatterns are.attempts);
      is_made = (c.requires, (are.each, refused_some are.attempts refusal is));
      told = are.told;
      is_kept = λ i. kept.Refused (record { place = c.args.place; rule = named.0 i; property = Some (named.1 i) });
    }

pub returns-in-None-clause-judged : goal.returns-in-None-clause-judged
returns-in-None-clause-judged g c =
    let d = view c.args.processor.now in
    let before = told_by_builder g.P.Patterns.faults g.P.Patterns.refused c.args.patterns.now in
    let now = told_by_builder g.P.Patterns.faults g.P.Patterns.refused c.try_own_patterns.new.patterns in
    let are = c.in_ok-try_own_patterns.ensures.tried in
    let read : list_all is_read are.attempts ≡ true =
    not_refused are.attempts ((λ i. refusal_by (sym are.unread i) (sym are.too_big i)) ∙ sym c.in-None.ensures) in
    let held = processor_held d (filter_map read_in are.attempts) c.requires
    (all_read (HasRisen before.count now.count) (is_whole_in d) (own_texts_in d) are.attempts are.each read) in
    record {
      made = made.Processor held.0;
      is_made = held.1;
      told = are.told ∙ none_told before (is_whole_in d) (own_texts_in d) are.attempts read;
      is_kept = refl;
    }
