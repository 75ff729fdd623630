use Rattle.std.proofs.Common.{ap, ◌∙◌, subst}
use Rattle.serde_json.specs.View.{view}
use Rattle.machine_model.specs.declared.flow.Flow.{Flow}
use Rattle.flow_definition.specs.declared.field.Field.TheVariants.{Processors}
use Rattle.flow_definition.specs.Looks.{list_items_at}
use Rattle.flow_definition.specs.Judged.{AreJudged}
use Rattle.flow_definition.specs.Patterns.{HasRisen, told_by_builder}
use Rattle.flow_definition.specs.Places.{broken_path}
use Rattle.flow_definition.specs.Walk.{first_broken}
use Rattle.flow_definition.proofs.Answered.{accepted_told, behind_refused, behind_told, big_rises, named_big, behind_accepted, flow_made, none_behind}
use Rattle.flow_definition.proofs.Judged.{all_kept, found_behind, is_none_found, last_unbroken}
use Rattle.flow_definition.proofs.text.read_behind.Goals as goal

pub returns-in-Some-clause-count : goal.returns-in-Some-clause-count
returns-in-Some-clause-count g c =
    let before = told_by_builder g.P.Patterns.faults g.P.Patterns.refused c.args.patterns.now in
    let now = told_by_builder g.P.Patterns.faults g.P.Patterns.refused c.make_all.new.patterns in
    let risen = HasRisen before.count now.count in
    let top = view c.args.top.now in
    let are = subst (λ ds. AreJudged before now c.is_none.result ds c.in_ok-judged.judged) c.items_at.ensures c.in_ok-judged.ensures.judged in
    let made = are.made in
    let found = found_behind top made _ _ _ c.in-Some.ensures (c.as_slice.ensures.value ∙ are.refused)
    (c.first_of-last.ensures ∙ ap (λ rules. first_broken rules top) c.last_rules.ensures) in
    let broken = broken_path c.in-Some.broken in
    record {
      never_falls = c.make_all.ensures.count;
      rose = λ big small. big_rises risen top (list_items_at Processors top) made broken are.each found
          (named_big broken c.error_of.result c.error_of.ensures big) small;
    }

pub returns-in-Some-clause-answer : goal.returns-in-Some-clause-answer
returns-in-Some-clause-answer g c =
    let before = told_by_builder g.P.Patterns.faults g.P.Patterns.refused c.args.patterns.now in
    let now = told_by_builder g.P.Patterns.faults g.P.Patterns.refused c.make_all.new.patterns in
    let top = view c.args.top.now in
    let are = subst (λ ds. AreJudged before now c.is_none.result ds c.in_ok-judged.judged) c.items_at.ensures c.in_ok-judged.ensures.judged in
    let found = found_behind top are.made _ _ _ c.in-Some.ensures (c.as_slice.ensures.value ∙ are.refused)
    (c.first_of-last.ensures ∙ ap (λ rules. first_broken rules top) c.last_rules.ensures) in
    behind_refused (HasRisen before.count now.count) c.args.bytes.now top are.made (broken_path c.in-Some.broken) c.error_of.result
    are.each found c.error_of.ensures

pub returns-in_ok-connections-in-None-clause-answer : goal.returns-in_ok-connections-in-None-clause-answer
returns-in_ok-connections-in-None-clause-answer g c =
    let before = told_by_builder g.P.Patterns.faults g.P.Patterns.refused c.args.patterns.now in
    let now = told_by_builder g.P.Patterns.faults g.P.Patterns.refused c.make_all.new.patterns in
    let risen = HasRisen before.count now.count in
    let bytes = c.args.bytes.now in
    let top = view c.args.top.now in
    let are = subst (λ ds. AreJudged before now c.is_none.result ds c.in_ok-judged.judged) c.items_at.ensures c.in_ok-judged.ensures.judged in
    let made = are.made in
    let flow : Flow = record { processors = c.from.result; connections = c.from-in-None.result; digest = c.digest_of.result } in
    let found = found_behind top made _ _ _ c.in-None.ensures (c.as_slice.ensures.value ∙ are.refused)
    (c.first_of-last.ensures ∙ ap (λ rules. first_broken rules top) c.last_rules.ensures) in
    behind_accepted risen bytes top made flow are.each found
    (flow_made risen bytes top made flow are.each found
    (c.from.ensures ∙ are.processors
    ∙ all_kept c.is_none.result made (is_none_found broken_path c.first_of-last.result c.is_none.result c.is_none.ensures
    (c.first_of-last.ensures ∙ ap (λ rules. first_broken rules top) c.last_rules.ensures ∙ last_unbroken top made found))
    (none_behind top made found))
    (c.from-in-None.ensures ∙ c.in_ok-connections-in-None.ensures) c.digest_of.ensures)

pub returns-in-Some-clause-told : goal.returns-in-Some-clause-told
returns-in-Some-clause-told g c =
    let before = told_by_builder g.P.Patterns.faults g.P.Patterns.refused c.args.patterns.now in
    let now = told_by_builder g.P.Patterns.faults g.P.Patterns.refused c.make_all.new.patterns in
    let top = view c.args.top.now in
    let are = subst (λ ds. AreJudged before now c.is_none.result ds c.in_ok-judged.judged) c.items_at.ensures c.in_ok-judged.ensures.judged in
    let made = are.made in
    let found = found_behind top made _ _ _ c.in-Some.ensures (c.as_slice.ensures.value ∙ are.refused)
    (c.first_of-last.ensures ∙ ap (λ rules. first_broken rules top) c.last_rules.ensures) in
    behind_told before now top made (broken_path c.in-Some.broken) c.error_of.result are.each are.told found c.error_of.ensures

pub returns-in_ok-connections-in-None-clause-told : goal.returns-in_ok-connections-in-None-clause-told
returns-in_ok-connections-in-None-clause-told g c =
    let before = told_by_builder g.P.Patterns.faults g.P.Patterns.refused c.args.patterns.now in
    let now = told_by_builder g.P.Patterns.faults g.P.Patterns.refused c.make_all.new.patterns in
    let top = view c.args.top.now in
    let are = subst (λ ds. AreJudged before now c.is_none.result ds c.in_ok-judged.judged) c.items_at.ensures c.in_ok-judged.ensures.judged in
    let made = are.made in
    let found = found_behind top made _ _ _ c.in-None.ensures (c.as_slice.ensures.value ∙ are.refused)
    (c.first_of-last.ensures ∙ ap (λ rules. first_broken rules top) c.last_rules.ensures) in
    accepted_told before now top made are.told found
