use Rattle.std.proofs.Common.{ap, length, ◌∙◌}
use Rattle.settlement.proofs.MadeFiles.{length_entered, length_numbers}
use Rattle.settlement.proofs.making.Setting.end_files.Goals as goal

pub end_each-requires-clause-numbers : goal.end_each-requires-clause-numbers
end_each-requires-clause-numbers c =
    ap length (c.deref-3.ensures.value ∙ c.in_ok-numbers.ensures) ∙ length_numbers _ _ c.deref.result.now ∙ ap length c.deref.ensures.value

pub end_each-requires-clause-entered : goal.end_each-requires-clause-entered
end_each-requires-clause-entered c =
    ap length (c.deref-4.ensures.value ∙ c.in_ok-entered.ensures) ∙ length_entered _ _ c.deref-2.result.now ∙ ap length c.deref-2.ensures.value

pub returns : goal.returns
returns c =
    rw (c.deref-3.ensures.value, c.deref-4.ensures.value, c.in_ok-numbers.ensures, c.in_ok-entered.ensures, c.deref.ensures.value, c.deref-2.ensures.value) at c.end_each.ensures
