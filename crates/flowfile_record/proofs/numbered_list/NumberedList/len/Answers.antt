use Rattle.std.proofs.Common.{ap, subst}
use Rattle.flowfile_record.specs.NumberedItems.{AscendsByNumber}
use Rattle.flowfile_record.proofs.Numbers.{slots_ascend}
use Rattle.flowfile_record.proofs.numbered_list.NumberedList.len.Goals as goal

pub returns-clause-ascends : goal.returns-clause-ascends
returns-clause-ascends g c =
    subst (AscendsByNumber g.T.Numbered.number) (ap (λ v. v.items) c.self.view_is) (slots_ascend g.T.Numbered.number _ _ c.self.invariant.0)
