use Rattle.std.proofs.Common.{◌∙◌}
use Rattle.prioritizer.proofs.Numbers.{parsed-number}
use Rattle.prioritizer.proofs.priority.number.Goals as goal

pub returns : goal.returns
returns c = c.ok.ensures.value ∙ parsed-number _ _ c.parse.ensures.value.0
