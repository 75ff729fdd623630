use Rattle.std.proofs.Common.{◌∙◌}
use Rattle.kept_state.specs.Applied.{left_after}
use Rattle.kept_state.proofs.Moving.{stays_after, stays_with}
use Rattle.kept_state.proofs.law.other_files_stay.Goals as goal

pub returns : goal.returns
returns c = λ k s n gone placed. stays_with n s.placed (left_after s.gone k.files) placed ∙ stays_after n s.gone k.files gone
