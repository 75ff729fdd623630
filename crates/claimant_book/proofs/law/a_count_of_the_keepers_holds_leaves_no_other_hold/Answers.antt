use Rattle.claimant_book.proofs.Keeping.{others_hold_nothing}
use Rattle.claimant_book.proofs.law.a_count_of_the_keepers_holds_leaves_no_other_hold.Goals as goal

pub returns : goal.returns
returns c = others_hold_nothing
