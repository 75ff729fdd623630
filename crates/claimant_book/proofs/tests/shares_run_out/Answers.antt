use Rattle.std.proofs.Common.{ap, ◌∙◌}
use Rattle.claimant_book.specs.declared.view.View.{View}
use Rattle.claimant_book.specs.Views.{holds_of}
use Rattle.claimant_book.proofs.Trying.{share-holds-nothing}
use Rattle.claimant_book.proofs.tests.shares_run_out.Goals as goal

pub join-requires : goal.join-requires
join-requires g c j = ap (λ (w : View). holds_of w j) c.share_out-first.ensures.1 ∙ share-holds-nothing c.args.keeper.now j
