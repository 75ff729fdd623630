use Rattle.std.proofs.Common.{ap, ◌∙◌, arith}
use Rattle.claimant_book.specs.declared.view.View.{View}
use Rattle.claimant_book.specs.Views.{holds_of, seen_by}
use Rattle.claimant_book.proofs.Trying.{share-holds-nothing, share-sees}
use Rattle.claimant_book.proofs.tests.seen_share.Goals as goal

pub returns : goal.returns
returns g c =
    let k = c.args.keeper.now in
    let e = c.share_out.ensures in (
      omega (arith, ap (λ (w : View). seen_by w 0) e.1, share-sees k 0, c.requires),
      (λ j. ap (λ (w : View). holds_of w j) e.1 ∙ share-holds-nothing k j),
      ap (λ (w : View). seen_by w 0) e.0 ∙ c.requires,
    )
