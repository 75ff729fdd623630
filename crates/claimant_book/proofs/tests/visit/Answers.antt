use Rattle.std.proofs.Common.{◌-◌, arith}
use Rattle.claimant_book.specs.Views.{holds_of, seen_by}
use Rattle.claimant_book.proofs.Trying.{after-take, after-give, now-sees}
use Rattle.claimant_book.proofs.tests.visit.Goals as goal

pub returns : goal.returns
returns g c =
    let v = c.args.share.now in
    let w = c.take.new.share in
    let t = after-take c.take.result v w c.requires.2 c.take.ensures in (
      omega (arith, t.1, now-sees w c.give.new.share 0 (holds_of w 0 - 1) (seen_by w 0) c.give.ensures),
      after-give w c.give.new.share t.0 t.2 c.give.ensures,
    )
