use Rattle.std.proofs.Common.{◌+◌, arith}
use Rattle.claimant_book.specs.Views.{seen_by}
use Rattle.claimant_book.proofs.Trying.{now-holds, now-sees}
use Rattle.claimant_book.proofs.tests.renew.Goals as goal

pub retire-requires-clause-live : goal.retire-requires-clause-live
retire-requires-clause-live g c =
    let k = c.args.keeper.now in
    omega (arith, c.requires.1, now-sees k c.begin.new.keeper 1 1 (seen_by k 1 + 1) c.begin.ensures.begun)

pub retire-requires-clause-base : goal.retire-requires-clause-base
retire-requires-clause-base g c =
    let k = c.args.keeper.now in
    now-holds k c.begin.new.keeper 1 1 (seen_by k 1 + 1) c.begin.ensures.begun
