use Rattle.std.proofs.Common.{ℕ, ◌+◌, ◌-◌, ◌%◌, ap, ◌∙◌, arith}
use Rattle.claimant_book.specs.Views.{holds_of, seen_by}
use Rattle.claimant_book.proofs.Trying.{begun, now-holds, now-sees, else-sees}
use Rattle.claimant_book.proofs.tests.begins.Goals as goal

pub more-requires-clause-live : goal.more-requires-clause-live
more-requires-clause-live g c = ap (λ (n : ℕ). n % 2) (begun c.args.keeper.now c.begin.new.keeper c.requires.1 c.begin.ensures.begun).0

pub more-requires-clause-room : goal.more-requires-clause-room
more-requires-clause-room g c = omega (arith, (begun c.args.keeper.now c.begin.new.keeper c.requires.1 c.begin.ensures.begun).1)

pub less-requires-clause-held : goal.less-requires-clause-held
less-requires-clause-held g c =
    let k = c.begin.new.keeper in
    omega (arith, (begun c.args.keeper.now k c.requires.1 c.begin.ensures.begun).1, now-holds k c.more.new.keeper 0 (holds_of k 0 + 1) (seen_by k 0) c.more.ensures)

pub returns : goal.returns
returns g c =
    let b = begun c.args.keeper.now c.begin.new.keeper c.requires.1 c.begin.ensures.begun in
    let k = c.begin.new.keeper in
    let m = c.more.new.keeper in
    let n = c.less.new.keeper in (
      now-sees m n 0 (holds_of m 0 - 1) (seen_by m 0) c.less.ensures ∙ now-sees k m 0 (holds_of k 0 + 1) (seen_by k 0) c.more.ensures ∙ b.0,
      else-sees m n 0 (holds_of m 0 - 1) (seen_by m 0) 1 (λ e. omega arith) c.less.ensures ∙ else-sees k m 0 (holds_of k 0 + 1) (seen_by k 0) 1 (λ e. omega arith) c.more.ensures ∙ b.2,
    )
