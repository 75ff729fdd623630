use Rattle.std.proofs.Common.{◌-◌, ap, ◌∙◌}
use Rattle.claimant_book.specs.declared.view.View.{View}
use Rattle.claimant_book.specs.Views.{holds_of, seen_by}
use Rattle.claimant_book.proofs.Tables.{stages-same, knowing-seen}
use Rattle.claimant_book.proofs.table.Book.less.Goals as goal

pub invariant_of-keeper : goal.invariant_of-keeper
invariant_of-keeper g c =
    let i = c.keeper.invariant in
    let v = c.keeper.inside.token in
    let e = c.drop_hold.ensures in (
      ap (λ (x : View). x.role) e ∙ i.0,
      ap (λ (x : View). x.out) e ∙ i.1,
      i.2,
      i.3,
      stages-same g.B.BookName.table.words c.keeper.inside.stages.items v c.drop_hold.new.token (λ j. ap (λ (x : View). seen_by x j) e ∙ knowing-seen v c.args.slot (holds_of v c.args.slot - 1) j) i.4,
    )
