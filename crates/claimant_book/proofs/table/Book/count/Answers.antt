use Rattle.std.proofs.Common.{ap, ◌∙◌}
use Rattle.claimant_book.specs.declared.view.View.{View}
use Rattle.claimant_book.specs.Views.{seen_by}
use Rattle.claimant_book.proofs.Tables.{stages-same, looked-seen}
use Rattle.claimant_book.proofs.table.Book.count.Goals as goal

pub invariant_of-keeper : goal.invariant_of-keeper
invariant_of-keeper g c =
    let i = c.keeper.invariant in
    let v = c.keeper.inside.token in
    let e = c.look.ensures.0 in (
      ap (λ (x : View). x.role) e ∙ i.0,
      ap (λ (x : View). x.out) e ∙ i.1,
      i.2,
      i.3,
      stages-same g.B.BookName.table.words c.keeper.inside.stages.items v c.look.new.token (λ j. ap (λ (x : View). seen_by x j) e ∙ looked-seen v c.args.slot c.look.result j i.0 c.look.ensures.1) i.4,
    )
