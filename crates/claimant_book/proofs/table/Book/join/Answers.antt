use Rattle.std.proofs.Common.{ℕ, ◌-◌, sym, ap, ◌∙◌, arith}
use Rattle.claimant_book.specs.declared.view.View.{View}
use Rattle.claimant_book.specs.Views.{seen_by}
use Rattle.claimant_book.proofs.Tables.{stages-same}
use Rattle.claimant_book.proofs.Meeting.{joined-seen}
use Rattle.claimant_book.proofs.table.Book.join.Goals as goal

pub invariant_of-keeper : goal.invariant_of-keeper
invariant_of-keeper g c =
    let i = c.keeper.invariant in
    let v = c.keeper.inside.token in
    let e = c.take_back.ensures in (
      ap (λ (w : View). w.role) e ∙ i.0,
      ap (λ (w : View). w.out) e ∙ ap (λ (n : ℕ). n - 1) i.1 ∙ sym c.one_less-keeper-inside.ensures,
      omega (arith, c.one_less-keeper-inside.ensures, i.2),
      i.3,
      stages-same g.B.BookName.table.words c.keeper.inside.stages.items v c.take_back.new.token (λ j. ap (λ (w : View). seen_by w j) e ∙ joined-seen v c.share.inside.token j i.0) i.4,
    )
