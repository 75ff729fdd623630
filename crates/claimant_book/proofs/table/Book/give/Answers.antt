use Rattle.std.proofs.Common.{◌≡◌, ℕ, ◌-◌, ap, ◌∙◌, length-set, arith}
use Rattle.claimant_book.specs.declared.view.View.{View}
use Rattle.claimant_book.specs.Views.{holds_of, seen_by}
use Rattle.claimant_book.proofs.Tables.{holds-moved, read-is}
use Rattle.claimant_book.proofs.table.Book.give.Goals as goal

pub invariant_of-share : goal.invariant_of-share
invariant_of-share g c =
    let i = c.share.invariant in
    let v = c.share.inside.token in
    let e = c.drop_hold.ensures in
    let read : c.index_mut.result.now ≡ holds_of v c.args.slot = read-is c.share.inside.holds.items g.B.BookName.table.words c.args.slot c.index_mut.result.now (holds_of v c.args.slot) c.index_mut.ensures.value (i.2 c.args.slot c.requires.slot).0 c.requires.slot i.1 in (
      ap (λ (w : View). w.role) e ∙ i.0,
      length-set c.share.inside.holds.items c.args.slot (c.index_mut.result.now - 1) ∙ i.1,
      holds-moved g.B.BookName.table.words c.share.inside.holds.items v c.drop_hold.new.token c.args.slot (holds_of v c.args.slot - 1) (seen_by v c.args.slot) (c.index_mut.result.now - 1) e (ap (λ (n : ℕ). n - 1) read) c.requires.slot i.1 (omega (arith, (i.2 c.args.slot c.requires.slot).1)) i.2,
    )
