use Rattle.std.proofs.Common.{◌≡◌, ℕ, ◌+◌, ◌<◌, sym, ap, ◌∙◌, subst, length-set, arith}
use Rattle.claimant_book.specs.declared.view.View.{View}
use Rattle.claimant_book.specs.Views.{seen_by}
use Rattle.claimant_book.proofs.Tables.{stages-moved, read-is}
use Rattle.claimant_book.proofs.table.Book.begin.Goals as goal

pub invariant_of-keeper : goal.invariant_of-keeper
invariant_of-keeper g c =
    let i = c.keeper.invariant in
    let v = c.keeper.inside.token in
    let own = sym c.keeper.view_is in
    let e = c.step_live.ensures in
    let read : c.index-stage.result.now ≡ seen_by v c.args.slot = read-is c.keeper.inside.stages.items g.B.BookName.table.words c.args.slot c.index-stage.result.now (seen_by v c.args.slot) c.index-stage.ensures (i.4 c.args.slot c.requires.slot).0 c.requires.slot i.3 in (
      ap (λ (w : View). w.role) e ∙ i.0,
      ap (λ (w : View). w.out) e ∙ i.1,
      i.2,
      length-set c.keeper.inside.stages.items c.args.slot (c.index-stage.result.now + 1) ∙ i.3,
      stages-moved g.B.BookName.table.words c.keeper.inside.stages.items v c.step_live.new.token c.args.slot 1 (seen_by v c.args.slot + 1) (c.index-stage.result.now + 1) e (ap (λ (n : ℕ). n + 1) read) c.requires.slot i.3 (omega (arith, subst (λ (w : View). seen_by w c.args.slot < 4294967294) own c.requires.idle.1)) i.4,
    )
