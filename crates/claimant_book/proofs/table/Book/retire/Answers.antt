use Rattle.std.proofs.Common.{◌≡◌, ℕ, ◌+◌, ◌*◌, ◌%◌, sym, ap, ◌∙◌, subst, length-set, arith}
use Rattle.claimant_book.specs.declared.view.View.{View}
use Rattle.claimant_book.specs.Views.{seen_by}
use Rattle.claimant_book.proofs.Tables.{stages-moved, stages-same, looked-seen, read-is, retire-hit, retire-miss}
use Rattle.claimant_book.proofs.table.Book.retire.Goals as goal

pub invariant_of-keeper : goal.invariant_of-keeper
invariant_of-keeper g c =
    let i = c.keeper.invariant in
    let v = c.keeper.inside.token in
    let own = sym c.keeper.view_is in
    let e = retire-hit v c.args.slot (c.index-stage.result.now * 4294967296 + 1) c.step_retired-word.result c.step_retired-word.new.token (c.if-word-base_word.true ∙ c.base_word.ensures) c.step_retired-word.ensures in
    let read : c.index-stage.result.now ≡ seen_by v c.args.slot = read-is c.keeper.inside.stages.items g.B.BookName.table.words c.args.slot c.index-stage.result.now (seen_by v c.args.slot) c.index-stage.ensures (i.4 c.args.slot c.requires.slot).0 c.requires.slot i.3 in (
      ap (λ (w : View). w.role) e ∙ i.0,
      ap (λ (w : View). w.out) e ∙ i.1,
      i.2,
      length-set c.keeper.inside.stages.items c.args.slot (c.index-stage.result.now + 1) ∙ i.3,
      stages-moved g.B.BookName.table.words c.keeper.inside.stages.items v c.step_retired-word.new.token c.args.slot 0 (seen_by v c.args.slot + 1) (c.index-stage.result.now + 1) e (ap (λ (n : ℕ). n + 1) read) c.requires.slot i.3 (omega (arith, (i.4 c.args.slot c.requires.slot).1, subst (λ (w : View). seen_by w c.args.slot % 2 ≡ 1) own c.requires.live)) i.4,
    )

pub invariant_of-keeper-else-word-base_word : goal.invariant_of-keeper-else-word-base_word
invariant_of-keeper-else-word-base_word g c =
    let i = c.keeper.invariant in
    let v = c.keeper.inside.token in
    let l = retire-miss v c.args.slot (c.index-stage.result.now * 4294967296 + 1) c.step_retired-word.result c.step_retired-word.new.token (λ e. c.if-word-base_word.false (e ∙ sym c.base_word.ensures)) c.step_retired-word.ensures in (
      ap (λ (w : View). w.role) l.0 ∙ i.0,
      ap (λ (w : View). w.out) l.0 ∙ i.1,
      i.2,
      i.3,
      stages-same g.B.BookName.table.words c.keeper.inside.stages.items v c.step_retired-word.new.token (λ j. ap (λ (w : View). seen_by w j) l.0 ∙ looked-seen v c.args.slot c.step_retired-word.result j i.0 l.1) i.4,
    )
