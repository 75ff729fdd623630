use Rattle.std.proofs.Common.{◌≡◌, ℕ, length, get_or, sym, ap, ◌∙◌, arith}
use Rattle.claimant_book.specs.declared.view.View.{View}
use Rattle.claimant_book.specs.Views.{holds_of}
use Rattle.atomic_table.specs.Seated.{TableId}
use Rattle.std.proofs.lemmas.List.{get_or-replicate, length-replicate}
use Rattle.claimant_book.proofs.Spots.{spot-told}
use Rattle.claimant_book.specs.declared.view.Spot.{Spot}
use Rattle.claimant_book.proofs.table.Book.share.Goals as goal

pub invariant_of-result : goal.invariant_of-result
invariant_of-result g c =
    let n : ℕ = c.word_count.result in
    let words : n ≡ g.B.BookName.table.words = c.word_count.ensures ∙ ap (λ (z : TableId). z.words) c.self.invariant.0 in
    let items = c.in_ok-holds.ensures in
    let v = c.keeper.inside.token in
    let nothing : (j : ℕ) → holds_of c.part-token.result j ≡ 0 = λ j. ap (λ (w : View). holds_of w j) c.part-token.ensures.1 ∙ ap (λ (x : Spot). x.held) (spot-told v.spots j) in (
      ap (λ (w : View). w.role) c.part-token.ensures.1,
      ap length items ∙ length-replicate n 0 ∙ words,
      λ j below. (ap (λ l. get_or l j 0) items ∙ get_or-replicate n j 0 0 (omega (arith, below, words)) ∙ sym (nothing j), omega (arith, nothing j)),
    )
