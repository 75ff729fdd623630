use Rattle.std.proofs.Common.{◌≡◌, ⊎_elim, ◌<◌, sym, ◌∙◌, subst}
use Rattle.atomic_table.specs.Seated.{TableId}
use Rattle.claimant_book.specs.declared.view.Role.TheVariants.{Spent}
use Rattle.claimant_book.specs.declared.view.View.{View}
use Rattle.claimant_book.proofs.Joining.{not-spent-keeping, not-spent-sharing, note_allowed}
use Rattle.claimant_book.proofs.table.Book.note.Goals as goal

pub split_seat-seat-requires : goal.split_seat-seat-requires
split_seat-seat-requires g c =
    let own = sym c.token.view_is in
    let active = subst (λ (v : View). ¬ (v.role ≡ Spent)) own (⊎_elim (λ k. not-spent-keeping c.args.token.now.role k) (λ s. not-spent-sharing c.args.token.now.role s) c.requires) in
    (c.token.invariant.0 ∙ sym c.self.invariant.0, subst (λ (z : TableId). 0 < z.words) (sym c.self.invariant.0) c.self.invariant.2, note_allowed c.self.inside.table.shared.key c.token.inside.seat.id c.token.inside.seat.me.0 active)
