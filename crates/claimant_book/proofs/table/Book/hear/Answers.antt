use Rattle.std.proofs.Common.{◌≡◌, ◌<◌, sym, ◌∙◌, subst}
use Rattle.atomic_table.specs.Seated.{TableId}
use Rattle.claimant_book.specs.declared.view.Role.TheVariants.{Noting}
use Rattle.claimant_book.specs.declared.view.View.{View}
use Rattle.claimant_book.specs.Views.{HoldsNothing}
use Rattle.claimant_book.proofs.Joining.{hear_allowed}
use Rattle.claimant_book.proofs.table.Book.hear.Goals as goal

pub join_seat-requires : goal.join_seat-requires
join_seat-requires g c =
    let own = sym c.token.view_is in
    let its = sym c.note.view_is in (
      c.token.invariant.0 ∙ sym c.self.invariant.0,
      c.note.invariant.0 ∙ sym c.self.invariant.0,
      c.note.invariant.1,
      subst (λ (z : TableId). 0 < z.words) (sym c.self.invariant.0) c.self.invariant.2,
      hear_allowed c.self.inside.table.shared.key c.token.inside.seat.id c.token.inside.seat.me.0 c.note.inside.seat.id c.note.inside.seat.me.0 (subst (λ (v : View). v.role ≡ Noting) its c.requires.0) (subst HoldsNothing its c.requires.1),
    )
