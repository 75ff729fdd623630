use Rattle.std.proofs.Common.{◌≡◌, ◌<◌, sym, ◌∙◌, subst}
use Rattle.atomic_table.specs.Seated.{TableId}
use Rattle.claimant_book.specs.declared.view.Role.TheVariants.{Keeping}
use Rattle.claimant_book.specs.declared.view.View.{View}
use Rattle.claimant_book.proofs.Joining.{share_allowed}
use Rattle.claimant_book.proofs.table.Book.part.Goals as goal

pub split_seat-seat-requires : goal.split_seat-seat-requires
split_seat-seat-requires g c =
    let own = sym c.token.view_is in
    (c.token.invariant.0 ∙ sym c.self.invariant.0, subst (λ (z : TableId). 0 < z.words) (sym c.self.invariant.0) c.self.invariant.2, share_allowed c.self.inside.table.shared.key c.token.inside.seat.id c.token.inside.seat.me.0 (subst (λ (v : View). v.role ≡ Keeping) own c.requires.0) (subst (λ (v : View). v.out < 32) own c.requires.1))
