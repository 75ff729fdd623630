use Rattle.std.proofs.Common.{◌≡◌, ◌<◌, sym, ◌∙◌, subst, arith}
use Rattle.atomic_table.specs.Seated.{TableId}
use Rattle.claimant_book.specs.declared.view.Role.TheVariants.{Keeping}
use Rattle.claimant_book.specs.declared.view.View.{View}
use Rattle.claimant_book.specs.Views.{holds_of}
use Rattle.claimant_book.proofs.Moves.{give_allowed}
use Rattle.claimant_book.proofs.table.Book.drop_hold.Goals as goal

pub fetch_sub-requires : goal.fetch_sub-requires
fetch_sub-requires g c =
    let own = sym c.token.view_is in (
      c.token.invariant.0 ∙ sym c.self.invariant.0,
      subst (λ (z : TableId). c.args.slot < z.words) (sym c.self.invariant.0) c.requires.0,
      give_allowed c.self.inside.table.shared.key c.self.inside.table.shared.table_id.slots c.token.inside.seat.id c.token.inside.seat.me c.args.slot (omega (arith, c.self.invariant.1, c.requires.0)) (subst (λ (v : View). 0 < holds_of v c.args.slot) own c.requires.1) (subst (λ (v : View). v.role ≡ Keeping → 1 < holds_of v c.args.slot) own c.requires.2),
    )
