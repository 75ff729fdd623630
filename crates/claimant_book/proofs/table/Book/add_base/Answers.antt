use Rattle.std.proofs.Common.{◌≡◌, ◌<◌, ◌%◌, sym, ◌∙◌, subst, arith}
use Rattle.atomic_table.specs.Seated.{TableId}
use Rattle.claimant_book.specs.declared.view.Role.TheVariants.{Keeping}
use Rattle.claimant_book.specs.declared.view.View.{View}
use Rattle.claimant_book.specs.Views.{holds_of, seen_by}
use Rattle.claimant_book.proofs.Moves.{add_allowed}
use Rattle.claimant_book.proofs.table.Book.add_base.Goals as goal

pub fetch_add-requires : goal.fetch_add-requires
fetch_add-requires g c =
    let own = sym c.token.view_is in (
      c.token.invariant.0 ∙ sym c.self.invariant.0,
      subst (λ (z : TableId). c.args.slot < z.words) (sym c.self.invariant.0) c.requires.0,
      add_allowed c.self.inside.table.shared.key c.self.inside.table.shared.table_id.slots c.token.inside.seat.id c.token.inside.seat.me c.args.slot (omega (arith, c.self.invariant.1, c.requires.0)) (subst (λ (v : View). v.role ≡ Keeping) own c.requires.1) (subst (λ (v : View). seen_by v c.args.slot % 2 ≡ 1) own c.requires.2) (subst (λ (v : View). holds_of v c.args.slot < 67108864) own c.requires.3),
    )
