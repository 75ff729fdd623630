use Rattle.std.proofs.Common.{◌≡◌, ◌<◌, ◌+◌, refl, sym, ◌∙◌, subst, arith}
use Rattle.atomic_table.specs.Seated.{TableId}
use Rattle.claimant_book.specs.declared.view.Role.TheVariants.{Sharing}
use Rattle.claimant_book.specs.declared.view.View.{View}
use Rattle.claimant_book.specs.Views.{holds_of}
use Rattle.claimant_book.proofs.Moves.{take_allowed}
use Rattle.claimant_book.proofs.table.Book.add_share.Goals as goal

pub compare_exchange-requires : goal.compare_exchange-requires
compare_exchange-requires g c =
    let own = sym c.token.view_is in (
      c.token.invariant.0 ∙ sym c.self.invariant.0,
      subst (λ (z : TableId). c.args.slot < z.words) (sym c.self.invariant.0) c.requires.slot.0,
      take_allowed c.self.inside.table.shared.key c.self.inside.table.shared.table_id.slots c.token.inside.seat.id c.token.inside.seat.me c.args.slot c.args.word (c.args.word + 1) (omega (arith, c.self.invariant.1, c.requires.slot.0)) (subst (λ (v : View). v.role ≡ Sharing) own c.requires.slot.1) (subst (λ (v : View). holds_of v c.args.slot < 67108864) own c.requires.slot.2) c.requires.word.0 refl,
    )
