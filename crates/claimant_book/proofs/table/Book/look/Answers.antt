use Rattle.std.proofs.Common.{◌<◌, sym, ◌∙◌, subst, arith}
use Rattle.atomic_table.specs.Seated.{TableId}
use Rattle.claimant_book.proofs.Moves.{look_allowed}
use Rattle.claimant_book.proofs.table.Book.look.Goals as goal

pub load-requires : goal.load-requires
load-requires g c = (
  c.token.invariant.0 ∙ sym c.self.invariant.0,
  subst (λ (z : TableId). c.args.slot < z.words) (sym c.self.invariant.0) c.requires,
  look_allowed c.self.inside.table.shared.key c.self.inside.table.shared.table_id.slots c.token.inside.seat.id c.token.inside.seat.me c.args.slot (omega (arith, c.self.invariant.1, c.requires)),
)
