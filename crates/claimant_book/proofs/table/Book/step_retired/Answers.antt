use Rattle.std.proofs.Common.{◌≡◌, ℕ, ◌<◌, ◌%◌, ◌+◌, ◌*◌, sym, ap, ◌∙◌, subst, arith}
use Rattle.atomic_table.specs.Seated.{TableId}
use Rattle.claimant_book.specs.declared.view.Role.TheVariants.{Keeping}
use Rattle.claimant_book.specs.declared.view.View.{View}
use Rattle.claimant_book.specs.Views.{holds_of, seen_by}
use Rattle.claimant_book.proofs.Moves.{retire_allowed}
use Rattle.claimant_book.proofs.table.Book.step_retired.Goals as goal

pub compare_exchange-requires : goal.compare_exchange-requires
compare_exchange-requires g c =
    let own = sym c.token.view_is in
    let stage : seen_by c.token.inside.seat.me.0 c.args.slot ≡ c.args.stage = subst (λ (v : View). seen_by v c.args.slot ≡ c.args.stage) own c.requires.2 in (
      c.token.invariant.0 ∙ sym c.self.invariant.0,
      subst (λ (z : TableId). c.args.slot < z.words) (sym c.self.invariant.0) c.requires.0,
      retire_allowed c.self.inside.table.shared.key c.self.inside.table.shared.table_id.slots c.token.inside.seat.id c.token.inside.seat.me c.args.slot c.base_word-live.result ((c.from.result + 1) * 4294967296) (omega (arith, c.self.invariant.1, c.requires.0)) (subst (λ (v : View). v.role ≡ Keeping) own c.requires.1) (ap (λ (x : ℕ). x % 2) stage ∙ c.requires.3) (subst (λ (v : View). holds_of v c.args.slot ≡ 1) own c.requires.4) (c.base_word-live.ensures ∙ ap (λ (x : ℕ). x * 4294967296 + 1) (sym stage)) (omega (arith, c.from.ensures, stage)),
    )
