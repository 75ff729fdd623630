use Rattle.std.proofs.Common.{◌≡◌, ℕ, ◌≤◌, Bool, true, false, cond, is_some, ◌+◌, get_or, drop, sym, ap, ◌∙◌, arith}
use Rattle.std.proofs.lemmas.List.{drop_more, drop_all}
use Rattle.kept_state.specs.Applied.{left_after}
use Rattle.kept_state.proofs.Moving.{left_after-cons, left_after-nil}
use Rattle.kept_state.proofs.files.take_all.Goals as goal

room_left : (some : Bool) (room now : ℕ) → now ≡ cond some (room + 1) room → room ≤ now
room_left true room now is = omega arith
room_left false room now is = omega arith

pub loop-number-preserved : goal.loop-number-preserved
loop-number-preserved c =
    let gone = c.args.gone.now in
    let i = c.loop-number.number-index in
    let one = drop_more gone i 0 c.loop-number-test.true in
    let taken = ap (left_after (drop (i + 1) gone)) c.take.ensures.items in (
      taken ∙ sym (left_after-cons (get_or gone i 0) (drop (i + 1) gone) c.loop-number.files.items) ∙ ap (λ ns. left_after ns c.loop-number.files.items) (sym one) ∙ c.loop-number.invariant.0,
      omega (arith, c.loop-number.invariant.1, room_left (is_some c.take.result) c.loop-number.files.room c.take.new.self.room c.take.ensures.room),
    )

pub returns-clause-items : goal.returns-clause-items
returns-clause-items c =
    sym (left_after-nil c.loop-number.files.items) ∙ ap (λ ns. left_after ns c.loop-number.files.items) (sym (drop_all c.loop-number.number-index c.args.gone.now c.loop-number-test.false)) ∙ c.loop-number.invariant.0
