use Rattle.std.proofs.Common.{inl, inr, refl, ◌∙◌, sym, arith}
use Rattle.std.specs.VecDeque.{deque_len}
use Rattle.std.proofs.lemmas.Bool.{true≢false, cases_lt}
use Rattle.flow_queue.specs.Queue.{views_of}
use Rattle.flow_queue.proofs.Ages.{none-in, none-older}
use Rattle.flow_queue.proofs.Expiring.{none-expire}
use Rattle.flow_queue.proofs.queue.ages.may_have_expired.Goals as goal

pub returns-then-limits-eq0 : goal.returns-then-limits-eq0
returns-then-limits-eq0 c _ =
    none-expire c.args.limits.now c.args.moment (views_of c.args.files.now.items) c.if-limits-eq0.true

pub returns-in_default : goal.returns-in_default
returns-in_default c _ =
    let ages = c.args.ages.now in
    elim (cases_lt 0 (deque_len ages)) [
      | inl lt ↦ absurd (true≢false (sym (c.in_default.ensures.variant.1 lt)))
      | inr ge ↦
          none-in c.args.limits.now c.args.moment c.args.files.now.items c.requires.apart ages.items (c.requires.ages (omega (arith, c.if-limits-eq0.false)))
          (omega (arith, ge, ages.ok.0))
    ]

pub returns-in-Some-get : goal.returns-in-Some-get
returns-in-Some-get c fresh =
    let ages = c.args.ages.now in
    none-older c.args.limits.now c.args.moment c.args.files.now.items c.requires.apart ages.items c.in-Some.note.now c.in-Some-get.oldest.now
    (c.requires.ages (omega (arith, c.if-limits-eq0.false))) (omega (arith, c.in-Some.ensures.variant.0 refl, ages.ok.0)) c.in-Some.ensures.lookup
    (sym c.in-Some-get.ensures) (sym c.is_expired.ensures ∙ fresh)
