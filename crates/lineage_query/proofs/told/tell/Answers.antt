use Rattle.std.proofs.Common.{◌≡◌, ◌+◌, ◌++◌, ◌≤◌, ℕ, List, Vec, Global, length, subst, ap, ◌∙◌, arith}
use Rattle.lineage_query.proofs.Asking.{never, the-event, told-by, told-here, told-past, told-all}
use Rattle.lineage_query.proofs.told.tell.Goals as goal
use Rattle.lineage_query.proofs.told.tell.Goals.{then-event-file+in_ok-push, else-event-file}

pub unreachable-requires : goal.unreachable-requires
unreachable-requires g c = never c.args.index.now c.of-numbers.result.now c.args.file c.loop-number.number-index c.of-numbers.ensures.numbers c.of-numbers.ensures.ascends c.loop-number-test.true c.in_default.ensures.event

pub loop-number-preserved : goal.loop-number-preserved
loop-number-preserved g c =
    let events = c.args.index.now in
    let file = c.args.file in
    let i = c.loop-number.number-index in
    let event = c.in-Some.event.now in
    let before = c.args.told.now.items in
    let is = the-event events c.of-numbers.result.now file i event c.of-numbers.ensures.numbers c.of-numbers.ensures.ascends c.loop-number-test.true c.in-Some.ensures.event in
    let told : c.if-event-file.told.items ≡ before ++ told-by events file (i + 1) = elim c.if-event-file.branch [
      | then-event-file+in_ok-push w ↦
          told-here events file i _ event before c.loop-number.told.items c.if-event-file.told.items is.2 is.0 is.1 w.if-event-file.true c.loop-number.invariant.told (ap (λ (v : Vec ℕ Global). v.items) w.told-is ∙ w.in_ok-push.ensures.items)
      | else-event-file w ↦
          ap (λ (v : Vec ℕ Global). v.items) w.told-is ∙ told-past events file i event before c.loop-number.told.items is.2 is.0 w.if-event-file.false c.loop-number.invariant.told
    ] in
    record { told = told; steps = omega (arith, c.event.ensures.steps, c.loop-number.invariant.steps) }

pub returns-clause-told : goal.returns-clause-told
returns-clause-told g c =
    c.loop-number.invariant.told
    ∙ ap (λ (l : List ℕ). c.args.told.now.items ++ l) (told-all c.args.index.now c.args.file c.loop-number.number-index (subst (λ (l : List ℕ). length l ≤ c.loop-number.number-index) c.of-numbers.ensures.numbers c.loop-number-test.false))
