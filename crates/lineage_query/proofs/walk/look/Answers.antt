use Rattle.std.proofs.Common.{ℕ, List, ◌≤◌, length, subst, ap, ◌∙◌, arith}
use Rattle.lineage_query.specs.Walk.{kin_towards, with_all}
use Rattle.lineage_query.proofs.Asking.{never, the-event, found-more, found-all}
use Rattle.lineage_query.proofs.walk.look.Goals as goal

pub unreachable-requires : goal.unreachable-requires
unreachable-requires g c = never c.args.index.now c.of-numbers.result.now c.args.file c.loop-number.number-index c.of-numbers.ensures.numbers c.of-numbers.ensures.ascends c.loop-number-test.true c.in_default.ensures.event

pub loop-number-preserved : goal.loop-number-preserved
loop-number-preserved g c =
    let events = c.args.index.now in
    let file = c.args.file in
    let way = c.args.way in
    let i = c.loop-number.number-index in
    let event = c.in-Some.event.now in
    let is = the-event events c.of-numbers.result.now file i event c.of-numbers.ensures.numbers c.of-numbers.ensures.ascends c.loop-number-test.true c.in-Some.ensures.event in
    record {
      found = c.in_ok-add_all.ensures ∙ ap (with_all c.loop-number.found) c.kin.ensures ∙ ap (λ (l : List ℕ). with_all l (kin_towards way file event)) c.loop-number.invariant.found
          ∙ found-more way events file i c.args.found.now event is.2 is.0;
      steps = omega (arith, c.event.ensures.steps, c.loop-number.invariant.steps);
    }

pub returns-clause-found : goal.returns-clause-found
returns-clause-found g c =
    c.loop-number.invariant.found
    ∙ found-all c.args.way c.args.index.now c.args.file c.loop-number.number-index c.args.found.now (subst (λ (l : List ℕ). length l ≤ c.loop-number.number-index) c.of-numbers.ensures.numbers c.loop-number-test.false)
