use Rattle.std.proofs.Common.{◌≡◌, Bool, true, false, cond, sym, ap, refl, ◌∙◌}
use Rattle.std.specs.Prelude.{Option, None, option_map}
use Rattle.engine_queues.specs.Queues.{queue_seen}
use Rattle.engine_choice.specs.Choice.{choice_at, known_by, may_begin, taking_of}
use Rattle.engine_choice.proofs.Takings.{takes-nothing}
use Rattle.engine_choice.proofs.choosing.choice_for.Goals as goal

nothing : {X : Type 0} (begins : Bool) (taking : Option X) → taking ≡ None → None ≡ cond begins taking None
nothing true taking none = sym none
nothing false taking none = refl

pub returns-then-not-may_take : goal.returns-then-not-may_take
returns-then-not-may_take c p there =
    let flow = c.args.flow.now in
    let known = known_by c.args.queues.now c.args.counts.now c.args.busy.now c.args.listing.now c.args.moment in
    let none = takes-nothing flow known c.args.processor p (sym (c.may_take.ensures (queue_seen c.args.queues.now) p c.requires.waits there) ∙ c.if-not-may_take.true) in
    let choice = choice_at c.args.processor in
    nothing (may_begin flow known (c.args.processor, p)) (option_map choice (taking_of flow known (c.args.processor, p))) (ap (option_map choice) none)

pub returns-then-not-may_begin : goal.returns-then-not-may_begin
returns-then-not-may_begin c p there =
    let known = known_by c.args.queues.now c.args.counts.now c.args.busy.now c.args.listing.now c.args.moment in
    let taking = taking_of c.args.flow.now known (c.args.processor, p) in
    ap (λ begins. cond begins (option_map (choice_at c.args.processor) taking) None)
    (sym c.if-not-may_begin.true ∙ c.may_begin.ensures known refl refl p there)

pub returns-in-Some : goal.returns-in-Some
returns-in-Some c p there =
    let known = known_by c.args.queues.now c.args.counts.now c.args.busy.now c.args.listing.now c.args.moment in
    let taking = taking_of c.args.flow.now known (c.args.processor, p) in
    ap (option_map (choice_at c.args.processor)) (sym c.in-Some.is ∙ c.in_ok-taking.ensures p there)
    ∙ ap (λ begins. cond begins (option_map (choice_at c.args.processor) taking) None)
    (sym c.if-not-may_begin.false ∙ c.may_begin.ensures known refl refl p there)
