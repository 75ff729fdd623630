use Rattle.std.proofs.Common.{◌≡◌, ◌&&◌, not, nat_lt, true, false, sym, ap, ◌∙◌}
use Rattle.std.specs.Prelude.{slice_index}
use Rattle.machine_model.specs.Quiet.{is_held_back}
use Rattle.engine_choice.proofs.choosing.may_begin.Goals as goal

pub returns-then-has_task : goal.returns-then-has_task
returns-then-has_task c known queues busy p there =
    let flow = c.args.flow.now in
    let processor = c.args.processor in
    let free : nat_lt (slice_index known.busy processor) p.tasks ≡ true =
    ap (λ sessions. nat_lt (slice_index sessions processor) p.tasks) busy ∙ sym (c.has_task.ensures p there) ∙ c.if-has_task.true in
    let held : c.is_held_back.result ≡ is_held_back flow known.queues (processor, p) =
    c.is_held_back.ensures p ∙ ap (λ views. is_held_back flow views (processor, p)) (sym queues) in
    ap not held ∙ ap (λ b. b && not (is_held_back flow known.queues (processor, p))) (sym free)

pub returns-else-has_task : goal.returns-else-has_task
returns-else-has_task c known queues busy p there =
    let flow = c.args.flow.now in
    let processor = c.args.processor in
    let none : nat_lt (slice_index known.busy processor) p.tasks ≡ false =
    ap (λ sessions. nat_lt (slice_index sessions processor) p.tasks) busy ∙ sym (c.has_task.ensures p there) ∙ c.if-has_task.false in
    c.if-has_task.false ∙ ap (λ b. b && not (is_held_back flow known.queues (processor, p))) (sym none)
