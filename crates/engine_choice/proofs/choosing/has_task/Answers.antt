use Rattle.std.proofs.Common.{◌≡◌, nat_lt, ap, ◌∙◌}
use Rattle.std.specs.Prelude.{slice_index}
use Rattle.engine_choice.proofs.Takings.{item-at}
use Rattle.engine_choice.proofs.choosing.has_task.Goals as goal

pub returns : goal.returns
returns c p there =
    let item = item-at c.args.flow.now.processors c.args.processor p c.as_slice.result.now c.from-place.result c.index-as_slice-place.result
    there c.as_slice.ensures c.from-place.ensures in
    let tasks : c.from-tasks.result ≡ p.tasks = c.from-tasks.ensures ∙ ap (λ q. q.tasks) item in
    let sessions : c.sessions_of.result ≡ slice_index c.args.busy.now c.args.processor =
    c.sessions_of.ensures ∙ ap (slice_index c.args.busy.now) c.from-place.ensures in
    λ i. nat_lt (sessions i) (tasks i)
