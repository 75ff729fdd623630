use Rattle.std.proofs.Common.{◌<◌, [], ◌∷◌, ◌++◌, length, sym, ◌∙◌, ap, arith}
use Rattle.machine_model.specs.RouteOnAttribute.{is_true_of}
use Rattle.processor_api.proofs.Places.{step-fails, step-passes}
use Rattle.proc_attribute.proofs.route_on_attribute.true_places.Goals as goal
use Rattle.proc_attribute.proofs.route_on_attribute.true_places.Goals.{then-branch+in_ok-push, else-branch}

pub loop-place-preserved : goal.loop-place-preserved
loop-place-preserved g c =
    let find = g.S.Subject.attributes c.args.subject.now in
    let own = c.args.own.now in
    let place = c.loop-place.place in
    let property = c.index-own-place.result in
    let there : place < length own = omega arith in
    elim c.if-branch.branch [
      | then-branch+in_ok-push w ↦
          ap (λ v. v.items) w.places-is ∙ w.in_ok-push.ensures.items ∙ ap (λ xs. xs ++ place ∷ []) c.loop-place.invariant
          ∙ step-passes (is_true_of find) own place property there c.index-own-place.is (sym c.in_ok-is_true.ensures ∙ w.if-branch.true)
      | else-branch w ↦
          ap (λ v. v.items) w.places-is ∙ c.loop-place.invariant
          ∙ step-fails (is_true_of find) own place property there c.index-own-place.is (sym c.in_ok-is_true.ensures ∙ w.if-branch.false)
    ]
