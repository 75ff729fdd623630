use Rattle.std.proofs.Common.{◌<◌, [], ◌∷◌, ◌++◌, length, sym, ◌∙◌, ap, arith}
use Rattle.proc_text.specs.Finding.{finds}
use Rattle.processor_api.proofs.Places.{step-fails, step-passes}
use Rattle.proc_text.proofs.route_on_content.places_in.Goals as goal
use Rattle.proc_text.proofs.route_on_content.places_in.Goals.{then-branch+in_ok-push, else-branch}

pub loop-place-preserved : goal.loop-place-preserved
loop-place-preserved c =
    let text = c.args.text.now in
    let own = c.args.own.now in
    let place = c.loop-place.place in
    let property = c.index-own-place.result in
    let there : place < length own = omega arith in
    elim c.if-branch.branch [
      | then-branch+in_ok-push w ↦
          ap (λ v. v.items) w.places-is ∙ w.in_ok-push.ensures.items ∙ ap (λ xs. xs ++ place ∷ []) c.loop-place.invariant
          ∙ step-passes (finds text) own place property there c.index-own-place.is (sym c.in_ok-finds.ensures ∙ w.if-branch.true)
      | else-branch w ↦
          ap (λ v. v.items) w.places-is ∙ c.loop-place.invariant
          ∙ step-fails (finds text) own place property there c.index-own-place.is (sym c.in_ok-finds.ensures ∙ w.if-branch.false)
    ]
