use Rattle.std.proofs.Common.{◌++◌, ◌∷◌, [], take, sym, ap, ◌∙◌, subst}
use Rattle.std.specs.Prelude.{All}
use Rattle.std.proofs.lemmas.List.{map_more, map_push}
use Rattle.std.proofs.lemmas.List.Elements.{All-push}
use Rattle.flow_queue.specs.declared.held.Held.{Held}
use Rattle.flow_queue.specs.declared.queue.wholes.Candidate.{Candidate}
use Rattle.flow_queue.specs.Fragments.{candidate_views, HasItsFragment}
use Rattle.flow_queue.specs.Picking.{views_at}
use Rattle.flow_queue.specs.Queue.{held_view}
use Rattle.flow_queue.proofs.queue.wholes.parse.Goals as goal
use denote.Ref.{Bor}

pub loop-held-preserved : goal.loop-held-preserved
loop-held-preserved c =
    let files = c.args.files.now in
    let i = c.loop-held.held-index in
    let held = c.held-item.result in
    let candidate : Candidate = record { held = held; fragment = c.fragment_of.result } in
    let pushed = c.in_ok-push.ensures.items in (
      ap candidate_views pushed ∙ map_push (λ (other : Candidate). held_view other.held.now) c.loop-held.list.items candidate
          ∙ ap (λ l. l ++ held_view held.now ∷ []) c.loop-held.invariant.0
          ∙ ap (λ (other : Bor Held). views_at (take i files) ++ held_view other.now ∷ []) c.held-item.is
          ∙ sym (map_more (λ (other : Bor Held). held_view other.now) files i held c.loop-held-test.true),
      subst (All HasItsFragment) (sym pushed) (All-push HasItsFragment c.loop-held.list.items candidate c.loop-held.invariant.1 c.fragment_of.ensures),
    )
