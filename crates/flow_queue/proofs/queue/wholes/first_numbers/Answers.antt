use Rattle.std.proofs.Common.{◌≡◌, ◌+◌, ◌++◌, ◌∷◌, [], take, sym, ap, ◌∙◌, subst}
use Rattle.std.specs.Option.{option_map}
use Rattle.std.proofs.lemmas.List.{map_more}
use Rattle.flow_queue.specs.declared.queue.wholes.Candidate.{Candidate}
use Rattle.machine_model.specs.Fragments.{fragment_seen}
use Rattle.flow_queue.specs.Fragments.{candidate_views, AreFirst, HasItsFragment}
use Rattle.flow_queue.specs.Queue.{held_view}
use Rattle.flow_queue.proofs.Parts.{first-noted, first-other}
use Rattle.flow_queue.proofs.queue.wholes.first_numbers.Goals as goal
use Rattle.flow_queue.proofs.queue.wholes.first_numbers.Goals.{in-Some+in_ok-note_first, in_default}

pub loop-candidate-preserved : goal.loop-candidate-preserved
loop-candidate-preserved c =
    let candidates = c.args.candidates.now in
    let i = c.loop-candidate.candidate-index in
    let candidate = c.candidate-item.result in
    let file = held_view candidate.held.now in
    let read : HasItsFragment candidate = subst HasItsFragment (sym c.candidate-item.is) (c.requires i candidate c.loop-candidate-test.true) in
    let more : candidate_views (take (i + 1) candidates) ≡ candidate_views (take i candidates) ++ file ∷ []
    = map_more (λ (other : Candidate). held_view other.held.now) candidates i candidate c.loop-candidate-test.true
    ∙ ap (λ (other : Candidate). candidate_views (take i candidates) ++ held_view other.held.now ∷ []) (sym c.candidate-item.is) in
    subst (AreFirst c.match-candidate.numbers) (sym more) (elim c.match-candidate.branch [
      | in-Some+in_ok-note_first w ↦
          subst (λ numbers. AreFirst numbers (candidate_views (take i candidates) ++ file ∷ [])) (sym w.numbers-is)
          (first-noted w.in-Some.fragment c.loop-candidate.numbers w.note_first.new.numbers (candidate_views (take i candidates)) file
          (sym (ap (option_map fragment_seen) w.in-Some.is) ∙ read) c.loop-candidate.invariant w.in_ok-note_first.ensures)
      | in_default w ↦
          subst (λ numbers. AreFirst numbers (candidate_views (take i candidates) ++ file ∷ [])) (sym w.numbers-is)
          (first-other c.loop-candidate.numbers (candidate_views (take i candidates)) file (sym (ap (option_map fragment_seen) w.in_default.is) ∙ read) c.loop-candidate.invariant)
    ])
