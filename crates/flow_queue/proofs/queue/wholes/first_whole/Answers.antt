use Rattle.std.proofs.Common.{◌≡◌, ℕ, ◌+◌, ◌<◌, List, ◌∷◌, [], drop, get_or, length, sym, ap, ◌∙◌, arith}
use Rattle.std.specs.Option.{option_map, is_some, unwrap_or}
use Rattle.std.proofs.lemmas.List.{at_drop_more, get_or-map, length-map}
use Rattle.machine_model.specs.Due.{numbers_of}
use Rattle.machine_model.specs.Taking.{first_some, first_whole}
use Rattle.machine_model.specs.View.{FileView}
use Rattle.flow_queue.specs.declared.queue.wholes.Candidate.{Candidate}
use Rattle.flow_queue.specs.Fragments.{candidate_views, whole_at}
use Rattle.flow_queue.specs.Queue.{held_view}
use Rattle.flow_queue.proofs.Parts.{first-found, first-goes_on, nothing}
use Rattle.flow_queue.proofs.queue.wholes.first_whole.Goals as goal

-- what the files from a place on give
from-here : (candidates : List Candidate) (i : ℕ) (candidate : Candidate) → i < length candidates → candidate ≡ get_or candidates i candidate
    → first_whole (candidate_views candidates) (drop i (candidate_views candidates))
    ≡ first_some (whole_at candidate (candidate_views candidates)) (first_whole (candidate_views candidates) (drop (i + 1) (candidate_views candidates)))
from-here candidates i candidate lt is =
    let files = candidate_views candidates in
    let file = held_view candidate.held.now in
    let seen = λ (other : Candidate). held_view other.held.now in
    let at : get_or files i file ≡ file = get_or-map seen candidates i candidate file lt ∙ ap seen (sym is) in
    at_drop_more (first_whole files) files i file (omega (arith, length-map candidates seen))
    ∙ ap (λ (other : FileView). first_whole files (other ∷ drop (i + 1) files)) at

pub returns-then-branch : goal.returns-then-branch
returns-then-branch c =
    let candidates = c.args.candidates.now in
    let files = candidate_views candidates in
    let i = c.loop-candidate.candidate-index in
    let candidate = c.candidate-item.result in
    let rest = first_whole files (drop (i + 1) files) in
    let found = whole_at candidate files in
    let picks = (c.in_ok-pick_candidate.ensures files c.requires.first c.loop-candidate.invariant.2).0 in
    let some = sym c.if-branch.true ∙ picks.0 in
    let is : found ≡ first_whole files files = first-found found rest some ∙ sym (from-here candidates i candidate c.loop-candidate-test.true c.candidate-item.is) ∙ c.loop-candidate.invariant.1 in
    (some ∙ ap (λ o. is_some (option_map numbers_of o)) is, picks.1 ∙ ap (λ o. unwrap_or (option_map numbers_of o) []) is)

pub loop-candidate-preserved : goal.loop-candidate-preserved
loop-candidate-preserved c =
    let candidates = c.args.candidates.now in
    let files = candidate_views candidates in
    let i = c.loop-candidate.candidate-index in
    let candidate = c.candidate-item.result in
    let rest = first_whole files (drop (i + 1) files) in
    let found = whole_at candidate files in
    let answer = c.in_ok-pick_candidate.ensures files c.requires.first c.loop-candidate.invariant.2 in
    let none = nothing found (sym c.if-branch.false ∙ answer.0.0) in (
      answer.0.1 ∙ ap (λ o. unwrap_or (option_map numbers_of o) []) none,
      sym (from-here candidates i candidate c.loop-candidate-test.true c.candidate-item.is ∙ first-goes_on found rest none) ∙ c.loop-candidate.invariant.1,
      answer.1 c.if-branch.false,
    )
