use Rattle.std.proofs.Common.{◌≡◌, [], drop}
use Rattle.machine_model.specs.Taking.{first_whole}
use Rattle.flow_queue.specs.Fragments.{candidate_views, AreMissing}
use Rattle.flow_queue.proofs.queue.wholes.first_whole.Given as goal

-- none of the files so far is whole
abbrev pub invariant-loop-candidate : goal.invariant-loop-candidate
invariant-loop-candidate l =
    (l.list.items ≡ [])
    × (first_whole (candidate_views l.candidates) (drop l.candidate-index (candidate_views l.candidates)) ≡ first_whole (candidate_views l.candidates) (candidate_views l.candidates))
    × AreMissing l.tried (candidate_views l.candidates)
