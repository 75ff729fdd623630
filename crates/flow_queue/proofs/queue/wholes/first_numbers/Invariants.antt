use Rattle.std.proofs.Common.{take}
use Rattle.flow_queue.specs.Fragments.{candidate_views, AreFirst}
use Rattle.flow_queue.proofs.queue.wholes.first_numbers.Given as goal

-- the numbers of the files so far
abbrev pub invariant-loop-candidate : goal.invariant-loop-candidate
invariant-loop-candidate l = AreFirst l.numbers (candidate_views (take l.candidate-index l.candidates))
