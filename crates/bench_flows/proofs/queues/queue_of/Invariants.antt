use Rattle.std.proofs.Common.{◌<◌}
use Rattle.std.specs.Prelude.{All}
use Rattle.bench_flows.proofs.queues.queue_of.Given as goal

-- the files so far have the places before this one
abbrev pub invariant-loop-place : goal.invariant-loop-place
invariant-loop-place l = All (λ held. (held.file.number < l.place) × (held.file.arrival < l.place)) l.queue.files
