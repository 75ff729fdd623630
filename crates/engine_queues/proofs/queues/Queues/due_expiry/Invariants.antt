use Rattle.std.proofs.Common.{ℕ, ◌<◌}
use Rattle.engine_queues.proofs.Due.{HasNoneExpired}
use Rattle.engine_queues.proofs.queues.Queues.due_expiry.Given as goal

-- no file of the queues so far has expired
abbrev pub invariant-loop-place : goal.invariant-loop-place
invariant-loop-place l = (k : ℕ) → k < l.place → HasNoneExpired l.moment l.self k
