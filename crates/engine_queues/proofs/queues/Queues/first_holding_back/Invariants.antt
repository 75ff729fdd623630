use Rattle.std.proofs.Common.{ℕ, ◌<◌}
use Rattle.engine_queues.proofs.Due.{HoldsNone}
use Rattle.engine_queues.proofs.queues.Queues.first_holding_back.Given as goal

-- no connection so far holds one of the processors back
abbrev pub invariant-loop-place : goal.invariant-loop-place
invariant-loop-place l = (k : ℕ) → k < l.place → HoldsNone l.processors l.flow l.self k
