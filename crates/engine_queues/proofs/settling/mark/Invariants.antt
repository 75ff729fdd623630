use Rattle.std.proofs.Common.{◌≡◌, drop}
use Rattle.engine_queues.specs.Settling.{queues_marked, MayBeMarked}
use Rattle.engine_queues.proofs.settling.mark.Given as goal

abbrev pub invariant-loop-number : goal.invariant-loop-number
invariant-loop-number l = record {
  marked : queues_marked l.in_flight l.connection (drop l.number-index l.numbers) l.queues.items ≡ queues_marked l.in_flight l.connection l.numbers l.initial.queues.items;
  there : MayBeMarked l.in_flight l.connection (drop l.number-index l.numbers) l.queues.items;
}
