use Rattle.std.proofs.Common.{◌≡◌, drop, map}
use Rattle.engine_queues.specs.Settling.{without_room}
use Rattle.engine_queues.proofs.Reserving.{IsRoomyOrNext}
use Rattle.engine_queues.proofs.settling.reserve_for.Given as goal

abbrev pub invariant-loop-one : goal.invariant-loop-one
invariant-loop-one l = record {
  same : map without_room l.queues.items ≡ map without_room l.initial.queues.items;
  room : IsRoomyOrNext l.placed (drop l.one-index l.placed) l.queues.items;
}
