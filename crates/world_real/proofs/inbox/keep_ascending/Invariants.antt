use Rattle.world_io.specs.Inbox.{IsAscending}
use Rattle.world_real.proofs.inbox.keep_ascending.Given as goal

abbrev pub invariant-loop-file : goal.invariant-loop-file
invariant-loop-file l = IsAscending l.names.items
