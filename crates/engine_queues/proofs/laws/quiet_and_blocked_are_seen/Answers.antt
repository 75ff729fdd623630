use Rattle.engine_queues.proofs.QuietSeen.{blocked-seen, quiet-seen}
use Rattle.engine_queues.proofs.laws.quiet_and_blocked_are_seen.Goals as goal

pub returns : goal.returns
returns c = record { quiet = quiet-seen; blocked = blocked-seen }
