use Rattle.engine_choice.proofs.Ends.{ends-are-machine-ends}
use Rattle.engine_choice.proofs.laws.ends_are_machine_ends.Goals as goal

pub returns : goal.returns
returns c =
    ends-are-machine-ends c.picks_are_given.ensures c.quiet_and_blocked_are_seen.ensures.quiet
    c.quiet_and_blocked_are_seen.ensures.blocked
