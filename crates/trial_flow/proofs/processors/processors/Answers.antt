use Rattle.trial_flow.proofs.Readable.{custom-readable, tens-readable}
use Rattle.trial_flow.proofs.Trials.{are_trial}
use Rattle.trial_flow.proofs.processors.processors.Goals as goal

pub read-requires : goal.read-requires
read-requires c = custom-readable

pub read-requires-2 : goal.read-requires-2
read-requires-2 c = tens-readable

pub returns : goal.returns
returns c = are_trial c.args.count c.in_ok-text.text c.in_ok-tens.tens c.processors_with.result c.in_ok-text.ensures c.in_ok-tens.ensures c.processors_with.ensures
