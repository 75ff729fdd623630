use Rattle.event_laws.proofs.Steps.{step-comings, step-goings, replay-comings, replay-goings}
use Rattle.event_laws.proofs.no_file_comes_or_goes_untold.Goals as goal

pub returns : goal.returns
returns c = record { step_comes = step-comings; step_goes = step-goings; replay_comes = replay-comings; replay_goes = replay-goings }
