use Rattle.machine_model.specs.declared.flow.Flow.{Flow}
use Rattle.trial_flow.specs.Trial.{IsTrialFlow}
use Rattle.trial_flow.proofs.Soundness.{trial_sound}
use Rattle.trial_flow.proofs.trial.trial_flow.Goals as goal

pub returns-clause-sound : goal.returns-clause-sound
returns-clause-sound c =
    let flow : Flow = record { processors = c.in_ok-processors.field-0; connections = c.in_ok-connections.field-0; digest = c.digest.result } in
    let is : IsTrialFlow c.args.count flow = record { processors = c.in_ok-processors.ensures; connections = c.in_ok-connections.ensures; digest = c.digest.ensures } in
    trial_sound c.args.count flow c.requires is
