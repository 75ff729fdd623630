use Rattle.machine_model.proofs.DueSteps.{expiry-has-step, swap_out-has-step, swap_in-has-step, aging-has-step}
use Rattle.machine_model.proofs.laws.due_has_a_step.Goals as goal

pub returns : goal.returns
returns c = record { expiry = expiry-has-step; swap_out = swap_out-has-step; swap_in = swap_in-has-step; aging = aging-has-step }
