use Rattle.run_law.proofs.Steps.{spared, steps_go_on}
use Rattle.run_law.proofs.laws.run_goes_on.Goals as goal

pub returns : goal.returns
returns g c =
    let law = c.replay_goes_on.ensures.one_more in
    let stays = c.states_stay_valid.ensures.one_step in
    let loses = c.names_are_lost_by_taking.ensures.one_step in
    record {
      step = steps_go_on law stays loses g.D.Disk.moment g.D.Disk.images;
      spared = spared law stays loses g.D.Disk.moment g.D.Disk.images;
    }
