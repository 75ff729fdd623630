use Rattle.run_law.proofs.Steps.{disk_faults, faults, inbox_faults, outbox_faults}
use Rattle.run_law.proofs.laws.faults_end_a_run.Goals as goal

pub returns : goal.returns
returns g c =
    let law = c.replay_goes_on.ensures.one_more in
    let stays = c.states_stay_valid.ensures.one_step in
    let loses = c.names_are_lost_by_taking.ensures.one_step in
    record {
      between = faults law stays loses g.D.Disk.moment g.D.Disk.images g.D.Disk.tells g.D.Disk.held;
      disk = disk_faults law stays loses g.D.Disk.moment g.D.Disk.images g.D.Disk.tells g.D.Disk.held;
      outbox = outbox_faults law stays loses g.D.Disk.moment g.D.Disk.images g.D.Disk.tells g.D.Disk.held;
      inbox = inbox_faults law stays loses g.D.Disk.moment g.D.Disk.images g.D.Disk.tells g.D.Disk.held;
    }
