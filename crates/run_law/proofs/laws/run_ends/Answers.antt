use Rattle.run_law.proofs.Ends.{blocked_ends, limited_ends, quiet_ends}
use Rattle.run_law.proofs.laws.run_ends.Goals as goal

pub returns : goal.returns
returns g c =
    let law = c.replay_goes_on.ensures.one_more in
    let stays = c.states_stay_valid.ensures.one_step in
    let loses = c.names_are_lost_by_taking.ensures.one_step in
    record {
      quiet = quiet_ends law stays loses g.D.Disk.tells g.D.Disk.held g.D.Disk.moment g.D.Disk.images;
      blocked = blocked_ends law stays loses g.D.Disk.tells g.D.Disk.held g.D.Disk.moment g.D.Disk.images;
      limited = limited_ends law stays loses g.D.Disk.tells g.D.Disk.held g.D.Disk.moment g.D.Disk.images;
    }
