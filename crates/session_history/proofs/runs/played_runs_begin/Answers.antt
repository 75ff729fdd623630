use Rattle.session_history.proofs.Playing.{opened_plays, played_waits, played_wants}
use Rattle.session_history.proofs.runs.played_runs_begin.Goals as goal

pub returns : goal.returns
returns g c =
    let D = g.D.Disk in
    record {
      begun = opened_plays D.tells D.held D.moment D.images;
      waits = played_waits D.tells D.held D.moment D.images c.run_goes_on.ensures.spared;
      wants = played_wants D.tells D.held D.moment D.images c.faults_end_a_run.ensures.between;
    }
