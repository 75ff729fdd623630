use Rattle.session_history.proofs.Full.{stops_full}
use Rattle.session_history.proofs.NoSession.{ends_there}
use Rattle.session_history.proofs.runs.played_runs_end.Goals as goal

pub returns : goal.returns
returns g c =
    let D = g.D.Disk in
    let spared = c.run_goes_on.ensures.spared in
    let alone = c.what_is_kept_is_seen.ensures.none_out in
    record {
      full = stops_full D.tells D.held D.moment D.images spared c.replay_goes_on.ensures.one_more alone c.choices_are_sessions.ensures c.choices_are_seen.ensures c.sessions_are_steps.ensures.steps;
      ends = λ end moment e now left out shows ready ends opened first start time run.
          ends_there D.moment D.images alone c.ends_are_machine_ends.ensures end moment e now left out shows ready ends opened first start time run;
    }
