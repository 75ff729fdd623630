use Rattle.std.proofs.Common.{refl}
use Rattle.session_history.proofs.CheckedOut.{checks_on}
use Rattle.session_history.proofs.Ends.{ending_plays_on, ending_stays_stopped}
use Rattle.session_history.proofs.Committed.{committed}
use Rattle.session_history.proofs.Read.{read_on}
use Rattle.session_history.proofs.Tended.{tended}
use Rattle.session_history.proofs.runs.calls_play_on.Goals as goal

pub returns : goal.returns
returns g c =
    let D = g.D.Disk in
    let law = c.replay_goes_on.ensures.one_more in
    let spared = c.run_goes_on.ensures.spared in
    let faults = c.faults_end_a_run.ensures.between in
    let names = c.names_go_back.ensures in
    record {
      tends = λ result moment e f old new left out shows works fails first alone runs opened start_disk start time by plays.
          tended D.tells D.held D.moment D.images law result moment e f old new left out shows works fails first alone runs opened start_disk start time by plays result refl;
      checks_out = λ result moment e f now left out shows ready next leaves unlimited opened first start time by plays.
          checks_on D.tells D.held D.moment D.images spared law c.choices_are_seen.ensures names.back names.leave faults result moment e f now left out shows ready unlimited opened first start time by plays result refl next leaves;
      reads = λ result e f old new left now_left out now_out at reads stays lies stands unlimited opened first start time by plays.
          read_on D.tells D.held D.moment D.images spared faults result e f old new left now_left out now_out at reads stays lies stands unlimited opened first start time by plays result refl;
      commits = λ result in_tells out_tells done e f old new left now_left out now_out at ready works journaled takes runs same unknown fails opened first start time by plays.
          committed D.tells D.held D.moment D.images law spared result in_tells out_tells done e f old new left now_left out now_out at ready works journaled takes runs same unknown fails opened first start time by plays result refl;
      ends = ending_plays_on D.tells D.held D.moment D.images;
      stays = ending_stays_stopped D.tells D.held D.moment D.images;
    }
