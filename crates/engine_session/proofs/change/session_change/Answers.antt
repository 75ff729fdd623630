use Rattle.std.proofs.Common.{map, ap, ◌∙◌}
use Rattle.settlement.specs.declared.handed.Ended.{Ended}
use Rattle.store_core.specs.Store.{kept_by}
use Rattle.engine_session.specs.Sending.{sending_of}
use Rattle.engine_session.proofs.SessionSteps.{Laws, makes_step_on, may_settle_on, tells_digests_on}
use Rattle.engine_session.proofs.change.session_change.Goals as goal

pub settle_session-requires-clause-may : goal.settle_session-requires-clause-may
settle_session-requires-clause-may c =
    may_settle_on c.args.flow.now (kept_by c.args.store.now) c.requires.done.0 c.args.done c.end_session-ended.result c.take_sending.new.ended c.requires.sound c.state-stored.ensures.consistent c.requires.done.1 c.requires.done.2
    c.end_session-ended.ensures.is c.in_ok-sending.ensures.left
    c.taken_files_are_handed.ensures.may c.taken_files_are_handed.ensures.machine c.end_session-ended.ensures.may

pub returns-clause-tells : goal.returns-clause-tells
returns-clause-tells c =
    let session = c.in_ok-settled.ensures.tells in
    let is = c.end_session-ended.ensures.is in
    let left = c.in_ok-sending.ensures.left in
    record {
      session = record {
        processor = session.processor ∙ ap (λ (e : Ended). e.processor) left ∙ ap (λ (e : Ended). e.processor) is;
        moment = session.moment;
        gone = session.gone ∙ ap (λ (e : Ended). map (λ file. file.number) e.taken) left ∙ ap (λ (e : Ended). map (λ file. file.number) e.taken) is;
      };
      sending = c.in_ok-sending.ensures.is ∙ ap (λ (e : Ended). sending_of e.outcome.sent e.sources) is;
    }

pub returns-clause-step : goal.returns-clause-step
returns-clause-step c job hand work =
    let laws : Laws = record {
      may = c.taken_files_are_handed.ensures.may;
      machine = c.taken_files_are_handed.ensures.machine;
      there = c.taken_files_are_handed.ensures.there;
      steps = c.sessions_are_steps.ensures.settled;
      received = c.worlds_follow_steps.ensures.received;
      kept = c.worlds_follow_steps.ensures.kept;
      unsent = c.worlds_follow_steps.ensures.unsent;
      put = c.worlds_follow_steps.ensures.put;
    } in
    makes_step_on c.args.flow.now (kept_by c.args.store.now) job c.args.done c.end_session-ended.result c.take_sending.new.ended c.requires.sound c.state-stored.ensures.consistent hand work
    c.end_session-ended.ensures.is c.in_ok-sending.ensures.left laws
    (record { settled = c.in_ok-settled.settled; connection = c.connection_of-connection.result; sending = c.in_ok-sending.sending }) c.in_ok-settled.ensures.leaves c.in_ok-settled.ensures.brings c.in_ok-sending.ensures.is

pub returns-clause-digests : goal.returns-clause-digests
returns-clause-digests c job hand work =
    tells_digests_on c.args.flow.now (kept_by c.args.store.now) job c.args.done c.end_session-ended.result c.take_sending.new.ended c.requires.sound c.state-stored.ensures.consistent hand work
    c.end_session-ended.ensures.is c.in_ok-sending.ensures.left c.taken_files_are_handed.ensures.there
    (record { settled = c.in_ok-settled.settled; connection = c.connection_of-connection.result; sending = c.in_ok-sending.sending }) c.in_ok-settled.ensures.digests
