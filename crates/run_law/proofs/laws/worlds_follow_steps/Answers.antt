use Rattle.run_law.proofs.Left.{other_sessions, other_steps, receiving_sessions, taking_steps}
use Rattle.run_law.proofs.Outgoing.{puts_send, queue_steps, sends, sends_none}
use Rattle.run_law.proofs.laws.worlds_follow_steps.Goals as goal

pub returns : goal.returns
returns c =
    let loses = c.names_are_lost_by_taking.ensures.one_step in
    record {
      taken = taking_steps loses;
      other = other_steps loses;
      queues = queue_steps;
      received = receiving_sessions;
      kept = other_sessions;
      sent = sends;
      unsent = sends_none;
      put = puts_send;
    }
