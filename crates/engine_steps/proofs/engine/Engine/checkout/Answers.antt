use Rattle.engine_steps.proofs.Ending.{checks_out}
use Rattle.engine_steps.proofs.engine.Engine.checkout.Goals as goal

pub returns-clause-leaves : goal.returns-clause-leaves
returns-clause-leaves c =
    let was = c.in_ok-next.was in
    checks_out c.in_ok-next.field-0 c.args.moment c.args.self.now c.next.new.self (λ session is. c.in_ok-next.ensures.out session (cc is))
    (λ no_session. c.next.ensures.rest (λ session is. no_session session (cc (was, is))))
