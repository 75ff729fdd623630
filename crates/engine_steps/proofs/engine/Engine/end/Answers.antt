use Rattle.std.proofs.Common.{sym, ap, ◌∙◌}
use Rattle.engine_steps.specs.Engine.{EngineState}
use Rattle.engine_steps.proofs.HandedBack.{drops_one, ends_none, ends_one, nowhere, somewhere}
use Rattle.engine_steps.proofs.engine.Engine.end.Goals as goal

pub returns-then-is_none-clause-was : goal.returns-then-is_none-clause-was
returns-then-is_none-clause-was c = sym (nowhere _ c.args.session c.args.self.now.out c.flight.result c.is_none.result c.flight.ensures c.is_none.ensures c.if-is_none.true)

pub returns-then-is_none-clause-ended : goal.returns-then-is_none-clause-ended
returns-then-is_none-clause-ended c =
    ends_none c.args.session c.args.self.now (nowhere _ c.args.session c.args.self.now.out c.flight.result c.is_none.result c.flight.ensures c.is_none.ensures c.if-is_none.true)

pub give_back-requires-clause-flying : goal.give_back-requires-clause-flying
give_back-requires-clause-flying c = somewhere _ c.args.session c.args.self.now.out c.flight.result c.is_none.result c.flight.ensures c.is_none.ensures c.if-is_none.false

pub returns-then-self-clause-was : goal.returns-then-self-clause-was
returns-then-self-clause-was c = sym (somewhere _ c.args.session c.args.self.now.out c.flight.result c.is_none.result c.flight.ensures c.is_none.ensures c.if-is_none.false)

pub returns-then-self-clause-ended : goal.returns-then-self-clause-ended
returns-then-self-clause-ended c =
    drops_one c.args.session _ c.args.self.now _ c.self.view_is
    (somewhere _ c.args.session c.args.self.now.out c.flight.result c.is_none.result c.flight.ensures c.is_none.ensures c.if-is_none.false) c.if-self.true c.drop_session.ensures

pub returns-else-self-clause-was : goal.returns-else-self-clause-was
returns-else-self-clause-was c = sym (somewhere _ c.args.session c.args.self.now.out c.flight.result c.is_none.result c.flight.ensures c.is_none.ensures c.if-is_none.false)

pub returns-else-self-clause-ended : goal.returns-else-self-clause-ended
returns-else-self-clause-ended c =
    ends_one c.args.session c.args.self.now c.give_back.new.self
    (somewhere _ c.args.session c.args.self.now.out c.flight.result c.is_none.result c.flight.ensures c.is_none.ensures c.if-is_none.false)
    (sym (ap (λ (x : EngineState). x.failed) c.self.view_is) ∙ c.if-self.false) c.give_back.ensures.ended
