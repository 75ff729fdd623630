use Rattle.std.proofs.Common.{not, rules}
use Rattle.std.proofs.lemmas.Fn.{filter_same}
use Rattle.engine_steps.specs.Flights.{has_session}
use Rattle.engine_steps.specs.declared.flight.InFlight.{InFlight}
use Rattle.engine_steps.proofs.flight.drop_session.Goals as goal

pub returns : goal.returns
returns c = filter_same _ (λ (f : InFlight). not (has_session c.args.session f)) _ (λ x b q called. search rules) _ _ c.retain.ensures.filtered
