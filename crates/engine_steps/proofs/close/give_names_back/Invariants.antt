use Rattle.std.proofs.Common.{◌≡◌, drop}
use Rattle.engine_steps.specs.Flights.{given_back, HaveNames}
use Rattle.engine_steps.proofs.close.give_names_back.Given as goal

abbrev pub invariant-loop-flight : goal.invariant-loop-flight
invariant-loop-flight l = record {
  names : HaveNames l.listing (drop l.flight-index l.out);
  rest : given_back (drop l.flight-index l.out) l.listing ≡ given_back l.out l.initial.listing;
}
