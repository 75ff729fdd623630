use Rattle.std.proofs.Common.{◌≡◌, ◌<◌, get_or, length, rules, sym}
use Rattle.engine_steps.specs.declared.flight.InFlight.{InFlight}
use Rattle.engine_steps.proofs.HandedBack.{step_back}
use Rattle.engine_steps.proofs.close.give_names_back.Goals as goal

pub loop-flight-preserved : goal.loop-flight-preserved
loop-flight-preserved c =
    let flight : InFlight = c.flight-item.result in
    let within : c.loop-flight.flight-index < length c.args.out.now = search rules in
    let there : get_or c.args.out.now c.loop-flight.flight-index flight ≡ flight = sym (c.flight-item.is) in
    let step = step_back c.names_go_back.ensures.back c.args.out.now c.loop-flight.flight-index flight c.loop-flight.listing c.give_name_back.new.listing _ within there c.loop-flight.invariant.names c.loop-flight.invariant.rest
    c.give_name_back.ensures in
    record { names = step.0; rest = step.1 }
