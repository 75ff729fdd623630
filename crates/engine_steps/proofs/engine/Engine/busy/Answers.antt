use Rattle.std.proofs.Common.{◌≡◌, ◌<◌, List, length, subst, sym, ap, ◌∙◌, arith}
use Rattle.engine_steps.specs.Engine.{EngineState}
use Rattle.engine_steps.specs.Flights.{sessions_of}
use Rattle.engine_steps.specs.declared.flight.InFlight.{InFlight}
use Rattle.engine_steps.proofs.Busy.{one_more_busy, sessions_few}
use Rattle.engine_steps.proofs.engine.Engine.busy.Goals as goal

pub sessions_of-requires : goal.sessions_of-requires
sessions_of-requires c =
    let out : c.deref.result.now ≡ c.args.self.now.out = c.deref.ensures.value ∙ ap (λ (e : EngineState). e.out) c.self.view_is in
    let count = ap (λ (e : EngineState). length e.flow.processors) c.self.view_is in
    let within : c.loop-place.place < length c.args.self.now.flow.processors = omega (arith, c.len-place-end.ensures, count, c.loop-place-test.true) in
    record { few = subst (λ (fs : List InFlight). sessions_of fs c.loop-place.place < 65536) (sym out) (sessions_few c.args.self.now c.loop-place.place c.requires within) }

pub loop-place-preserved : goal.loop-place-preserved
loop-place-preserved c =
    let out : c.deref.result.now ≡ c.args.self.now.out = c.deref.ensures.value ∙ ap (λ (e : EngineState). e.out) c.self.view_is in
    let count = ap (λ (e : EngineState). length e.flow.processors) c.self.view_is in
    let within : c.loop-place.place < length c.args.self.now.flow.processors = omega (arith, c.len-place-end.ensures, count, c.loop-place-test.true) in (
      c.loop-place.invariant.0,
      one_more_busy (sessions_of c.args.self.now.out) c.args.self.now.flow.processors c.loop-place.place c.loop-place.busy.items c.push.new.self.items c.sessions_of.result within
          c.in_ok-push.ensures.items c.loop-place.invariant.1 (c.sessions_of.ensures ∙ ap (λ (fs : List InFlight). sessions_of fs c.loop-place.place) out),
    )
