use Rattle.std.proofs.Common.{List, subst}
use Rattle.std.specs.Prelude.{All}
use Rattle.std.proofs.lemmas.List.{take_all}
use Rattle.std.proofs.lemmas.List.Elements.{All-more}
use Rattle.flowfile_record.specs.declared.event.Event.{Event}
use Rattle.engine_change.specs.Committing.{HasTexts}
use Rattle.engine_change.proofs.ended_session.have_texts.Goals as goal

pub loop-event-preserved : goal.loop-event-preserved
loop-event-preserved c =
    let here : HasTexts c.event-item.result = record { component = c.as_str-component.ensures.utf8; detail = c.as_str-detail.ensures.utf8 } in
    All-more HasTexts c.args.events.now c.loop-event.event-index c.event-item.result c.loop-event-test.true c.loop-event.invariant
    (subst HasTexts c.event-item.is here)

pub returns : goal.returns
returns c = subst (λ (events : List Event). All HasTexts events) (take_all c.loop-event.event-index c.args.events.now c.loop-event-test.false) c.loop-event.invariant
