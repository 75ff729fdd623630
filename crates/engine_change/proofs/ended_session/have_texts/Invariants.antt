use Rattle.std.proofs.Common.{take}
use Rattle.std.specs.Prelude.{All}
use Rattle.engine_change.specs.Committing.{HasTexts}
use Rattle.engine_change.proofs.ended_session.have_texts.Given as goal

abbrev pub invariant-loop-event : goal.invariant-loop-event
invariant-loop-event l = All HasTexts (take l.event-index l.events)
