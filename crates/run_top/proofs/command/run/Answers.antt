use Rattle.std.proofs.Common.{⊎_elim}
use Rattle.flow_definition.specs.Patterns.{told_by_builder}
use Rattle.run_top.proofs.Complete.{not_told, of_read, run_completes, text_completes}
use Rattle.run_top.proofs.command.run.Goals as goal

pub returns-clause-complete : goal.returns-clause-complete
returns-clause-complete g c options asked source_told whole one read disk_told state of source patterns disk inbox outbox sink =
    let D = g.D.Disk in
    let P = g.P.Patterns in
    let rest = g.F.Source.rest c.args.flow.now in
    let before = c.args in
    let now = c.answer_words-answer.new in
    let a = c.answer_words-answer.result in
    let faults = c.answer_words-answer.ensures.faults in (
      a,
      c.status.ensures,
      ⊎_elim
          (λ ran. run_completes ran.0 D.tells D.held D.moment D.images before.lot options.max_commits before.disk.now now.disk before.inbox.now now.inbox before.outbox.now now.outbox a ran.2.why disk_told state
          (of_read g.F.Source.tells rest one ran.0 source_told read ran.1 before.lot (D.held before.disk.now) state of)
          (not_told _ _ faults.0.disk disk) (not_told _ _ faults.0.inbox inbox) (not_told _ _ faults.0.outbox outbox) (not_told _ _ faults.2 sink))
          (λ unread. text_completes (told_by_builder P.faults P.refused before.patterns.now) (told_by_builder P.faults P.refused now.patterns) g.F.Source.tells rest a unread.told unread.refused source_told whole patterns
          (not_told _ _ faults.1 source))
          (c.answer_words-answer.ensures.asked options asked),
    )
