use Rattle.std.proofs.Common.{sym, ◌∙◌}
use Rattle.flow_queue.proofs.Parts.{noted-new, noted-kept}
use Rattle.flow_queue.proofs.queue.wholes.note_first.Goals as goal

pub returns-in_ok-insert : goal.returns-in_ok-insert
returns-in_ok-insert c =
    noted-new c.args.fragment c.args.number c.args.numbers.now c.insert.new.self (sym c.contains_key.ensures ∙ c.if-not-contains_key.true) c.in_ok-insert.ensures.updates.0

pub returns-else-not-contains_key : goal.returns-else-not-contains_key
returns-else-not-contains_key c =
    noted-kept c.args.fragment c.args.number c.args.numbers.now (sym c.contains_key.ensures ∙ c.if-not-contains_key.false)
