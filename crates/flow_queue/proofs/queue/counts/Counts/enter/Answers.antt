use Rattle.std.proofs.Common.{◌≡◌, ◌+◌, ◌∙◌, ap, subst, refl, arith}
use Rattle.flowfile_record.specs.NumberedItems.{item_of, with_item, without_item}
use Rattle.flow_queue.specs.declared.queue.counts.Counts.{Counts}
use Rattle.flow_queue.specs.Counts.{count_number, files_under, has_penalty}
use Rattle.flow_queue.proofs.Counting.{as_bit, counted-without, counts-more, enough-within, few-places, none-there, tally-same}
use Rattle.flow_queue.proofs.queue.counts.Counts.enter.Goals as goal

pub overflow_add-files : goal.overflow_add-files
overflow_add-files c =
    omega (arith, c.take-files.ensures.files, counted-without c.whole_number-number.result c.args.self.now.wholes.items c.requires.tally.ascends, c.requires.room.few)

pub put-requires-clause-new : goal.put-requires-clause-new
put-requires-clause-new c =
    ap (item_of count_number c.whole_number-number.result) c.take-files.ensures.wholes ∙ none-there count_number c.whole_number-number.result c.args.self.now.wholes.items

pub put-requires-clause-room : goal.put-requires-clause-room
put-requires-clause-room c =
    few-places c.args.self.now c.take-files.new.self c.whole_number-number.result c.requires.tally c.take-files.ensures.wholes c.take-files.ensures.tally.places c.requires.room.room

pub put-requires-clause-few : goal.put-requires-clause-few
put-requires-clause-few c = omega (arith, c.take-files.ensures.few, enough-within c.args.self.now c.requires.tally, c.requires.room.few)

pub returns-clause-counted : goal.returns-clause-counted
returns-clause-counted c files were =
    let before = c.args.self.now in
    let held = c.args.held.now in
    let after : Counts = record { wholes = c.put.new.self.wholes; enough = c.put.new.self.enough; penalised = c.put.new.self.penalised + c.from.result } in
    let number = c.whole_number-number.result in
    let items : after.wholes.items ≡ with_item count_number (record { number = number; files = files_under number before.wholes.items + 1 }) (without_item count_number number before.wholes.items)
    = c.put.ensures.wholes ∙ (λ i. with_item count_number (record { number = number; files = c.take-files.ensures.files i + 1 }) (c.take-files.ensures.wholes i)) in
    counts-more before after held files (tally-same c.put.new.self after c.put.ensures.tally.tally refl refl)
    (subst (λ n. after.wholes.items ≡ with_item count_number (record { number = n; files = files_under n before.wholes.items + 1 }) (without_item count_number n before.wholes.items)) c.whole_number-number.ensures items)
    (omega (arith, c.put.ensures.tally.penalised, c.take-files.ensures.tally.penalised, as_bit c.from.result c.has_penalty.result (has_penalty held) c.from.ensures c.has_penalty.ensures)) were
