use Rattle.std.proofs.Common.{◌≡◌, ◌-◌, ◌≤◌, sym, ◌∙◌, ap, subst, refl, arith}
use Rattle.flowfile_record.specs.NumberedItems.{item_of, with_item, without_item}
use Rattle.flow_queue.specs.declared.queue.counts.Counts.{Counts}
use Rattle.flow_queue.specs.Counts.{HasTally, count_number, files_under, has_penalty}
use Rattle.flow_queue.proofs.Counting.{as_bit, counts-fewer, counts-last, enough-within, none-there, tally-same}
use Rattle.flow_queue.proofs.queue.counts.Counts.leave.Goals as goal
use Rattle.flow_queue.proofs.queue.counts.Counts.leave.Goals.{then-files-gt1, else-files-gt1}

pub put-requires-clause-new : goal.put-requires-clause-new
put-requires-clause-new c =
    ap (item_of count_number c.whole_number-number.result) c.take-files.ensures.wholes ∙ none-there count_number c.whole_number-number.result c.args.self.now.wholes.items

pub put-requires-clause-few : goal.put-requires-clause-few
put-requires-clause-few c = omega (arith, c.take-files.ensures.few, enough-within c.args.self.now c.requires.tally, c.requires.few)

pub returns-clause-counted : goal.returns-clause-counted
returns-clause-counted c files were =
    let before = c.args.self.now in
    let held = c.args.held.now in
    let mid = c.if-files-gt1.self in
    let after : Counts = record { wholes = mid.wholes; enough = mid.enough; penalised = c.saturating_sub-self.result } in
    let number = c.whole_number-number.result in
    let taken = c.take-files.new.self in
    let penalty = as_bit c.from-penalised.result c.has_penalty.result (has_penalty held) c.from-penalised.ensures c.has_penalty.ensures in
    elim c.if-files-gt1.branch [
      | then-files-gt1 w ↦
          let items : after.wholes.items ≡ with_item count_number (record { number = number; files = files_under number before.wholes.items - 1 }) (without_item count_number number before.wholes.items)
          = ap (λ (counts : Counts). counts.wholes.items) w.self-is ∙ w.put.ensures.wholes
          ∙ (λ i. with_item count_number (record { number = number; files = c.take-files.ensures.files i - 1 }) (c.take-files.ensures.wholes i)) in
          counts-fewer before after held files were (tally-same mid after (subst HasTally (sym w.self-is) w.put.ensures.tally.tally) refl refl)
          (subst (λ n. after.wholes.items ≡ with_item count_number (record { number = n; files = files_under n before.wholes.items - 1 }) (without_item count_number n before.wholes.items)) c.whole_number-number.ensures items)
          (omega (arith, c.saturating_sub-self.ensures, penalty, ap (λ (counts : Counts). counts.penalised) w.self-is, w.put.ensures.tally.penalised, c.take-files.ensures.tally.penalised))
      | else-files-gt1 w ↦
          let items : after.wholes.items ≡ without_item count_number number before.wholes.items
          = ap (λ (counts : Counts). counts.wholes.items) w.self-is ∙ c.take-files.ensures.wholes in
          let last : files_under number before.wholes.items ≤ 1 = omega (arith, c.take-files.ensures.files, w.if-files-gt1.false) in
          counts-last before after held files were (subst (λ n. files_under n before.wholes.items ≤ 1) c.whole_number-number.ensures last)
          (tally-same mid after (subst HasTally (sym w.self-is) c.take-files.ensures.tally.tally) refl refl)
          (subst (λ n. after.wholes.items ≡ without_item count_number n before.wholes.items) c.whole_number-number.ensures items)
          (omega (arith, c.saturating_sub-self.ensures, penalty, ap (λ (counts : Counts). counts.penalised) w.self-is, c.take-files.ensures.tally.penalised))
    ]
