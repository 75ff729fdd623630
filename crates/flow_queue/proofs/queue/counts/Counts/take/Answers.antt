use Rattle.std.proofs.Common.{◌≡◌, ◌+◌, ◌-◌, cond, Option, None, Some, is_some, length, sym, ◌∙◌, ap, refl, arith}
use Rattle.flowfile_record.specs.NumberedItems.{item_of}
use Rattle.flowfile_record.proofs.ByNumber.{length-without}
use Rattle.flowfile_record.proofs.Numbers.{without_none}
use Rattle.flow_queue.specs.declared.queue.counts.Counts.{Counts}
use Rattle.flow_queue.specs.declared.queue.counts.WholeCount.{WholeCount}
use Rattle.flow_queue.specs.Counts.{count_number, has_enough}
use Rattle.flow_queue.proofs.Counting.{as_bit, enough-parts, tally-same, tally-taken}
use Rattle.flow_queue.proofs.queue.counts.Counts.take.Goals as goal

pub returns-in_default-clause-tally : goal.returns-in_default-clause-tally
returns-in_default-clause-tally c =
    let before = c.args.self.now in
    let after : Counts = record { wholes = c.take.new.self; enough = before.enough; penalised = before.penalised } in
    let none : item_of count_number c.args.number before.wholes.items ≡ None = sym c.take.ensures.item ∙ c.in_default.is in
    let same = c.take.ensures.items ∙ without_none count_number c.args.number before.wholes.items none in
    record {
      tally = tally-same before after c.requires same refl;
      places = omega (arith, ap length same, c.take.ensures.room ∙ ap (λ (o : Option WholeCount). cond (is_some o) (before.wholes.room + 1) before.wholes.room) c.in_default.is);
      penalised = refl;
    }

pub overflow_sub-self : goal.overflow_sub-self
overflow_sub-self c =
    omega (arith, as_bit c.from.result c.has_enough.result (has_enough c.in-Some.count) c.from.ensures c.has_enough.ensures, enough-parts c.args.self.now c.args.number c.in-Some.count c.requires (sym c.in-Some.ensures.item))

pub returns-clause-tally : goal.returns-clause-tally
returns-clause-tally c =
    let before = c.args.self.now in
    let after : Counts = record { wholes = c.take.new.self; enough = before.enough - c.from.result; penalised = before.penalised } in
    let found : item_of count_number c.args.number before.wholes.items ≡ Some c.in-Some.count = sym c.in-Some.ensures.item in
    record {
      tally = tally-taken before after c.args.number c.in-Some.count c.requires found c.take.ensures.items (omega (arith, as_bit c.from.result c.has_enough.result (has_enough c.in-Some.count) c.from.ensures c.has_enough.ensures));
      places = omega (arith, c.in-Some.ensures.room, ap length c.take.ensures.items, length-without count_number c.args.number before.wholes.items c.in-Some.count c.requires.ascends found);
      penalised = refl;
    }
