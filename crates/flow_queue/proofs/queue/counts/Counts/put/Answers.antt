use Rattle.std.proofs.Common.{◌+◌, length, ap, refl, arith}
use Rattle.flowfile_record.proofs.ByNumber.{length-with}
use Rattle.flow_queue.specs.declared.queue.counts.Counts.{Counts}
use Rattle.flow_queue.specs.Counts.{count_number, has_enough}
use Rattle.flow_queue.proofs.Counting.{as_bit, tally-put}
use Rattle.flow_queue.proofs.queue.counts.Counts.put.Goals as goal

pub returns-clause-tally : goal.returns-clause-tally
returns-clause-tally c =
    let before = c.args.self.now in
    let after : Counts = record { wholes = c.put.new.self; enough = before.enough + c.from.result; penalised = before.penalised } in
    record {
      tally = tally-put before after c.args.count c.requires.tally c.requires.new c.requires.files c.put.ensures.items (omega (arith, as_bit c.from.result c.has_enough.result (has_enough c.args.count) c.from.ensures c.has_enough.ensures));
      places = omega (arith, c.put.ensures.room, ap length c.put.ensures.items, length-with count_number c.args.count before.wholes.items);
      penalised = refl;
    }
