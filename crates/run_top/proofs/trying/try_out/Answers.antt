use Rattle.run_top.proofs.Tried.{memory_alone, memory_line, of_store, of_trial, tried}
use Rattle.run_top.proofs.trying.try_out.Goals as goal

pub show-requires-clause-closed : goal.show-requires-clause-closed
show-requires-clause-closed g c = c.run_in_memory-run.ensures.closed

pub show-requires-clause-refused : goal.show-requires-clause-refused
show-requires-clause-refused g c = of_store c.run_in_memory-run.result c.run_in_memory-run.ensures.memory

pub returns-in-Ok : goal.returns-in-Ok
returns-in-Ok g c =
    let run = c.run_in_memory-run in
    let S = g.S.Sink in
    record {
      headline = tried c.args.count c.args.lot c.in-Ok.flow run.result c.show.result S.tells (S.written c.args.sink.now) (S.written c.show.new.sink) c.in-Ok.ensures.is run.ensures.ran run.ensures.closed run.ensures.memory c.show.ensures.told c.show.ensures.printed;
      one_of = of_trial run.result c.show.result run.ensures.no_fault run.ensures.memory c.show.ensures.told;
      line = λ is told. memory_line S.faults S.written c.args.sink.now c.show.new.sink c.show.result (λ refusal. c.show.ensures.line refusal told) is;
      faults = c.show.ensures.faults;
    }

pub returns-in-Err : goal.returns-in-Err
returns-in-Err g c =
    let S = g.S.Sink in
    memory_alone c.args.count c.args.lot S.tells S.written S.faults c.args.sink.now c.refuse.new.sink c.refuse.result c.refuse.ensures.same c.refuse.ensures.line c.refuse.ensures.faults
