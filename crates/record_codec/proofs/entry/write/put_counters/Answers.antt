use Rattle.std.specs.Int.{w64, to_be_bytes}
use Rattle.record_codec.specs.EntryEncoding.{counters, generator}
use Rattle.record_codec.proofs.Chains.{written4}
use Rattle.record_codec.proofs.entry.write.put_counters.Goals as goal

pub returns-clause-items : goal.returns-clause-items
unfolding counters
returns-clause-items c =
    let s = c.args.session.now in
    written4 c.args.out.now.items (to_be_bytes w64 s.next_number) (to_be_bytes w64 s.next_arrival) (to_be_bytes w64 s.last_event) (generator s.generator)
    c.put_u64.new.out.items c.put_u64-2.new.out.items c.put_u64-3.new.out.items c.put_generator.new.out.items
    c.put_u64.ensures.items c.put_u64-2.ensures.items c.put_u64-3.ensures.items c.put_generator.ensures.items
