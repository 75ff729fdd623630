use Rattle.std.proofs.Common.{◌++◌, ap, ◌∙◌}
use Rattle.std.specs.Int.{w16, w64, to_be_bytes}
use Rattle.flowfile_record.specs.Encoding.{numbers, listed}
use Rattle.record_codec.specs.ActiveFile.{active_file}
use Rattle.record_codec.specs.EntryEncoding.{session, counters}
use Rattle.record_codec.proofs.Chains.{written5}
use Rattle.record_codec.proofs.entry.write.put_session.Goals as goal

pub returns-clause-items : goal.returns-clause-items
unfolding session
returns-clause-items c =
    let s = c.args.session.now in
    written5 c.args.out.now.items (to_be_bytes w16 s.processor) (to_be_bytes w64 s.moment) (numbers s.gone) (listed active_file s.placed) (counters s)
    c.put_u16.new.out.items c.put_u64.new.out.items c.put_numbers.new.out.items c.put_placed.new.out.items c.put_counters.new.out.items
    c.put_u16.ensures.items c.put_u64.ensures.items
    (c.put_numbers.ensures.items ∙ ap (λ ns. c.put_u64.new.out.items ++ numbers ns) c.as_slice.ensures)
    (c.put_placed.ensures.items ∙ ap (λ xs. c.put_numbers.new.out.items ++ listed active_file xs) c.as_slice-2.ensures)
    c.put_counters.ensures.items
