use Rattle.std.proofs.Common.{length, ap, arith}
use Rattle.flowfile_record.specs.Encoding.{numbers}
use Rattle.record_codec.specs.StoreHead.{in_second}
use Rattle.record_codec.specs.Texts.{texts}
use Rattle.record_codec.proofs.StoreHeads.{head_size, head_written, line_size}
use Rattle.record_codec.proofs.head.write_head.Goals as goal

pub put_lists-requires-clause-connections : goal.put_lists-requires-clause-connections
put_lists-requires-clause-connections c = rw c.as_slice.ensures c.requires.connections

pub put_lists-requires-clause-processors : goal.put_lists-requires-clause-processors
put_lists-requires-clause-processors c = rw c.as_slice-2.ensures c.requires.processors

pub put_lists-requires-clause-room : goal.put_lists-requires-clause-room
put_lists-requires-clause-room c =
    omega (
      arith,
      c.in_ok-reserve.ensures.ok,
      c.in_ok-reserve.ensures.len,
      c.head_size.ensures,
      ap (λ cs. length (texts cs)) c.as_slice.ensures,
      ap (λ ps. length (in_second c.args.head.now.version (texts ps))) c.as_slice-2.ensures,
      ap (λ ns. length (numbers ns)) c.as_slice-3.ensures,
      head_size c.args.head.now c.requires.flow,
    )

pub put_counters-requires : goal.put_counters-requires
put_counters-requires c =
    omega (
      arith,
      c.in_ok-reserve.ensures.ok,
      c.in_ok-reserve.ensures.len,
      c.put_lists.ensures.len,
      c.put_lists.ensures.capacity,
      c.head_size.ensures,
      ap (λ cs. length (texts cs)) c.as_slice.ensures,
      ap (λ ps. length (in_second c.args.head.now.version (texts ps))) c.as_slice-2.ensures,
      ap (λ ns. length (numbers ns)) c.as_slice-3.ensures,
      head_size c.args.head.now c.requires.flow,
      line_size c.args.head.now.version c.args.head.now.line,
    )

pub returns-clause-ok : goal.returns-clause-ok
returns-clause-ok c =
    head_written c.args.head.now c.args.out.now.items c.reserve.new.self.items c.put_lists.new.out.items c.put_counters.new.out.items c.as_slice.result.now c.as_slice-2.result.now c.as_slice-3.result.now
    c.in_ok-reserve.ensures.items c.as_slice.ensures c.as_slice-2.ensures c.as_slice-3.ensures c.put_lists.ensures.items c.put_counters.ensures.items
