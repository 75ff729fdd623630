use Rattle.std.proofs.Common.{length, ap, arith}
use Rattle.flowfile_record.specs.Encoding.{numbers}
use Rattle.record_codec.specs.StoreHead.{head_of, in_second}
use Rattle.record_codec.specs.Texts.{texts}
use Rattle.record_codec.proofs.StoreHeads.{head_size}
use Rattle.record_codec.proofs.head.head_size_of.Goals as goal

pub size_of-requires-clause-connections : goal.size_of-requires-clause-connections
size_of-requires-clause-connections c = rw c.as_slice.ensures c.requires.connections

pub size_of-requires-clause-processors : goal.size_of-requires-clause-processors
size_of-requires-clause-processors c = rw c.as_slice-2.ensures c.requires.processors

pub returns : goal.returns
returns c =
    omega (
      arith,
      c.size_of.ensures,
      ap (λ cs. length (texts cs)) c.as_slice.ensures,
      ap (λ ps. length (in_second c.args.version (texts ps))) c.as_slice-2.ensures,
      ap (λ ns. length (numbers ns)) c.as_slice-3.ensures,
      head_size (head_of c.args.version c.args.stored.now) c.requires.flow,
    )
