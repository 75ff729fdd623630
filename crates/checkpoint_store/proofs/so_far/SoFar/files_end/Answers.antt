use Rattle.std.proofs.Common.{arith, length-append}
use Rattle.std.specs.List.{flat_map}
use Rattle.flowfile_record.specs.Stored.{kept_of}
use Rattle.checkpoint_store.specs.Snapshot.{head_block, file_block}
use Rattle.checkpoint_store.proofs.Numbering.{files_size}
use Rattle.checkpoint_store.proofs.so_far.SoFar.files_end.Goals as goal

pub returns : goal.returns
returns c =
    let k = kept_of c.args.self.now.state in
    omega (
      arith,
      c.requires.head_end,
      c.requires.bytes,
      c.len.ensures.len,
      files_size k.files,
      length-append (head_block c.args.self.now.version k) (flat_map file_block k.files),
    )
