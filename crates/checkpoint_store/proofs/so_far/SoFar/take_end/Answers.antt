use Rattle.std.proofs.Common.{length, arith, ◌≢◌}
use Rattle.flowfile_record.specs.Reading.{whole}
use Rattle.flowfile_record.specs.Stored.{kept_of}
use Rattle.record_codec.specs.SnapshotReading.{ending_at}
use Rattle.checkpoint_store.specs.Snapshot.{blocks_in}
use Rattle.checkpoint_store.proofs.Parts.{not_the_end}
use Rattle.checkpoint_store.proofs.so_far.SoFar.take_end.Goals as goal

pub returns-then-blocks-clause-unfit : goal.returns-then-blocks-clause-unfit
returns-then-blocks-clause-unfit c = λ form.
    let apart : c.in_ok-blocks.blocks ≢ blocks_in (kept_of c.args.self.now.state) = omega (arith, c.if-blocks.true, c.blocks-2.ensures) in
    not_the_end (kept_of c.args.self.now.state) (length c.args.payload.now) c.in_ok-blocks.blocks (whole ending_at c.args.payload.now) c.in_ok-blocks.ensures.exact apart
