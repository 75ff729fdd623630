use Rattle.std.proofs.Common.{◌≡◌, ◌≢◌, length, refl, arith}
use Rattle.flowfile_record.specs.Reading.{whole}
use Rattle.record_codec.specs.SnapshotReading.{ending_at}
use Rattle.swap_store.proofs.Refused.{other_end, right_end}
use Rattle.swap_store.proofs.taken.Taken.take_end.Goals as goal

pub returns-then-blocks-len-clause-unfit : goal.returns-then-blocks-len-clause-unfit
returns-then-blocks-len-clause-unfit c = λ form.
    let files = c.args.self.now.files.items in
    let apart : c.in-Ok.blocks ≢ length files = omega (arith, c.if-blocks-len.true, c.len.ensures) in
    other_end files (length c.args.payload.now) c.in-Ok.blocks (whole ending_at c.args.payload.now) c.in-Ok.ensures.exact apart

pub returns-else-blocks-len-clause-step : goal.returns-else-blocks-len-clause-step
returns-else-blocks-len-clause-step c =
    let files = c.args.self.now.files.items in
    let same : c.in-Ok.blocks ≡ length files = omega (arith, c.if-blocks-len.false, c.len.ensures) in
    (refl, right_end files (length c.args.payload.now) c.in-Ok.blocks (whole ending_at c.args.payload.now) c.in-Ok.ensures.exact same)
