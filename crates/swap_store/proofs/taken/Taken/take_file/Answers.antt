use Rattle.std.proofs.Common.{inr, length}
use Rattle.flowfile_record.specs.Reading.{whole}
use Rattle.record_codec.specs.ActiveFile.{active_file_at}
use Rattle.swap_store.proofs.Takes.{file_takes}
use Rattle.swap_store.proofs.taken.Taken.take_file.Goals as goal

pub returns-in-Ok-clause-memory : goal.returns-in-Ok-clause-memory
returns-in-Ok-clause-memory c = λ is.
    inr (file_takes c.args.self.now.files.items c.in-Ok.active (length c.args.payload.now) (whole active_file_at c.args.payload.now) c.in-Ok.ensures.exact (c.add.ensures.memory is))
