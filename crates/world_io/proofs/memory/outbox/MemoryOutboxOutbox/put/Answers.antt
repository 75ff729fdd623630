use Rattle.std.proofs.Common.{◌∙◌, List, Option, ℕ, map, ap}
use Rattle.flowfile_record.specs.NamedFile.{bytes_of}
use Rattle.world_io.specs.Memory.{file_of}
use Rattle.world_io.proofs.Standing.{with_file-other}
use Rattle.world_io.proofs.memory.outbox.MemoryOutboxOutbox.put.Goals as goal

pub returns-in-Ok-put_file-clause-others : goal.returns-in-Ok-put_file-clause-others
returns-in-Ok-put_file-clause-others c = λ other differs.
    let at : (List ℕ → Option (List ℕ)) → Option (List ℕ) = λ standing. standing other in
    ap at c.in-Ok-put_file.ensures.put ∙ with_file-other (bytes_of (map file_of c.args.self.now.files.items)) c.args.name.now c.args.bytes.now other differs
