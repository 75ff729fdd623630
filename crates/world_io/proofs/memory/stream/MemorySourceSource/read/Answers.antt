use Rattle.std.proofs.Common.{arith}
use Rattle.std.proofs.lemmas.Grind.{common_steps}
use Rattle.world_io.proofs.Pieces.{read_rest}
use Rattle.world_io.proofs.memory.stream.MemorySourceSource.read.Goals as goal

pub returns-clause-bytes : goal.returns-clause-bytes
returns-clause-bytes c =
    let source = c.args.self.now in
    read_rest source.at c.min-count.result source.bytes.items c.copy_from_slice.new.self _ (grind (arith, common_steps)) (grind (arith, common_steps))
