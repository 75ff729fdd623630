use Rattle.std.proofs.Common.{length}
use Rattle.world_real.proofs.stream.write_gathered.Given as goal

abbrev pub decreases-loop-gathered : goal.decreases-loop-gathered
decreases-loop-gathered g l = length l.gathered.items
