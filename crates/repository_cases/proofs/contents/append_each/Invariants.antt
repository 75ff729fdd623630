use Rattle.std.proofs.Common.{◌≡◌, IsTrue}
use Rattle.content_repo.specs.Claims.{HasSizes}
use Rattle.content_repo.specs.Slots.{held_in}
use Rattle.repository_cases.proofs.contents.append_each.Given as goal

abbrev pub invariant-loop-value : goal.invariant-loop-value
invariant-loop-value g l = record {
  held : held_in l.content ≡ l.value-index;
  sizes : IsTrue g.D.Disk.tells → HasSizes l.content (g.D.Disk.held l.disk);
}
