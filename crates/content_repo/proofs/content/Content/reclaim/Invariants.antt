use Rattle.std.proofs.Common.{◌≡◌, ℕ, ◌<◌, ◌≤◌, [], true, length, take, count_by, IsTrue}
use Rattle.disk_trait.specs.Images.{After, Since}
use Rattle.content_repo.specs.Claims.{claim, IdleShortened}
use Rattle.content_repo.specs.Slots.{held_in, slot_numbered, is_idle, reclaimed}
use Rattle.content_repo.proofs.content.Content.reclaim.Given as goal

abbrev pub invariant-loop-number : goal.invariant-loop-number
invariant-loop-number g l = record {
  since : Since g.D.Disk.moment g.D.Disk.images l.fn.disk l.disk (After (IdleShortened l.fn.self) (g.D.Disk.images l.fn.disk (g.D.Disk.moment l.fn.disk)));
  faults : g.D.Disk.faults l.fn.disk ≤ g.D.Disk.faults l.disk;
  so_far : IsTrue g.D.Disk.tells → IdleShortened l.fn.self (g.D.Disk.held l.fn.disk) (g.D.Disk.held l.disk);
  done : IsTrue g.D.Disk.tells → (k : ℕ) → k < l.number → is_idle (slot_numbered l.fn.self k) ≡ true → g.D.Disk.held l.disk (claim k) ≡ [];
  held : held_in l.self ≡ held_in l.fn.self;
  long : length l.self ≡ length l.fn.self;
  before : (k : ℕ) → k < l.number → slot_numbered l.self k ≡ reclaimed (slot_numbered l.fn.self k);
  behind : (k : ℕ) → l.number ≤ k → slot_numbered l.self k ≡ slot_numbered l.fn.self k;
  emptied : l.emptied ≡ count_by is_idle (take l.number l.fn.self);
}
