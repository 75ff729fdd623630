use Rattle.std.proofs.Common.{◌≡◌, ◌≤◌, ◌++◌, map}
use Rattle.std.specs.Prelude.{All, None, IsTrue}
use Rattle.disk_trait.specs.Images.{Stays}
use Rattle.flowfile_record.specs.Stored.{kept_of}
use Rattle.content_repo.specs.Slots.{IsNamed}
use Rattle.checkpoint_store.specs.Consistent.{IsFileIn}
use Rattle.store_core.specs.State.{contents_damage, live_contents}
use Rattle.store_core.proofs.reading.read_contents.Given as goal

abbrev pub invariant-loop-active : goal.invariant-loop-active
invariant-loop-active g l = record {
  next : (goal.iterator-loop-active g).can_next l.active-iterator;
  finite : (goal.iterator-loop-active g).is_finite l.active-iterator;
  stays : Stays g.D.Disk.held g.D.Disk.moment g.D.Disk.images l.fn.disk l.disk;
  faults : g.D.Disk.faults l.fn.disk ≤ g.D.Disk.faults l.disk;
  split : live_contents (kept_of l.fn.stored) ≡ l.contents.items ++ map (λ a. a.file.content) l.active-iterator;
  rest : All (IsFileIn (kept_of l.fn.stored)) l.active-iterator;
  named : All IsNamed l.contents.items;
  sound : IsTrue g.D.Disk.tells → contents_damage (g.D.Disk.held l.fn.disk) l.contents.items ≡ None;
}
