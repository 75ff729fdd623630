use Rattle.std.proofs.Common.{◌≡◌, ◌+◌, ◌≤◌, ◌++◌, IsTrue, length}
use Rattle.std.specs.Prelude.{filter, IsSome}
use Rattle.std.specs.List.{AllByRecursion}
use Rattle.std.specs.Vec.Iter.{into_iter_items}
use Rattle.flowfile_record.specs.NamedFile.{bytes_of}
use Rattle.world_io.specs.Inbox.{IsAscending}
use Rattle.engine_steps.specs.Opening.{fits_in}
use Rattle.engine_steps.proofs.engine.names_that_fit.Given as goal

abbrev pub invariant-loop-name : goal.invariant-loop-name
invariant-loop-name g l = record {
  fit : IsTrue g.I.Inbox.tells → l.coming.items ++ filter (fits_in (g.I.Inbox.left l.fn.inbox)) (into_iter_items l.name-iterator)
      ≡ filter (fits_in (g.I.Inbox.left l.fn.inbox)) l.fn.names.items;
  ascending : IsAscending (l.coming.items ++ into_iter_items l.name-iterator);
  there : IsTrue g.I.Inbox.tells → AllByRecursion (λ name. IsSome (bytes_of (g.I.Inbox.left l.fn.inbox) name)) (into_iter_items l.name-iterator);
  few : length l.coming.items + length (into_iter_items l.name-iterator) ≤ length l.fn.names.items;
  left : g.I.Inbox.left l.inbox ≡ g.I.Inbox.left l.fn.inbox;
  faults : g.I.Inbox.faults l.fn.inbox ≤ g.I.Inbox.faults l.inbox;
}
