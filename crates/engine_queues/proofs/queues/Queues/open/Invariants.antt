use Rattle.std.proofs.Common.{◌≡◌, List, [], ◌++◌}
use Rattle.flowfile_record.specs.Stored.{kept_of}
use Rattle.flowfile_record.specs.declared.stored.ActiveFile.{ActiveFile}
use Rattle.engine_queues.specs.Queues.{AreQueuesOf}
use Rattle.engine_queues.proofs.Opened.{with_files}
use Rattle.engine_queues.proofs.queues.Queues.open.Given as goal

-- the queues of the files so far
abbrev pub invariant-loop-active : goal.invariant-loop-active
invariant-loop-active l = record {
  next : (goal.iterator-loop-active).can_next l.active-iterator;
  finite : (goal.iterator-loop-active).is_finite l.active-iterator;
  taken : List ActiveFile;
  split : l.fn.stored.files.items ≡ taken ++ l.active-iterator;
  queues : AreQueuesOf l.fn.flow (with_files (kept_of l.fn.stored) taken) [] l.list.items;
}
