use Rattle.std.proofs.Common.{◌≡◌, take}
use Rattle.machine_model.specs.Due.{numbers_of}
use Rattle.flow_queue.specs.Picking.{views_at}
use Rattle.flow_queue.proofs.queue.bins.list_numbers.Given as goal

-- the numbers of the files so far
abbrev pub invariant-loop-held : goal.invariant-loop-held
invariant-loop-held l = l.list.items ≡ numbers_of (views_at (take l.held-index l.files))
