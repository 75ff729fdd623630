use Rattle.std.proofs.Common.{◌≡◌, drop}
use Rattle.flowfile_record.specs.declared.TheConstants.{CONTENT_MAX}
use Rattle.flow_queue.specs.Picking.{views_at}
use Rattle.flow_queue.proofs.Bins.{walked}
use Rattle.flow_queue.proofs.queue.bins.bin_size.Given as goal

-- the bin so far, and that the walk goes on from there
abbrev pub invariant-loop-held : goal.invariant-loop-held
invariant-loop-held l =
    (l.size ≡ l.held-index)
    × (walked l.min l.max l.size l.room (drop l.held-index (views_at l.files)) ≡ walked l.min l.max 0 CONTENT_MAX (views_at l.files))
