use Rattle.std.proofs.Common.{◌≡◌, take}
use Rattle.std.specs.Prelude.{All}
use Rattle.flow_queue.specs.Fragments.{candidate_views, HasItsFragment}
use Rattle.flow_queue.specs.Picking.{views_at}
use Rattle.flow_queue.proofs.queue.wholes.parse.Given as goal

-- the files so far
abbrev pub invariant-loop-held : goal.invariant-loop-held
invariant-loop-held l = (candidate_views l.list.items ≡ views_at (take l.held-index l.files)) × All HasItsFragment l.list.items
