use Rattle.std.proofs.Common.{◌≡◌, drop}
use Rattle.prioritizer.specs.Standing.{standing_of}
use Rattle.prioritizer.specs.Order.{chain_cmp}
use Rattle.prioritizer.proofs.order.compare_by.Given as goal

-- those asked so far leave it to the rest
abbrev pub invariant-loop-prioritizer : goal.invariant-loop-prioritizer
invariant-loop-prioritizer l =
    chain_cmp (drop l.prioritizer-index l.list) (standing_of l.a) (standing_of l.b) ≡ chain_cmp l.list (standing_of l.a) (standing_of l.b)
