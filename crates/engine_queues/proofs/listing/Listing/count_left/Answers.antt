use Rattle.std.proofs.Common.{◌≡◌, ◌+◌, List, Bool, length, ap, ◌∙◌, arith}
use Rattle.engine_queues.specs.Listing.{Left, names_left}
use Rattle.engine_queues.proofs.Left.{free, free-few, free-step, left-length, none-free}
use Rattle.engine_queues.proofs.listing.Listing.count_left.Goals as goal
use Rattle.engine_queues.proofs.listing.Listing.count_left.Goals.{then-not-is_taken, else-not-is_taken}

pub overflow_add-count : goal.overflow_add-count
overflow_add-count c =
    let marks : length c.as_slice-is_taken-items.result.now ≡ length c.self.inside.names.items = ap length c.as_slice-is_taken-items.ensures.value ∙ c.self.invariant.marks in
    omega (arith, c.loop-is_taken.invariant, free-step c.as_slice-is_taken-items.result.now c.loop-is_taken.is_taken-index _ c.loop-is_taken-test.true c.if-not-is_taken.true, free-few c.as_slice-is_taken-items.result.now, marks, c.self.invariant.few)

pub loop-is_taken-preserved : goal.loop-is_taken-preserved
loop-is_taken-preserved c = elim c.if-not-is_taken.branch [
  | then-not-is_taken w ↦ omega (arith, c.loop-is_taken.invariant, w.count-is, free-step c.as_slice-is_taken-items.result.now c.loop-is_taken.is_taken-index _ c.loop-is_taken-test.true w.if-not-is_taken.true)
  | else-not-is_taken w ↦ omega (arith, c.loop-is_taken.invariant, w.count-is, free-step c.as_slice-is_taken-items.result.now c.loop-is_taken.is_taken-index _ c.loop-is_taken-test.true w.if-not-is_taken.false)
]

pub returns : goal.returns
returns c =
    let items = c.as_slice-is_taken-items.ensures.value in
    omega (
      arith,
      c.loop-is_taken.invariant,
      none-free c.as_slice-is_taken-items.result.now c.loop-is_taken.is_taken-index c.loop-is_taken-test.false,
      ap (λ (l : List Bool). length (free l)) items,
      left-length c.self.inside.names.items c.self.inside.taken.items c.self.invariant.marks,
      ap (λ (l : Left). length (names_left l) + l.too_large) c.self.view_is,
    )
