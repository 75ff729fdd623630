use Rattle.std.proofs.Common.{ℕ, Bool, false, get_or, ◌∙◌, arith}
use Rattle.disk_trait.proofs.DiskStops.{tear_drawn, tear_kept}
use Rattle.disk_trait.proofs.memory.tear.tear.Goals.{then-marks-i, else-marks-i}
use Rattle.disk_trait.proofs.memory.tear.tear.Goals as goal

pub loop-i-preserved : goal.loop-i-preserved
loop-i-preserved c =
    let marks = c.args.marks.now in
    let t : ℕ → Bool = λ i. get_or marks i false in
    elim c.if-marks-i.branch [
      | then-marks-i w ↦
          let picked = w.if-marks-i.true in
          let on = tear_drawn t c.loop-i.bytes c.loop-i.i c.loop-i.x (omega arith) c.if-marks-i.bytes c.if-marks-i.x picked w.x-is w.bytes-is in
          record { rest = on.0 ∙ c.loop-i.invariant.rest; seed = on.1 ∙ c.loop-i.invariant.seed }
      | else-marks-i w ↦
          let picked = w.if-marks-i.false in
          let on = tear_kept t c.loop-i.bytes c.loop-i.i c.loop-i.x (omega arith) c.if-marks-i.bytes c.if-marks-i.x picked w.x-is w.bytes-is in
          record { rest = on.0 ∙ c.loop-i.invariant.rest; seed = on.1 ∙ c.loop-i.invariant.seed }
    ]
