use Rattle.std.proofs.Common.{◌≡◌, [], ap, arith, drop, length}
use Rattle.std.proofs.lemmas.List.{drop_all}
use Rattle.settlement.specs.Placing.{returned}
use Rattle.settlement.proofs.Placed.{returned_left}
use Rattle.settlement.proofs.placing.count_returned.Goals as goal

pub loop-file-preserved : goal.loop-file-preserved
loop-file-preserved c = record {
  whole = λ from.
      omega (arith, c.loop-file.invariant.whole from, c.count_return-count.ensures.count from, returned_left from c.args.files.now c.loop-file.file-index c.file-item.result (omega arith) c.file-item.is);
  bound = omega (arith, c.loop-file.invariant.bound, c.count_return-count.ensures.bound);
}

pub returns : goal.returns
returns c from =
    let none : drop c.loop-file.file-index c.args.files.now ≡ [] = drop_all c.loop-file.file-index c.args.files.now (omega arith) in
    omega (arith, c.loop-file.invariant.whole from, ap (λ xs. length (returned from xs)) none)
