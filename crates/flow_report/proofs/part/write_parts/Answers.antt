use Rattle.std.proofs.lemmas.Result.{err_from_is_err_and}
use Rattle.std.proofs.Common.{[], ◌∷◌, ◌++◌, ap, arith}
use Rattle.std.specs.List.{flat_map}
use Rattle.std.proofs.lemmas.List.{append-nil}
use Rattle.flow_report.specs.Parts.{part_text}
use Rattle.flow_report.proofs.Writing.{puts-none, puts-named, puts-then, puts-more, puts-more-failed, puts-all, puts-failed, writes-result}
use Rattle.flow_report.proofs.part.write_parts.Goals as goal

pub loop-part-init : goal.loop-part-init
loop-part-init g c = record { put = λ tells. puts-none _ _ c.new-held.ensures; faults = omega arith }

pub loop-part-preserved : goal.loop-part-preserved
loop-part-preserved g c =
    let x = c.part-item.result in
    record {
      put = λ tells.
          puts-more part_text c.args.parts.now c.loop-part.part-index x _ _ _ _ _ _ c.loop-part-test.true (c.loop-part.invariant.put tells)
          (puts-named _ _ _ _ _ _ _ (ap part_text c.part-item.is) (c.in_ok-put_part.ensures.put tells));
      faults = omega (arith, c.loop-part.invariant.faults, c.put_part.ensures.cause.never_falls);
    }

pub returns-in_err-put_part-clause-written : goal.returns-in_err-put_part-clause-written
returns-in_err-put_part-clause-written g c = λ tells. let p = err_from_is_err_and c.from_residual.result c.from_residual.ensures.1 in rw p.1
    (let x = c.part-item.result in
    writes-result (flat_map part_text c.args.parts.now ++ 10 ∷ []) _ _ _ _ tt
    (puts-failed (flat_map part_text c.args.parts.now) (10 ∷ []) _ _ _ _ _
    (puts-more-failed part_text c.args.parts.now c.loop-part.part-index x _ _ _ _ _ _ _ c.loop-part-test.true (c.loop-part.invariant.put tells)
    (puts-named _ _ _ _ _ _ _ (ap part_text c.part-item.is) (c.in_err-put_part.ensures.put tells)))))

pub returns-in_err-put-clause-written : goal.returns-in_err-put-clause-written
returns-in_err-put-clause-written g c = λ tells. let p = err_from_is_err_and c.from_residual-in_err-put.result c.from_residual-in_err-put.ensures.1 in rw p.1
    (let parts = c.args.parts.now in
    let all = puts-all part_text parts c.loop-part.part-index _ _ _ _ c.loop-part-test.false (c.loop-part.invariant.put tells) in
    writes-result (flat_map part_text parts ++ 10 ∷ []) _ _ _ _ tt (puts-then _ _ _ _ _ _ _ _ _ all (c.in_err-put.ensures.put tells)))

pub returns-clause-written : goal.returns-clause-written
returns-clause-written g c = λ tells.
    let parts = c.args.parts.now in
    let all = puts-all part_text parts c.loop-part.part-index _ _ _ _ c.loop-part-test.false (c.loop-part.invariant.put tells) in
    let line = puts-then _ _ _ _ _ _ _ _ _ all (c.in_ok-put.ensures.put tells) in
    writes-result (flat_map part_text parts ++ 10 ∷ []) _ _ _ _ c.flush.ensures.all
    (puts-named _ _ _ _ _ _ _ (append-nil (flat_map part_text parts ++ 10 ∷ [])) (puts-then _ _ _ _ _ _ _ _ _ line (c.flush.ensures.put tells)))
