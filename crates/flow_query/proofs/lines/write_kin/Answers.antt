use Rattle.std.proofs.Common.{List, ℕ, ◌∷◌, [], ap, arith}
use Rattle.std.specs.Prelude.{codes}
use Rattle.std.proofs.lemmas.Result.{err_from_is_err_and}
use Rattle.flow_report.specs.Texts.{line_of, kin_word}
use Rattle.flow_report.specs.Words.{identifier_text}
use Rattle.flow_query.specs.Texts.{kin_text}
use Rattle.flow_query.proofs.Written.{leaves-all, item-more, item-failed, items-done}
use Rattle.flow_query.proofs.lines.write_kin.Goals as goal

pub loop-file-init : goal.loop-file-init
loop-file-init g c = record { left = λ tells. leaves-all _ _; faults = omega arith }

pub loop-file-preserved : goal.loop-file-preserved
loop-file-preserved g c = record {
  left = λ tells.
      item-more (kin_text c.args.word c.args.store) _ c.args.files.now c.loop-file.file-index 0 _ _ _ _ c.loop-file-test.true
      (ap (λ (id : List ℕ). line_of (kin_word c.args.word ∷ codes " " ∷ identifier_text id ∷ [])) c.uuid_of.ensures.bits) (c.loop-file.invariant.left tells) (c.in_ok-write_line.ensures.written tells);
  faults = omega (arith, c.loop-file.invariant.faults, c.write_line.ensures.cause.never_falls);
}

pub returns-in_err-write_line-clause-written : goal.returns-in_err-write_line-clause-written
returns-in_err-write_line-clause-written g c = λ tells. let p = err_from_is_err_and c.from_residual.result c.from_residual.ensures.1 in rw p.1
    (item-failed (kin_text c.args.word c.args.store) _ c.args.files.now c.loop-file.file-index 0 _ _ _ _ _ c.loop-file-test.true
    (ap (λ (id : List ℕ). line_of (kin_word c.args.word ∷ codes " " ∷ identifier_text id ∷ [])) c.uuid_of.ensures.bits) (c.loop-file.invariant.left tells) (c.in_err-write_line.ensures.written tells))

pub returns-clause-written : goal.returns-clause-written
returns-clause-written g c = λ tells. items-done (kin_text c.args.word c.args.store) _ c.args.files.now c.loop-file.file-index _ _ c.loop-file-test.false (c.loop-file.invariant.left tells)
