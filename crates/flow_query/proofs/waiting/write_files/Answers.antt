use Rattle.std.proofs.Common.{◌≡◌, ◌∷◌, List, ℕ, [], ap, sym, ◌∙◌, arith}
use Rattle.std.specs.Prelude.{codes, decimal}
use Rattle.std.specs.List.{flat_map}
use Rattle.std.proofs.lemmas.Result.{err_from_is_err_and}
use Rattle.flowfile_record.specs.Identifier.{identifier}
use Rattle.flow_report.specs.Texts.{line_of}
use Rattle.flow_report.specs.Words.{identifier_text}
use Rattle.flow_query.specs.Parts.{waiting_text}
use Rattle.flow_query.specs.declared.waiting.Waiting.{Waiting}
use Rattle.flow_query.proofs.Written.{leaves-all, leaves-named, first-more, first-failed, writes-done}
use Rattle.flow_query.proofs.waiting.write_files.Goals as goal

pub loop-waiting-init : goal.loop-waiting-init
loop-waiting-init g c = record {
  left = λ tells.
      leaves-named _ _ _ _ _ (ap (flat_map (waiting_text c.args.store)) (sym (c.into_iter-waiting-iterator.ensures.into_iter_gives ∙ c.iter-waiting-items.ensures))) (leaves-all _ _);
  faults = omega arith;
}

line_is : (store : ℕ) (w : Waiting) (id : List ℕ) → id ≡ identifier store w.number
    → line_of (codes "file " ∷ identifier_text id ∷ codes " " ∷ decimal w.size ∷ []) ≡ waiting_text store w
line_is store w id is = ap (λ (l : List ℕ). line_of (codes "file " ∷ identifier_text l ∷ codes " " ∷ decimal w.size ∷ [])) is

pub loop-waiting-preserved : goal.loop-waiting-preserved
loop-waiting-preserved g c =
    let w = c.in-Some.waiting.now in
    record {
      left = λ tells.
          first-more (waiting_text c.args.store) _ c.loop-waiting.waiting-iterator c.next.new.self w _ _ _ _ c.in-Some.ensures.steps (line_is c.args.store w c.uuid_of.result c.uuid_of.ensures.bits)
          (c.loop-waiting.invariant.left tells) (c.in_ok-write_line.ensures.written tells);
      faults = omega (arith, c.loop-waiting.invariant.faults, c.write_line.ensures.cause.never_falls);
    }

pub returns-in_err-write_line-clause-written : goal.returns-in_err-write_line-clause-written
returns-in_err-write_line-clause-written g c = λ tells. let p = err_from_is_err_and c.from_residual.result c.from_residual.ensures.1 in rw p.1
    (let w = c.in-Some.waiting.now in
    first-failed (waiting_text c.args.store) _ c.loop-waiting.waiting-iterator c.next.new.self w _ _ _ _ _ c.in-Some.ensures.steps (line_is c.args.store w c.uuid_of.result c.uuid_of.ensures.bits)
    (c.loop-waiting.invariant.left tells) (c.in_err-write_line.ensures.written tells))

pub returns-clause-written : goal.returns-clause-written
returns-clause-written g c = λ tells. writes-done _ _ _ _ (ap (flat_map (waiting_text c.args.store)) c.in-None.ensures.steps.0) (c.loop-waiting.invariant.left tells)
