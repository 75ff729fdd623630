use Rattle.std.proofs.Common.{◌≡◌, Err, Result, refl, sym, subst, ◌∙◌}
use Rattle.std.specs.Result.{IsErrAnd}
use Rattle.lineage_query.specs.declared.answer.Lineage.{Lineage}
use Rattle.lineage_query.specs.declared.answer.LineageError.{LineageError}
use Rattle.lineage_query.specs.declared.answer.LineageError.TheVariants.{Absent, Memory}
use Rattle.lineage_query.proofs.Telling.{listed, unlisted}
use Rattle.lineage_query.proofs.query.lineage.Goals as goal

abbrev Answer : Type 0
Answer = Result Lineage LineageError

memory-alone : (answer : Answer) → IsErrAnd answer (λ error. error ≡ Memory) → answer ≡ Err Absent → ⊥
memory-alone answer memory absent =
    let Says : Answer → Type 0 = λ a. IsErrAnd a (λ error. error ≡ Memory) in
    let is : Absent ≡ Memory = subst Says absent memory in
    cc

pub returns-then-is_empty-clause-absent : goal.returns-then-is_empty-clause-absent
returns-then-is_empty-clause-absent g c = (
  λ _. unlisted c.args.index.now c.of.result.now c.args.number c.of.ensures.numbers (sym c.is_empty.ensures ∙ c.if-is_empty.true),
  λ _. refl,
)

pub returns-in_err-lineage-clause-absent : goal.returns-in_err-lineage-clause-absent
returns-in_err-lineage-clause-absent g c = (
  λ absent. absurd (memory-alone c.from_residual.result c.from_residual.ensures.1 absent),
  λ none. absurd (listed c.args.index.now c.of.result.now c.args.number c.of.ensures.numbers (sym c.is_empty.ensures ∙ c.if-is_empty.false) none),
)

pub returns-clause-absent : goal.returns-clause-absent
returns-clause-absent g c = (
  λ absent. absurd (let no = absent in cc),
  λ none. absurd (listed c.args.index.now c.of.result.now c.args.number c.of.ensures.numbers (sym c.is_empty.ensures ∙ c.if-is_empty.false) none),
)
