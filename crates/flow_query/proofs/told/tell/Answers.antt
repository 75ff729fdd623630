use Rattle.std.proofs.Common.{◌≡◌, ℕ, true, false, List, Result, Err, sym, refl, ◌∙◌}
use Rattle.std.proofs.lemmas.Bool.{false≢true}
use Rattle.std.proofs.lemmas.Result.{err_from_is_err_and}
use Rattle.flowfile_record.specs.declared.event.Event.{Event}
use Rattle.lineage_query.specs.declared.answer.Lineage.{Lineage}
use Rattle.lineage_query.specs.declared.answer.LineageError.{LineageError}
use Rattle.lineage_query.specs.declared.answer.LineageError.TheVariants.{Absent, Memory}
use Rattle.machine_model.specs.Lineage.{is_named}
use Rattle.flow_query.specs.Errors.{of_lineage}
use Rattle.flow_query.specs.Parts.{LineageIsPrinted}
use Rattle.flow_query.proofs.told.tell.Goals as goal

abbrev Answer : Type 0
Answer = Result Lineage LineageError

abbrev err : LineageError → Answer
err e = Err e

told-not : (store : ℕ) (events : List Event) (file : ℕ) (before : List ℕ) (e : LineageError) → is_named events file ≡ true → (err e ≡ err Absent → is_named events file ≡ false)
    → LineageIsPrinted store events file before before (Err (of_lineage e))
told-not store events file before Absent named absent = absurd (false≢true (sym (absent refl) ∙ named))
told-not store events file before Memory named absent = refl

pub returns-in_err-told-clause-told : goal.returns-in_err-told-clause-told
returns-in_err-told-clause-told g c = λ tells. let p = err_from_is_err_and c.from_residual.result c.from_residual.ensures.1 in rw (p.1, p.2)
    (told-not c.args.store c.args.events.now c.args.file _ c.in_err-told.field-0.0 c.requires.named c.in_err-told.ensures.absent.0)
