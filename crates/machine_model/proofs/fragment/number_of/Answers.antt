use Rattle.std.proofs.Common.{ap, sym, ◌∙◌, subst, Some, w64}
use Rattle.std.proofs.lemmas.Int.{to_z-of_z}
use Rattle.std.specs.Prelude.{FitsSigned}
use Rattle.std.specs.Result.{result_ok}
use Rattle.expr_lang.proofs.Fits.{is_number, no_number}
use Rattle.machine_model.proofs.fragment.number_of.Goals as goal

pub returns-in-Ok : goal.returns-in-Ok
returns-in-Ok c =
    let read = c.in-Ok.ensures.value.0 in
    let fit = subst (FitsSigned w64) (sym read.1) read.0.1 in
    ap Some (to_z-of_z w64 c.in-Ok.number fit ∙ read.1) ∙ sym (ap result_ok (is_number c.args.value.now read.0.0 read.0.1))

pub returns-in-Err : goal.returns-in-Err
returns-in-Err c = sym (ap result_ok (no_number c.args.value.now c.in-Err.ensures.value.0))
