use Rattle.std.proofs.Common.{ap, sym, ◌∙◌, subst, Some, w64}
use Rattle.std.proofs.lemmas.Int.{to_z-of_z}
use Rattle.std.specs.Prelude.{FitsSigned}
use Rattle.std.specs.Result.{result_ok}
use Rattle.expr_lang.specs.Seen.{seen}
use Rattle.expr_lang.specs.Value.{text, as_number}
use Rattle.expr_lang.proofs.Fits.{is_number, no_number}
use Rattle.expr_lang.proofs.val.Val.number.Goals as goal

pub returns-in-Ok : goal.returns-in-Ok
returns-in-Ok c =
    let read = c.in-Ok.ensures.value.0 in
    let worth = is_number c.as_str.result.now read.0.0 read.0.1 in
    let fit = subst (FitsSigned w64) (sym read.1) read.0.1 in
    let same = ap (λ v. as_number (seen v)) c.in-Text.is ∙ ap (λ s. as_number (text s)) (sym c.as_str.ensures.value) in
    ap Some (to_z-of_z w64 c.in-Ok.number fit ∙ read.1) ∙ sym (ap result_ok (same ∙ worth))

pub returns-in-Err : goal.returns-in-Err
returns-in-Err c =
    let worth = no_number c.as_str.result.now c.in-Err.ensures.value.0 in
    let same = ap (λ v. as_number (seen v)) c.in-Text.is ∙ ap (λ s. as_number (text s)) (sym c.as_str.ensures.value) in
    sym (ap result_ok (same ∙ worth))
