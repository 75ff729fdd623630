use Rattle.std.proofs.Common.{◌≡◌, ℕ, List, Option, ap, subst, ◌∙◌, string_bytes}
use Rattle.std.specs.Prelude.{IfOk, option_map}
use Rattle.machine_model.specs.Making.{as_content}
use Rattle.machine_model.specs.ReplaceText.{text_replaced}
use Rattle.proc_text.proofs.Replacing.{in-text, not-in-text}
use Rattle.proc_text.proofs.Texts.{is-text, isnt-text}
use Rattle.proc_text.proofs.replace_text.replaced_content.Goals as goal

pub returns-in-Ok : goal.returns-in-Ok
returns-in-Ok c =
    let content = c.args.content.now in
    let replacement = c.args.replacement.now in
    let text = c.in-Ok.ensures in
    subst (λ (wanted : Option (List ℕ)). IfOk c.text_replaced.result (λ replaced. option_map string_bytes replaced ≡ wanted))
    (ap (λ t. as_content (text_replaced replacement t)) text.0 ∙ in-text replacement content (is-text content text.1)) c.text_replaced.ensures

pub returns-in-Err : goal.returns-in-Err
returns-in-Err c = not-in-text c.args.replacement.now c.args.content.now (isnt-text c.args.content.now c.in-Err.ensures)
