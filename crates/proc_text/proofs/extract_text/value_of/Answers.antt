use Rattle.std.proofs.Common.{◌≡◌, ℕ, List, string_bytes, ◌∙◌, ap, subst}
use Rattle.std.specs.Prelude.{IfOk}
use Rattle.regex.specs.Strings.{match_bytes}
use Rattle.machine_model.specs.declared.limits.TheConstants.{EXTRACTED_MAX}
use Rattle.machine_model.specs.ExtractText.{front_within}
use Rattle.proc_text.proofs.Extracts.{front-is}
use Rattle.proc_text.proofs.extract_text.value_of.Goals as goal

pub returns : goal.returns
returns c =
    let text = c.as_str-text.result.now in
    let floor = c.floor_char_boundary.ensures in
    let is : c.split_at.result.0.now ≡ front_within EXTRACTED_MAX (match_bytes c.args.part) =
    c.split_at.ensures.front ∙ front-is text EXTRACTED_MAX c.floor_char_boundary.result floor.bound floor.boundary floor.nearest ∙ ap (front_within EXTRACTED_MAX) c.as_str-text.ensures in
    subst (λ (bytes : List ℕ). IfOk c.from_str.result (λ value. string_bytes value ≡ bytes)) is c.from_str.ensures.ok
