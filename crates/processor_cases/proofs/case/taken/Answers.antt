use Rattle.std.proofs.Common.{◌≡◌, false, map, rules, sym, ◌∙◌, ap}
use Rattle.processor_api.specs.Acts.{fit_a_content}
use Rattle.processor_cases.specs.Cases.{taken_without_bytes}
use Rattle.processor_cases.proofs.Cases.{none-read}
use Rattle.processor_cases.proofs.case.taken.Goals as goal

pub returns-in_ok-without_bytes : goal.returns-in_ok-without_bytes
returns-in_ok-without_bytes c =
    let files = c.in_ok-files.files in
    let shown : c.as_slice.result.now ≡ files = search rules in
    let handed : c.as_slice-else-fit_a_content.result.now ≡ files = search rules in
    let fits : fit_a_content files ≡ false = ap fit_a_content (sym shown) ∙ sym c.fit_a_content.ensures ∙ c.if-fit_a_content.false in
    none-read files c.in_ok-without_bytes.field-0 c.in_ok-files.ensures fits (c.in_ok-without_bytes.ensures ∙ ap (map taken_without_bytes) handed)
