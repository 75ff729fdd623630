use Rattle.std.proofs.Common.{◌≡◌, ℕ, List, Option, string_bytes, ◌∙◌, ap, subst}
use Rattle.regex.proofs.ReplaceLemmas.{IfOk-weaker}
use Rattle.regex.specs.Patterns.{find_all_str}
use Rattle.regex.specs.Replace.{replaced_by}
use Rattle.regex.specs.Strings.{IsReadFrom, IsWrittenBy, matcher_pattern, regex_names, regex_pattern}
use Rattle.machine_model.specs.ReplaceText.{template_at}
use Rattle.proc_text.proofs.replace_text.with_matches_replaced.Goals as goal

pub returns : goal.returns
returns c =
    let text = c.args.text.now in
    let template_text = c.args.template.now in
    let regex = c.args.search.now.regex.value in
    let template = c.in_ok-template.template in
    let read : IsReadFrom (regex_names regex) template_text template =
    subst (λ (names : List (Option (List ℕ))). IsReadFrom names template_text template) (c.capture_names.ensures ∙ ap regex_names c.deref.ensures) c.in_ok-template.ensures.read in
    let pattern-is : matcher_pattern c.in_ok-matcher.matcher ≡ regex_pattern regex = c.in_ok-matcher.ensures.pattern ∙ ap regex_pattern c.deref-2.ensures in
    IfOk-weaker (λ out. IsWrittenBy template text (find_all_str (matcher_pattern c.in_ok-matcher.matcher) text) (string_bytes out)) _
    (λ out written. written.read (regex_names regex) template_text read
    ∙ ap (λ pattern. replaced_by (template_at c.args.search.now template_text text) text 0 (find_all_str pattern text)) pattern-is)
    _ c.replace_all.ensures.written
