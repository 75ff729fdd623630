use Rattle.std.proofs.Common.{◌≡◌, ℕ, List, [], ◌∷◌, ◌++◌, Some, length, map, string_bytes, sym, ◌∙◌, ap, ap₂}
use Rattle.std.specs.Prelude.{unwrap_or}
use Rattle.std.proofs.lemmas.List.{append_assoc, map-append}
use Rattle.machine_model.specs.declared.limits.TheConstants.{EXTRACTED_MAX}
use Rattle.machine_model.specs.ExtractText.{front_within, value_between}
use Rattle.regex.specs.Patterns.{find_str, span}
use Rattle.regex.specs.Strings.{captures_names, group_count, match_bytes, matcher_pattern, regex_names, regex_pattern}
use Rattle.regex.specs.Writes.{group_of}
use Rattle.proc_text.specs.Extracting.{group_pairs, pair_of}
use Rattle.proc_text.specs.declared.extract_text.Extract.{Extract}
use Rattle.proc_text.proofs.Extracts.{groups-count, main-value, some-found}
use Rattle.proc_text.proofs.extract_text.add_found.Goals as goal

pub returns : goal.returns
returns c =
    let text = c.args.text.now in
    let property = c.args.property.now in
    let regex = property.pattern.regex.value in
    let captures = c.in-Some.captures in
    let before = map pair_of c.args.extracts.now.items in
    let added : Extract = record { name = c.in_ok-name.name; value = c.in_ok-value.value } in
    let value = string_bytes added.value in
    let found = c.in-Some.ensures.found in
    let m = found.0 in
    let same : matcher_pattern c.in_ok-matcher.matcher ≡ regex_pattern regex = c.in_ok-matcher.ensures.pattern ∙ ap regex_pattern c.deref.ensures in
    let finds : find_str (regex_pattern regex) text 0 ≡ Some m = ap (λ p. find_str p text 0) (sym same) ∙ found.1 in
    let count : length (captures_names captures) ≡ group_count regex =
    ap length (c.in-Some.ensures.names ∙ c.in_ok-matcher.ensures.names ∙ ap regex_names c.deref.ensures) ∙ groups-count regex in
    let value-is : value ≡ value_between text (unwrap_or (group_of m 1) (span m)) =
    c.in_ok-value.ensures ∙ ap (λ part. front_within EXTRACTED_MAX (match_bytes part)) c.unwrap_or-main.ensures
    ∙ main-value captures text m found.2 c.get.result c.get_match.result c.get.ensures.found c.get_match.ensures.found c.get.ensures.within c.get_match.ensures.within in
    let named : c.as_str-name.result.now ≡ property.name = c.as_str-name.ensures.text in
    let written : pair_of added ≡ (property.name, value) = ap (λ (name : List ℕ). (name, value)) (c.in_ok-name.ensures.ok ∙ named) in
    ap (map pair_of) c.in_ok-push.ensures.items ∙ map-append pair_of c.add_groups.new.extracts.items (added ∷ [])
    ∙ ap₂ (λ done pair. done ++ pair ∷ []) (c.in_ok-add_groups.ensures ∙ ap (λ name. before ++ group_pairs name captures) named) written
    ∙ append_assoc before (group_pairs property.name captures) ((property.name, value) ∷ [])
    ∙ ap (λ more. before ++ more) (some-found (regex_pattern regex) property.name text value (group_count regex) m captures finds found.2 count value-is)
