-- ReplaceText: the content, where it is UTF-8, with what its template stands for in the place of each match of a
-- pattern, or with a value in the place of each search text from the left. Another content, or a limit, gives up to
-- failure. Success is 0, failure 1.
use Rattle.std.specs.Prelude.{[], ◌∷◌, List, ℕ, Option, None, option_map, if◌then◌else◌}
use Rattle.std.specs.Str.{is_utf8}
use Rattle.regex.specs.Patterns.{Match, find_all_str}
use Rattle.regex.specs.Replace.{group_bytes, replaced_by}
use Rattle.regex.specs.Strings.{regex_names, regex_pattern}
use Rattle.regex.specs.Templates.{written_after}
use Rattle.flowfile_record.specs.declared.worked.Outcome.{Outcome}
use Rattle.expr_lang.specs.Functions.{with_replaced}
use Rattle.machine_model.specs.declared.kind.Replacement.{Replacement}
use Rattle.machine_model.specs.declared.kind.Replacement.TheVariants.{Regex, Literal}
use Rattle.machine_model.specs.declared.pattern.Pattern.{Pattern}
use Rattle.machine_model.specs.AttributesToJson.{written_on}
use Rattle.machine_model.specs.Making.{TakenFile, alone, as_content, or_given_up}

-- what a template stands for at a match: a dollar sign refers to a group by its number or its name
abbrev pub template_at : Pattern → (template text : List ℕ) → Match → List ℕ
template_at search template text match =
    written_after (regex_names search.regex.value) (group_bytes text match) template 0

abbrev pub text_replaced : Replacement → (text : List ℕ) → List ℕ
text_replaced (Regex search template) text =
    replaced_by (template_at search template text) text 0 (find_all_str (regex_pattern search.regex.value) text)
text_replaced (Literal search value) text = with_replaced search value text

abbrev pub replaced_content : Replacement → (content : List ℕ) → Option (List ℕ)
replaced_content replacement content =
    if is_utf8 content then as_content (text_replaced replacement content) else None

abbrev pub replace_text : Replacement → TakenFile → Outcome
replace_text replacement file =
    or_given_up 1 (file ∷ [])
    (option_map (λ bytes. alone (written_on file.attributes bytes)) (replaced_content replacement file.bytes))
