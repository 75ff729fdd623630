-- What an ExtractText finds in a content, and what it sets.
use Rattle.std.specs.Prelude.{ℕ, List, length, false, Option, Some, None, option_and_then, option_map, string_bytes}
use Rattle.std.specs.List.{filter_map, range_with_len}
use Rattle.regex.specs.Strings.{captures_haystack, captures_names, captures_span, group_count, regex_pattern}
use Rattle.regex.specs.declared.string.captures.Captures.{Captures}
use Rattle.flowfile_record.specs.Attributes.{AttributeMap}
use Rattle.flowfile_record.specs.declared.worked.Origin.TheVariants.{Taken}
use Rattle.flowfile_record.specs.declared.worked.Outcome.{Outcome}
use Rattle.machine_model.specs.declared.kind.OwnPattern.{OwnPattern}
use Rattle.machine_model.specs.ExtractText.{as_named, numbered, pairs_of, value_between}
use Rattle.machine_model.specs.Making.{alone, passed_on, with_all_set}
use Rattle.proc_text.specs.declared.extract_text.Extract.{Extract}

-- an attribute's name and value
abbrev pub pair_of : Extract → List ℕ × List ℕ
pair_of extract = (string_bytes extract.name, string_bytes extract.value)

-- what a property's pattern finds in a text
abbrev pub found_by : (text : List ℕ) → OwnPattern → List (List ℕ × List ℕ)
found_by text property =
    pairs_of property.name (regex_pattern property.pattern.regex.value) (group_count property.pattern.regex.value) text

-- each group that took part, under a name with its number
abbrev pub group_pair : (name : List ℕ) → Captures → (group : ℕ) → Option (List ℕ × List ℕ)
group_pair name captures group =
    option_map (λ places. (numbered name group, value_between (captures_haystack captures) places))
    (captures_span captures group)

abbrev pub group_pairs : (name : List ℕ) → Captures → List (List ℕ × List ℕ)
group_pairs name captures = filter_map (group_pair name captures) (range_with_len 0 (length (captures_names captures)))

-- the attributes with all of these set, where each name may be that of an attribute
abbrev pub with_named : AttributeMap → List (List ℕ × List ℕ) → Option AttributeMap
with_named attributes pairs = option_and_then (with_all_set (Taken 0) attributes) (as_named pairs)

-- the taken file with these attributes to matched, or where it may not have them, as it was to unmatched
abbrev pub matched_with : AttributeMap → Option AttributeMap → Outcome
matched_with before (Some attributes) = alone (passed_on 0 attributes false 0)
matched_with before None = alone (passed_on 0 before false 1)
