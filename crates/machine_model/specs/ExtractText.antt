-- ExtractText: of each own pattern that finds something in the content, where it is UTF-8, what its first match and the
-- match's groups matched, as attributes that begin with the property's name. Where no pattern finds anything, or a name
-- is too long, or at a limit, the file goes on as it was to unmatched. Matched is 0, unmatched 1.
use Rattle.std.specs.Prelude.{ℕ, ◌==◌, ◌&&◌, Bool, false, List, [], ◌∷◌, ◌++◌, take, slice_range, codes, decimal, Option, Some, None, is_some, option_map, option_and_then, unwrap_or, if◌then◌else◌}
use Rattle.std.specs.Fmt.Cut.{floor_char_boundary}
use Rattle.std.specs.List.{filter_map, flat_map, list_all, list_any, range_with_len}
use Rattle.std.specs.Option.{option_map_or}
use Rattle.std.specs.Str.{is_utf8}
use Rattle.regex.specs.Patterns.{Match, Re, find_str, span}
use Rattle.regex.specs.Strings.{group_count, regex_pattern}
use Rattle.regex.specs.Writes.{group_of}
use Rattle.flowfile_record.specs.Attributes.{has_key_length}
use Rattle.flowfile_record.specs.declared.worked.Origin.TheVariants.{Taken}
use Rattle.flowfile_record.specs.declared.worked.Outcome.{Outcome}
use Rattle.machine_model.specs.declared.kind.OwnPattern.{OwnPattern}
use Rattle.machine_model.specs.declared.limits.TheConstants.{EXTRACTED_MAX}
use Rattle.machine_model.specs.Making.{TakenFile, alone, passed_on, with_all_set, or_given_up}

-- the longest front of whole characters that has at most so many bytes
abbrev pub front_within : (most : ℕ) → (text : List ℕ) → List ℕ
front_within most text = take (floor_char_boundary text most) text

-- what stands between two places of a text, as the value of an attribute
abbrev pub value_between : (text : List ℕ) → ℕ × ℕ → List ℕ
value_between text (start, end) = front_within EXTRACTED_MAX (slice_range text start end)

-- where a group stands, if it took part; group 0 is the whole match
abbrev pub group_in : Match → (group : ℕ) → Option (ℕ × ℕ)
group_in match group = if group == 0 then Some (span match) else group_of match group

abbrev pub numbered : (name : List ℕ) → (group : ℕ) → List ℕ
numbered name group = name ++ (codes "." ++ decimal group)

-- `name.i` for each group i that took part, and `name` for group 1, or for the whole where that took no part
abbrev pub pairs_at : (name : List ℕ) (groups : ℕ) (text : List ℕ) → Match → List (List ℕ × List ℕ)
pairs_at name groups text match =
    filter_map
    (λ group. option_map (λ places. (numbered name group, value_between text places)) (group_in match group))
    (range_with_len 0 groups)
    ++ (name, value_between text (unwrap_or (group_of match 1) (span match))) ∷ []

-- of a pattern with so many groups, the whole match counted as one
abbrev pub pairs_of : (name : List ℕ) (pattern : Re) (groups : ℕ) (text : List ℕ) → List (List ℕ × List ℕ)
pairs_of name pattern groups text = option_map_or (pairs_at name groups text) (find_str pattern text 0) []

abbrev pub found_pairs : (text : List ℕ) → List OwnPattern → List (List ℕ × List ℕ)
found_pairs text own =
    flat_map
    (λ property. pairs_of property.name (regex_pattern property.pattern.regex.value)
    (group_count property.pattern.regex.value) text) own

abbrev pub any_finds : (text : List ℕ) → List OwnPattern → Bool
any_finds text own =
    list_any (λ property. is_some (find_str (regex_pattern property.pattern.regex.value) text 0)) own

-- the pairs, where each name may be that of an attribute
abbrev pub as_named : List (List ℕ × List ℕ) → Option (List (List ℕ × List ℕ))
as_named pairs = if list_all (λ pair. has_key_length pair.0) pairs then Some pairs else None

abbrev pub extracted : List OwnPattern → TakenFile → Option Outcome
extracted own file =
    if is_utf8 file.bytes && any_finds file.bytes own then
    option_map (λ attributes. alone (passed_on 0 attributes false 0))
    (option_and_then (with_all_set (Taken 0) file.attributes) (as_named (found_pairs file.bytes own)))
    else None

abbrev pub extract_text : List OwnPattern → TakenFile → Outcome
extract_text own file = or_given_up 1 (file ∷ []) (extracted own file)
