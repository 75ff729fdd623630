-- RouteOnContent: as RouteOnAttribute, where a relationship is true if the content is UTF-8 and its pattern finds
-- something in it. A pattern that has to match the whole content says so itself.
use Rattle.std.specs.Prelude.{ℕ, ◌&&◌, Bool, List, length, is_some}
use Rattle.std.specs.Str.{is_utf8}
use Rattle.regex.specs.Patterns.{find_str}
use Rattle.regex.specs.Strings.{regex_pattern}
use Rattle.flowfile_record.specs.declared.worked.Outcome.{Outcome}
use Rattle.machine_model.specs.declared.kind.OwnPattern.{OwnPattern}
use Rattle.machine_model.specs.Making.{TakenFile}
use Rattle.machine_model.specs.RouteOnAttribute.{places_where, routed}

abbrev pub is_found_in : (content : List ℕ) → OwnPattern → Bool
is_found_in content property =
    is_utf8 content && is_some (find_str (regex_pattern property.pattern.regex.value) content 0)

-- the places of the own relationships whose patterns find something
abbrev pub found_places : (content : List ℕ) → List OwnPattern → List ℕ
found_places content own = places_where (is_found_in content) own

abbrev pub route_by_content : List OwnPattern → TakenFile → Outcome
route_by_content own file = routed (length own) file (found_places file.bytes own)
