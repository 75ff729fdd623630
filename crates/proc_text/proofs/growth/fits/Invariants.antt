use Rattle.std.proofs.Common.{◌≡◌, ◌+◌, ◌≤◌, length}
use Rattle.flowfile_record.specs.declared.TheConstants.{CONTENT_MAX}
use Rattle.regex.specs.Locations.{location_count}
use Rattle.regex.specs.Patterns.{find_all_str}
use Rattle.regex.specs.Replace.{replaced_by}
use Rattle.regex.specs.Strings.{capture_matches_haystack, capture_matches_names, captures_left, group_count, regex_names, regex_pattern}
use Rattle.proc_text.specs.Shapes.{written_at}
use Rattle.proc_text.proofs.growth.fits.Given as goal

abbrev pub invariant-matches : goal.invariant-matches
invariant-matches l =
    (l.size ≤ CONTENT_MAX)
    × (capture_matches_haystack l.all ≡ l.text)
    × (capture_matches_names l.all ≡ regex_names l.fn.regex)
    × (location_count l.locations ≡ group_count l.fn.regex)
    × (l.size + length (replaced_by (written_at (regex_names l.fn.regex) l.template l.text) l.text l.last (captures_left l.all))
    ≡ length (replaced_by (written_at (regex_names l.fn.regex) l.template l.text) l.text 0
    (find_all_str (regex_pattern l.fn.regex) l.text)))

abbrev pub decreases-matches : goal.decreases-matches
decreases-matches l = length (captures_left l.all)
