-- What the groups of a match are, as a search told them, and what a match adds to a text whose matches are replaced.
use Rattle.std.proofs.Common.{◌≡◌, ℕ, zero, suc, ◌+◌, ◌-◌, ◌*◌, ◌<◌, ◌≤◌, true, List, [], ◌∷◌, ◌++◌, length, drop, take, Option, None, Some, IsUtf8, option_map, string_bytes, refl, sym, ◌∙◌, ap, ap₂, subst, ⊎_elim, arith, slice_range, length-append, le-leb, ne_eqb, false}
use Rattle.std.specs.Prelude.{is_some, nat_le}
use Rattle.std.proofs.lemmas.Bool.{cases_lt, cond-false, lt-leb}
use Rattle.std.proofs.lemmas.List.{get_or_past, length-map, take_rest}
use mathlib.Core.Path.{fun_ext}
use Rattle.std.proofs.lemmas.List.FromFn.{length-map-range_with_len}
use Rattle.flowfile_record.specs.declared.TheConstants.{CONTENT_MAX}
use Rattle.regex_hir.specs.Find.{Match}
use Rattle.regex_vm.specs.Found.{group_cells, span}
use Rattle.regex.proofs.CapturesLemmas.{groups_in_text, next_is_leftmost}
use Rattle.regex.proofs.GroupLemmas.{HasRoom, no_span_past_cells}
use Rattle.regex.proofs.RoomLemmas.{engine_has_room}
use Rattle.regex.specs.Locations.{AreLocationsOf, location, location_count}
use Rattle.regex.specs.Replace.{bytes_of, group_bytes, replaced_by}
use Rattle.regex.specs.Search.{Shows, group_span, next_match}
use Rattle.regex.specs.Strings.{group_count, matcher_names, matcher_pattern, regex_names}
use Rattle.regex.specs.Views.{engine_width}
use Rattle.regex.specs.Writes.{group_of}
use Rattle.proc_text.specs.Shapes.{IsShapeOf, IsWithin, group_sizes, written_at}
use Rattle.proc_text.specs.declared.template.Shape.{Shape}
use Rattle.regex.specs.declared.locations.CaptureLocations.{CaptureLocations}
use Rattle.regex.specs.declared.string.matcher.Matcher.{Matcher}
use Rattle.regex.specs.declared.string.regex.Regex.{Regex}

cells-count : (m : Match) (width : ℕ) → length (group_cells m width) ≡ width
unfolding group_cells
cells-count m width = length-map-range_with_len _ 0 width

-- a group past those of the pattern is in no match
group-beyond : (matcher : Matcher) (hay : List ℕ) (after : ℕ) (m : Match) (n : ℕ) → IsUtf8 hay → next_match true (matcher_pattern matcher) hay after ≡ Some m
    → length matcher.engine.names.now ≤ n → group_of m n ≡ None
group-beyond matcher hay after m n utf8 next past =
    let width = engine_width matcher.engine in
    let cells = group_cells m width in
    let count : length cells ≡ width = cells-count m width in
    let shows : Shows m (span m) cells = record { whole_is = refl; cells_are = ap (group_cells m) (sym count) } in
    let room : HasRoom (matcher_pattern matcher) (length cells) = subst (HasRoom (matcher_pattern matcher)) (sym count) (engine_has_room matcher.engine) in
    let found = next_is_leftmost true (matcher_pattern matcher) hay after m next in
    let low : 1 ≤ n = omega (arith, matcher.engine.named, past) in
    let wide : length cells < 2 * n = omega (arith, matcher.engine.named, past, count) in
    sym (groups_in_text (matcher_pattern matcher) hay m (span m) cells shows room utf8 matcher.whole_characters found.0 found.1 n low)
    ∙ no_span_past_cells true hay (span m) cells n low wide

-- what a search told of each group
group-told : (matcher : Matcher) (hay : List ℕ) (after : ℕ) (m : Match) (locations : CaptureLocations) → IsUtf8 hay → next_match true (matcher_pattern matcher) hay after ≡ Some m
    → AreLocationsOf m locations → location_count locations ≡ length matcher.engine.names.now → (n : ℕ) → group_bytes hay m n ≡ bytes_of hay (location locations n)
group-told matcher hay after m locations utf8 next are count zero =
    let some : 0 < location_count locations = omega (arith, matcher.engine.named, count) in
    ap (bytes_of hay) (sym (are.0 some))
group-told matcher hay after m locations utf8 next are count (suc n) =
    ap (bytes_of hay) (cond-false _ _ _ (ne_eqb (suc n) 0 (omega arith)))
    ∙ ap (bytes_of hay) (⊎_elim
    (λ (within : suc n < location_count locations). sym (are.1 (suc n) (omega arith) within))
    (λ (past : location_count locations ≤ suc n).
    let beyond : length matcher.engine.names.now ≤ suc n = omega (arith, past, count) in
    let outside : length locations.spans.items ≤ suc n = omega (arith, past, locations.spans.ok) in
    group-beyond matcher hay after m (suc n) utf8 next beyond ∙ sym (get_or_past locations.spans.items (suc n) None outside))
    (cases_lt (suc n) (location_count locations)))

sizes-alike : (f g : ℕ → List ℕ) → ((n : ℕ) → f n ≡ g n) → (groups : List ℕ) → group_sizes f groups ≡ group_sizes g groups
sizes-alike f g same groups = ap (λ text_of. group_sizes text_of groups) (fun_ext same)

-- how much a template writes at a match that a search told
pub match-size : (regex : Regex) (matcher : Matcher) (text : List ℕ) (template : List ℕ) (shape : Shape) (after : ℕ) (m : Match) (locations : CaptureLocations) → IsUtf8 text
    → matcher_names matcher ≡ regex_names regex → location_count locations ≡ group_count regex
    → next_match true (matcher_pattern matcher) text after ≡ Some m → AreLocationsOf m locations → IsShapeOf (regex_names regex) template shape
    → length (written_at (regex_names regex) template text m) ≡ shape.own + group_sizes (λ n. bytes_of text (location locations n)) shape.groups.items
match-size regex matcher text template shape after m locations utf8 named counted next are is =
    let names = matcher.engine.names.now in
    let same : length (matcher_names matcher) ≡ length (regex_names regex) = ap length named in
    let count : location_count locations ≡ length names =
    omega (arith, same, counted, length-map names (option_map string_bytes), length-map regex.pattern.names.items (option_map string_bytes), regex.pattern.names.ok) in
    is (group_bytes text m)
    ∙ ap (λ n. shape.own + n) (sizes-alike (group_bytes text m) (λ n. bytes_of text (location locations n))
    (group-told matcher text after m locations utf8 next are count) shape.groups.items)

-- ---- what a match adds

pub match-adds : (written : Match → List ℕ) (hay : List ℕ) (at : ℕ) (m : Match) (rest : List Match)
    → length (replaced_by written hay at (m ∷ rest)) ≡ (length (slice_range hay at m.start) + length (written m)) + length (replaced_by written hay m.trace.end rest)
unfolding replaced_by
match-adds written hay at m rest =
    let front = slice_range hay at m.start in
    length-append (front ++ written m) (replaced_by written hay m.trace.end rest)
    ∙ ap (λ n. n + length (replaced_by written hay m.trace.end rest)) (length-append front (written m))

pub rest-adds : (written : Match → List ℕ) (hay : List ℕ) (at : ℕ) → length (replaced_by written hay at []) ≡ length (slice_range hay at (length hay))
unfolding replaced_by
rest-adds written hay at = ap length (sym (take_rest hay at))

-- ---- the loop over the matches

-- a size, and what the matches and the text behind the last one add to it
abbrev pub size_behind : (written : Match → List ℕ) (text : List ℕ) (size last : ℕ) → List Match → ℕ
size_behind written text size last matches = size + length (replaced_by written text last matches)

pub size-more : (written : Match → List ℕ) (text : List ℕ) (size last : ℕ) (m : Match) (matches rest : List Match) (more : ℕ)
    → matches ≡ m ∷ rest → more ≡ (size + length (slice_range text last m.start)) + length (written m)
    → size_behind written text more m.trace.end rest ≡ size_behind written text size last matches
size-more written text size last m matches rest more first is =
    let step = match-adds written text last m rest in
    let whole : length (replaced_by written text last matches) ≡ length (replaced_by written text last (m ∷ rest)) = ap (λ ms. length (replaced_by written text last ms)) first in
    omega (arith, step, whole, is)

pub too-long : (size total : ℕ) → size ≡ total → CONTENT_MAX < size → false ≡ nat_le total CONTENT_MAX
too-long size total same long = sym (subst (λ n. nat_le n CONTENT_MAX ≡ false) same (lt-leb size CONTENT_MAX long))

pub as-long : (size total : ℕ) (grown : Option ℕ) → size ≡ total → IsWithin size grown → is_some grown ≡ nat_le total CONTENT_MAX
as-long size total (Some n) same within =
    let short : size ≤ CONTENT_MAX = omega (arith, within.0, within.1) in
    sym (subst (λ n. nat_le n CONTENT_MAX ≡ true) same (le-leb size CONTENT_MAX short))
as-long size total None same long = too-long size total same long
