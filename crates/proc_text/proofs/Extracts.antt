-- What an ExtractText finds is what its definition says.
use Rattle.std.proofs.Common.{◌≡◌, ℕ, zero, suc, ◌+◌, ◌<◌, ◌≤◌, ◌==◌, Bool, true, false, cond, inl, inr, List, [], ◌∷◌, ◌++◌, length, take, get_or, Option, None, Some, refl, sym, ◌∙◌, ap, ap₂, subst, arith, add-zero, ne_eqb, length-append}
use Rattle.std.specs.Prelude.{◌||◌, IfSome, is_some, not, slice_index, option_map, string_bytes, unwrap_or}
use Rattle.std.specs.Option.{option_map_or}
use Rattle.std.specs.Fmt.{is_char_start}
use Rattle.std.specs.Fmt.Cut.{floor_char_boundary}
use Rattle.std.specs.List.{cons_option, filter_map, flat_map, range_with_len}
use Rattle.std.specs.Str.{IsCharBoundary}
use Rattle.std.proofs.lemmas.Bool.{cases_lt, cond-false, false≢true}
use Rattle.std.proofs.lemmas.Bool.Decides.{nat_tests}
use Rattle.std.proofs.lemmas.Grind.{flat_map-append}
use Rattle.std.proofs.lemmas.List.{append-nil, append_assoc, get_or_past, length-map, take_all, take_more}
use Rattle.std.proofs.lemmas.List.Elements.{filter_map-append}
use Rattle.regex.specs.Patterns.{Match as Matched, Re, find_str, span}
use Rattle.regex.specs.Search.{group_span}
use Rattle.regex.specs.Strings.{IsCapturesOf, captures_haystack, captures_names, captures_span, group_count, match_bytes, match_haystack, match_span, regex_names, regex_pattern}
use Rattle.regex.specs.Writes.{group_of}
use Rattle.regex.specs.declared.string.captures.Captures.{Captures}
use Rattle.regex.specs.declared.string.matcher.Match.{Match}
use Rattle.regex.specs.declared.string.regex.Regex.{Regex}
use Rattle.machine_model.specs.declared.kind.OwnPattern.{OwnPattern}
use Rattle.machine_model.specs.declared.limits.TheConstants.{EXTRACTED_MAX}
use Rattle.machine_model.specs.ExtractText.{any_finds, found_pairs, front_within, group_in, numbered, pairs_at, pairs_of, value_between}
use Rattle.proc_text.specs.Extracting.{found_by, group_pair, group_pairs}

-- ---- the front of whole characters

abbrev IsNearest : List ℕ → ℕ → ℕ → Type 0
IsNearest text most cut = (i : ℕ) → cut < i → i ≤ most → ¬ (IsCharBoundary text i)

at-end : (text : List ℕ) → IsCharBoundary text (length text)
at-end text = (omega arith, λ below high. absurd (omega (arith, below)))

pub front-is : (text : List ℕ) (most cut : ℕ) → cut ≤ most → IsCharBoundary text cut → IsNearest text most cut → take cut text ≡ front_within most text
unfolding floor_char_boundary
front-is text zero cut within cuts nearest =
    let none : cut ≡ 0 = omega arith in
    ap (λ n. take n text) none
front-is text (suc most) cut within cuts nearest =
    of_start (λ below. front-is text most cut below cuts (λ i lower_than low. nearest i lower_than (omega arith))) (is_char_start (slice_index text (suc most))) refl
  where
    past : is_char_start (slice_index text (suc most)) ≡ true → length text ≤ suc most → take cut text ≡ take (suc most) text
    past first fits = elim (cases_lt cut (length text)) [
      | inl below ↦ absurd (nearest (length text) below fits (at-end text))
      | inr above ↦ take_all cut text above ∙ sym (take_all (suc most) text fits)
    ]

    there : is_char_start (slice_index text (suc most)) ≡ true → suc most < length text → take cut text ≡ take (suc most) text
    there first fits =
        let starts : IsCharBoundary text (suc most) = (omega arith, λ below high. grind (arith, nat_tests)) in
        elim (cases_lt cut (suc most)) [
          | inl below ↦ absurd (nearest (suc most) below (omega arith) starts)
          | inr above ↦ (let same : cut ≡ suc most = omega arith in ap (λ n. take n text) same)
        ]

    lower : is_char_start (slice_index text (suc most)) ≡ false → IsCharBoundary text (suc most) → ⊥
    lower inside starts = elim (cases_lt (suc most) (length text)) [
      | inl below ↦ (let high : 128 ≤ slice_index text (suc most) → 192 ≤ slice_index text (suc most) = starts.1 below in grind (arith, nat_tests))
      | inr above ↦ false≢true (sym inside ∙ ap is_char_start (get_or_past text (suc most) 0 above))
    ]

    of_start : (cut ≤ most → take cut text ≡ front_within most text) → (starts : Bool) → is_char_start (slice_index text (suc most)) ≡ starts → take cut text ≡ take (cond starts (suc most) (floor_char_boundary text most)) text
    of_start before true first = elim (cases_lt (suc most) (length text)) [
      | inl below ↦ there first below
      | inr above ↦ past first above
    ]
    of_start before false inside = elim (cases_lt most cut) [
      | inl above ↦ (let same : cut ≡ suc most = omega arith in absurd (lower inside (subst (IsCharBoundary text) same cuts)))
      | inr below ↦ before below
    ]

-- ---- a match and its groups

pub span-in : (text : List ℕ) (m : Matched) (captures : Captures) → IsCapturesOf text m captures → (group : ℕ) → captures_span captures group ≡ group_in m group
unfolding group_span
span-in text m captures are zero = ap Some are.1.whole_is
span-in text m captures are (suc group) =
    let later : (suc group == 0) ≡ false = ne_eqb (suc group) 0 (λ e. omega arith) in
    are.2 (suc group) (omega arith) ∙ sym (cond-false (suc group == 0) (Some (span m)) (group_of m (suc group)) later)

abbrev pair_in : (name text : List ℕ) → Matched → ℕ → Option (List ℕ × List ℕ)
pair_in name text m group = option_map (λ places. (numbered name group, value_between text places)) (group_in m group)

groups-are : (name text : List ℕ) (m : Matched) (captures : Captures) → IsCapturesOf text m captures → (groups : List ℕ) → filter_map (group_pair name captures) groups ≡ filter_map (pair_in name text m) groups
groups-are name text m captures are [] = refl
groups-are name text m captures are (group ∷ groups) =
    ap₂ cons_option
    (ap₂ (λ (text : List ℕ) (o : Option (ℕ × ℕ)). option_map (λ places. (numbered name group, value_between text places)) o) are.0 (span-in text m captures are group))
    (groups-are name text m captures are groups)

range-more : (a n : ℕ) → range_with_len a (n + 1) ≡ range_with_len a n ++ (a + n) ∷ []
range-more a zero = ap (λ m. m ∷ []) (sym (add-zero a))
range-more a (suc n) =
    let count : suc n + 1 ≡ suc (n + 1) = omega arith in
    let last : (a + 1) + n ≡ a + suc n = omega arith in
    ap (range_with_len a) count ∙ ap (λ rest. a ∷ rest) (range-more (a + 1) n) ∙ ap (λ m. a ∷ (range_with_len (a + 1) n ++ m ∷ [])) last

-- one more group
more-groups : (name : List ℕ) (captures : Captures) (n : ℕ) → filter_map (group_pair name captures) (range_with_len 0 (n + 1)) ≡ filter_map (group_pair name captures) (range_with_len 0 n) ++ cons_option (group_pair name captures n) []
more-groups name captures n =
    let last : 0 + n ≡ n = omega arith in
    ap (filter_map (group_pair name captures)) (range-more 0 n ∙ ap (λ m. range_with_len 0 n ++ m ∷ []) last)
    ∙ filter_map-append (group_pair name captures) (range_with_len 0 n) (n ∷ [])

pub group-step : (name : List ℕ) (captures : Captures) (n : ℕ) (before done next : List (List ℕ × List ℕ)) (pair : Option (List ℕ × List ℕ)) → done ≡ before ++ filter_map (group_pair name captures) (range_with_len 0 n) → group_pair name captures n ≡ pair
    → next ≡ done ++ cons_option pair [] → next ≡ before ++ filter_map (group_pair name captures) (range_with_len 0 (n + 1))
group-step name captures n before done next pair so_far pair-is is =
    let groups = filter_map (group_pair name captures) (range_with_len 0 n) in
    is ∙ ap (λ d. d ++ cons_option pair []) so_far ∙ append_assoc before groups (cons_option pair [])
    ∙ ap (λ more. before ++ more) (ap (λ o. groups ++ cons_option o []) (sym pair-is) ∙ sym (more-groups name captures n))

pub part-pair : (name : List ℕ) (captures : Captures) (n : ℕ) (found : Option Match) (part : Match) (written : List ℕ × List ℕ) → option_map match_span found ≡ captures_span captures n → found ≡ Some part
    → match_haystack part ≡ captures_haystack captures → written ≡ (numbered name n, front_within EXTRACTED_MAX (match_bytes part)) → group_pair name captures n ≡ Some written
part-pair name captures n found part written spans is within written-is =
    let pair : List ℕ → ℕ × ℕ → List ℕ × List ℕ = λ text places. (numbered name n, value_between text places) in
    ap (option_map (pair (captures_haystack captures))) (sym spans ∙ ap (option_map match_span) is)
    ∙ ap (λ text. Some (pair text (match_span part))) (sym within) ∙ ap Some (sym written-is)

pub no-pair : (name : List ℕ) (captures : Captures) (n : ℕ) (found : Option Match) → option_map match_span found ≡ captures_span captures n → found ≡ None → group_pair name captures n ≡ None
no-pair name captures n found spans is =
    ap (option_map (λ places. (numbered name n, value_between (captures_haystack captures) places))) (sym spans ∙ ap (option_map match_span) is)

-- ---- what a property's pattern finds

pub groups-count : (regex : Regex) → length (regex_names regex) ≡ group_count regex
groups-count regex = length-map regex.pattern.names.items (option_map string_bytes) ∙ omega arith

pub none-found : (pattern : Re) (name text : List ℕ) (groups : ℕ) → find_str pattern text 0 ≡ None → [] ≡ pairs_of name pattern groups text
none-found pattern name text groups none = rw none refl

main-is : (captures : Captures) (text : List ℕ) (m : Matched) → IsCapturesOf text m captures → (group : Option Match) (whole : Match) → option_map match_span group ≡ captures_span captures 1 → Some (match_span whole) ≡ captures_span captures 0
    → match_span (unwrap_or group whole) ≡ unwrap_or (group_of m 1) (span m)
main-is captures text m are None whole first all =
    let none : group_of m 1 ≡ None = sym (span-in text m captures are 1) ∙ sym first in
    let same : Some (match_span whole) ≡ Some (span m) = all ∙ span-in text m captures are 0 in
    let spans : match_span whole ≡ span m = cc in
    spans ∙ ap (λ (o : Option (ℕ × ℕ)). unwrap_or o (span m)) (sym none)
main-is captures text m are (Some group) whole first all =
    let some : group_of m 1 ≡ Some (match_span group) = sym (span-in text m captures are 1) ∙ sym first in
    ap (λ (o : Option (ℕ × ℕ)). unwrap_or o (span m)) (sym some)

either-in : (text : List ℕ) (group : Option Match) (whole : Match) → IfSome group (λ part. match_haystack part ≡ text) → match_haystack whole ≡ text → match_haystack (unwrap_or group whole) ≡ text
either-in text None whole part all = all
either-in text (Some group) whole part all = part

-- the value of the property's own name
pub main-value : (captures : Captures) (text : List ℕ) (m : Matched) → IsCapturesOf text m captures → (group : Option Match) (whole : Match) → option_map match_span group ≡ captures_span captures 1 → Some (match_span whole) ≡ captures_span captures 0
    → IfSome group (λ part. match_haystack part ≡ captures_haystack captures) → match_haystack whole ≡ captures_haystack captures
    → front_within EXTRACTED_MAX (match_bytes (unwrap_or group whole)) ≡ value_between text (unwrap_or (group_of m 1) (span m))
main-value captures text m are group whole first all part within =
    let main = unwrap_or group whole in
    let hay : match_haystack main ≡ text = either-in (captures_haystack captures) group whole part within ∙ are.0 in
    ap₂ (λ (text : List ℕ) (places : ℕ × ℕ). value_between text places) hay (main-is captures text m are group whole first all)

pub some-found : (pattern : Re) (name text value : List ℕ) (groups : ℕ) (m : Matched) (captures : Captures) → find_str pattern text 0 ≡ Some m → IsCapturesOf text m captures → length (captures_names captures) ≡ groups
    → value ≡ value_between text (unwrap_or (group_of m 1) (span m)) → group_pairs name captures ++ (name, value) ∷ [] ≡ pairs_of name pattern groups text
some-found pattern name text value groups m captures found are count value-is =
    ap₂ (λ pairs value. pairs ++ (name, value) ∷ [])
    (ap (λ n. filter_map (group_pair name captures) (range_with_len 0 n)) count ∙ groups-are name text m captures are (range_with_len 0 groups)) value-is
    ∙ ap (λ (o : Option Matched). option_map_or (pairs_at name groups text) o []) (sym found)

-- ---- what all of them find

pub more-found : (text : List ℕ) (own : List OwnPattern) (i : ℕ) (property : OwnPattern) → i < length own → property ≡ get_or own i property → flat_map (found_by text) (take i own) ++ found_by text property ≡ flat_map (found_by text) (take (i + 1) own)
more-found text own i property within is =
    let more : take (i + 1) own ≡ take i own ++ property ∷ [] = take_more own i property within ∙ ap (λ p. take i own ++ p ∷ []) (sym is) in
    ap (λ pairs. flat_map (found_by text) (take i own) ++ pairs) (sym (append-nil (found_by text property)))
    ∙ sym (flat_map-append (found_by text) (take i own) (property ∷ [])) ∙ ap (flat_map (found_by text)) (sym more)

pub all-found : (text : List ℕ) (own : List OwnPattern) (n : ℕ) → length own ≤ n → flat_map (found_by text) (take n own) ≡ found_pairs text own
all-found text own n all = ap (flat_map (found_by text)) (take_all n own all)

-- where any finds something there is an attribute
one-finds : (name text : List ℕ) (pattern : Re) (groups : ℕ) (found : Option Matched) (rest : List (List ℕ × List ℕ)) (any : Bool) → any ≡ not (length rest == 0)
    → (is_some found || any) ≡ not (length (option_map_or (pairs_at name groups text) found [] ++ rest) == 0)
one-finds name text pattern groups None rest any is = is
one-finds name text pattern groups (Some m) rest any is =
    let pairs = filter_map (pair_in name text m) (range_with_len 0 groups) in
    let main : List ℕ × List ℕ = (name, value_between text (unwrap_or (group_of m 1) (span m))) in
    let some : 0 < length ((pairs ++ main ∷ []) ++ rest) = omega (arith, length-append (pairs ++ main ∷ []) rest, length-append pairs (main ∷ [])) in
    sym (ap not (ne_eqb (length ((pairs ++ main ∷ []) ++ rest)) 0 (λ e. omega arith)))

pub any-found : (text : List ℕ) (own : List OwnPattern) → any_finds text own ≡ not (length (found_pairs text own) == 0)
any-found text [] = refl
any-found text (property ∷ own) =
    let regex = property.pattern.regex.value in
    one-finds property.name text (regex_pattern regex) (group_count regex) (find_str (regex_pattern regex) text 0) (found_pairs text own) (any_finds text own) (any-found text own)
