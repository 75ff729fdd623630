-- What the processors make that read a content as text, with patterns as they are read.
use Rattle.std.proofs.Common.{◌≡◌, ℕ, zero, suc, ◌+◌, ◌*◌, ◌<◌, ◌≤◌, ◌==◌, ◌&&◌, ◌||◌, Bool, true, false, List, [], ◌∷◌, ◌++◌, map, drop, length, get_or, refl, sym, ap, ap₂, ◌∙◌, arith, le-leb, append-nil}
use Rattle.std.specs.Prelude.{Option, Some, None, codes, filter, is_some, nat_lt, option_map, option_and_then, replicate, slice_range, string_bytes, unwrap_or, if◌then◌else◌}
use Rattle.std.specs.Coded.{coded_ℕ, coded_list, coded×, coded_bool}
use Rattle.std.specs.FinMap.{insert}
use Rattle.std.specs.Fmt.{digits}
use Rattle.std.specs.Fmt.Cut.{floor_char_boundary}
use Rattle.std.specs.List.{enumerate_from, filter_map, list_all, range_with_len}
use Rattle.std.specs.Option.{option_map_or}
use Rattle.std.specs.Str.{chars, is_utf8}
use Rattle.std.proofs.Math.Logic.{∥∥₁_elim}
use Rattle.std.proofs.lemmas.Bool.{and_parts, ltb-true}
use Rattle.std.proofs.lemmas.List.{length-map}
use base.Stored.{Coded-set}
use Rattle.flowfile_record.specs.Attributes.{AttributeMap, encoded_size}
use Rattle.flowfile_record.specs.declared.worked.Origin.TheVariants.{Taken}
use Rattle.flowfile_record.specs.declared.worked.Outcome.{Outcome}
use Rattle.regex.specs.Patterns.{Re, Match, SameCaptures, cat, char_in, default_config, find_str, find_all_str, group, in_ranges, is_digit_char, literal, members, optional, slot_of}
use Rattle.regex.specs.Replace.{bytes_of, group_bytes, replaced_by}
use Rattle.regex.specs.Strings.{group_count, regex_names, regex_pattern, IsReadFromSource}
use Rattle.regex.specs.Templates.{written_after}
use Rattle.regex.specs.Writes.{both}
use Rattle.regex.proofs.ForCallers.{IsNamedAs, alike_as_written, find_all_alike, names_as_written, spans}
use Rattle.regex.proofs.OnLiterals.{IsReadAs, regex_on_literals, same_refl, alone as only, alt-fail, alt_cong, cat-empty, cat_cong, same_group, ◌then◌}
use Rattle.regex_syntax.proofs.SetLemmas.{in_ranges-members}
use Rattle.ucd_perl.proofs.Computing.{ucd_perl}
use Rattle.regex_hir.specs.Find.{matches_from, first_from}
use Rattle.regex_hir.specs.Re.{attempt}
use Rattle.regex_hir.specs.Text.{char_at, has_bytes_at, is_boundary}
use Rattle.machine_model.specs.declared.kind.OwnPattern.{OwnPattern}
use Rattle.machine_model.specs.declared.kind.Replacement.TheVariants.{Regex}
use Rattle.machine_model.specs.declared.pattern.Pattern.{Pattern}
use Rattle.machine_model.specs.AttributesToJson.{written_on}
use Rattle.machine_model.specs.ExtractText.{any_finds, as_named, found_pairs, numbered, pairs_at, pairs_of, value_between}
use Rattle.machine_model.specs.Making.{TakenFile, alone, as_content, may_have, or_given_up, passed_on, with_all_set}
use Rattle.machine_model.specs.ReplaceText.{text_replaced}
use Rattle.machine_model.specs.RouteOnAttribute.{routed}
use Rattle.machine_model.specs.RouteOnContent.{is_found_in}
use Rattle.machine_model.proofs.OneOutcome.{insert-size, no-size}
use Rattle.machine_examples.specs.Texts.{ReadFrom, digit, own_of, no_attributes, no_text, passed_to, with_digit, DigitIsExtracted, XIsSecond, NoDigitIsUnmatched, LongNameIsUnmatched, NoTextIsUnmatched, ValueIs, NoTextIsRoutedToUnmatched, SecondFinds, LiteralReplaces, NoTextFails, TemplateReplaces}

-- ---- what a caller sees of a match: its start, its end and its slots

abbrev Seen : Type 0
Seen = ℕ × ℕ × (ℕ → Option ℕ)

abbrev group_seen : Seen → ℕ → Option (ℕ × ℕ)
group_seen seen n = both (seen.2 (2 * n)) (seen.2 (2 * n + 1))

abbrev first : {A : Type 0} → List A → Option A
first [] = None
first (x ∷ xs) = Some x

first-found : (search : ℕ → Option Match) (n : ℕ) (o : Option Match) → first (map spans (matches_from search (suc n) o)) ≡ option_map spans o
unfolding matches_from
first-found search n None = refl
first-found search n (Some m) = refl

small-bytes : (bytes : List ℕ) → list_all (λ b. nat_lt b 256) bytes ≡ true → (k : ℕ) → get_or bytes k 0 < 256
small-bytes [] is k = omega arith
small-bytes (b ∷ bytes) is zero = ltb-true b 256 (and_parts (nat_lt b 256) (list_all (λ b. nat_lt b 256) bytes) is).0
small-bytes (b ∷ bytes) is (suc k) = small-bytes bytes (and_parts (nat_lt b 256) (list_all (λ b. nat_lt b 256) bytes) is).1 k

is-some-seen : (o : Option Match) → is_some o ≡ is_some (option_map spans o)
is-some-seen None = refl
is-some-seen (Some m) = refl

-- a pattern of this text finds what the tree that is read finds
module _ (pattern : Pattern) (source : List ℕ) (re : Re) (read : ReadFrom source pattern) (written : IsReadAs default_config source re)
    (from_source : IsReadFromSource pattern.regex.value) (hay : List ℕ) (bytes : list_all (λ b. nat_lt b 256) hay ≡ true) where
  alike : SameCaptures (regex_pattern pattern.regex.value) re
  alike = alike_as_written pattern.regex.value default_config source (pattern.source ∙ read) pattern.options from_source re written

  all-seen : map spans (find_all_str (regex_pattern pattern.regex.value) hay) ≡ map spans (find_all_str re hay)
  all-seen = find_all_alike alike hay (small-bytes hay bytes) true

  one-seen : option_map spans (find_str (regex_pattern pattern.regex.value) hay 0) ≡ option_map spans (find_str re hay 0)
  one-seen =
      let search = find_str (regex_pattern pattern.regex.value) hay in
      let other = find_str re hay in
      let more : length hay + 1 ≡ suc (length hay) = omega arith in
      sym (first-found search (length hay) (search 0)) ∙ sym (ap (λ n. first (map spans (matches_from search n (search 0)))) more)
      ∙ ap first all-seen ∙ ap (λ n. first (map spans (matches_from other n (other 0)))) more ∙ first-found other (length hay) (other 0)

  pub is-found : is_some (find_str (regex_pattern pattern.regex.value) hay 0) ≡ is_some (find_str re hay 0)
  is-found = is-some-seen (find_str (regex_pattern pattern.regex.value) hay 0) ∙ ap is_some one-seen ∙ sym (is-some-seen (find_str re hay 0))

-- ---- what ExtractText finds, of what is seen

abbrev pairs_seen : (name : List ℕ) → (groups : ℕ) → (text : List ℕ) → Seen → List (List ℕ × List ℕ)
pairs_seen name groups text seen =
    filter_map
    (λ n. option_map (λ (places : ℕ × ℕ). (numbered name n, value_between text places)) (if n == 0 then Some (seen.0, seen.1) else group_seen seen n))
    (range_with_len 0 groups)
    ++ (name, value_between text (unwrap_or (group_seen seen 1) (seen.0, seen.1))) ∷ []

found-seen : (name : List ℕ) (groups : ℕ) (text : List ℕ) (o : Option Match) → option_map_or (pairs_at name groups text) o [] ≡ option_map_or (pairs_seen name groups text) (option_map spans o) []
found-seen name groups text None = refl
found-seen name groups text (Some m) = refl

-- ---- what ReplaceText writes, of what is seen

abbrev bytes_seen : (text : List ℕ) → Seen → ℕ → List ℕ
bytes_seen text seen n = bytes_of text (if n == 0 then Some (seen.0, seen.1) else group_seen seen n)

abbrev replaced_seen : List (Option (List ℕ)) → (template text : List ℕ) → ℕ → List Seen → List ℕ
replaced_seen names template text at [] = drop at text
replaced_seen names template text at (seen ∷ more) =
    (slice_range text at seen.0 ++ written_after names (bytes_seen text seen) template 0) ++ replaced_seen names template text seen.1 more

replaced-seen : (names : List (Option (List ℕ))) (template text : List ℕ) (at : ℕ) (ms : List Match)
    → replaced_by (λ m. written_after names (group_bytes text m) template 0) text at ms ≡ replaced_seen names template text at (map spans ms)
unfolding replaced_by
replaced-seen names template text at [] = refl
replaced-seen names template text at (m ∷ ms) =
    ap (λ rest. (slice_range text at m.start ++ written_after names (group_bytes text m) template 0) ++ rest) (replaced-seen names template text m.trace.end ms)

-- ---- a digit, and maybe an x

abbrev digit_tree : Re
digit_tree = cat (group 1 (char_in (members is_digit_char))) (optional true (group 2 (literal (codes "x"))))

-- the class at the characters of the tries
a-is-none : in_ranges (members is_digit_char) 97 ≡ false
unfolding ucd_perl
a-is-none = in_ranges-members is_digit_char 97 ∙ refl

b-is-none : in_ranges (members is_digit_char) 98 ≡ false
unfolding ucd_perl
b-is-none = in_ranges-members is_digit_char 98 ∙ refl

seven-is-one : in_ranges (members is_digit_char) 55 ≡ true
unfolding ucd_perl
seven-is-one = in_ranges-members is_digit_char 55 ∙ refl

digit-read : IsReadAs default_config digit digit_tree
unfolding regex_on_literals
digit-read =
    alt-fail _ then cat_cong (same_group 1 (only (same_refl _))) (cat-empty _ then alt_cong (cat-empty _ then same_group 2 (only (same_refl _))) (same_refl _))

abbrev letter_tree : Re
letter_tree = literal (codes "y")

letter-read : IsReadAs default_config (codes "y") letter_tree
unfolding regex_on_literals
letter-read = only (same_refl _)

letter-missing : is_some (find_str letter_tree (codes "a7") 0) ≡ false
unfolding regex_on_literals find_str first_from attempt has_bytes_at char_at is_boundary chars
letter-missing = refl

digit-named : IsNamedAs default_config digit (None ∷ None ∷ None ∷ [])
unfolding regex_on_literals
digit-named = refl

abbrev pairs_in : (name text : List ℕ) → List (List ℕ × List ℕ)
pairs_in name text = option_map_or (pairs_seen name 3 text) (option_map spans (find_str digit_tree text 0)) []

no-x-computed : (name : List ℕ) → pairs_in name (codes "a7") ≡ (numbered name 0, codes "7") ∷ (numbered name 1, codes "7") ∷ (name, codes "7") ∷ []
unfolding regex_on_literals find_str first_from attempt slot_of has_bytes_at char_at is_boundary floor_char_boundary chars
no-x-computed name = rw (a-is-none, seven-is-one) refl

with-x-computed : (name : List ℕ) → pairs_in name (codes "a7x") ≡ (numbered name 0, codes "7x") ∷ (numbered name 1, codes "7") ∷ (numbered name 2, codes "x") ∷ (name, codes "7") ∷ []
unfolding regex_on_literals find_str first_from attempt slot_of has_bytes_at char_at is_boundary floor_char_boundary chars
with-x-computed name = rw (a-is-none, seven-is-one) refl

abbrev unnamed : List (Option (List ℕ))
unnamed = None ∷ None ∷ None ∷ []

-- in `a7b`
template-computed : replaced_seen unnamed (codes "<$1$2$$>") (codes "a7b") 0 (map spans (find_all_str digit_tree (codes "a7b"))) ≡ codes "a<7$>b"
unfolding regex_on_literals find_str first_from matches_from attempt slot_of has_bytes_at char_at is_boundary chars
template-computed = rw (a-is-none, seven-is-one, b-is-none) refl

digit-there : is_some (find_str digit_tree (codes "a7") 0) ≡ true
unfolding regex_on_literals find_str first_from attempt has_bytes_at char_at is_boundary chars
digit-there = rw (a-is-none, seven-is-one) refl

digit-missing : is_some (find_str digit_tree (codes "ab") 0) ≡ false
unfolding regex_on_literals find_str first_from attempt has_bytes_at char_at is_boundary chars
digit-missing = rw (a-is-none, b-is-none) refl

module _ (pattern : Pattern) (read : ReadFrom digit pattern) where
  names : IsReadFromSource pattern.regex.value → regex_names pattern.regex.value ≡ unnamed
  names from_source = names_as_written pattern.regex.value default_config digit (pattern.source ∙ read) pattern.options from_source unnamed digit-named

  counted : IsReadFromSource pattern.regex.value → group_count pattern.regex.value ≡ 3
  counted from_source =
      let held = pattern.regex.value.pattern.names in
      held.ok.0 ∙ sym (length-map held.items (option_map string_bytes)) ∙ ap length (names from_source)

  pairs-found : (name text : List ℕ) → list_all (λ b. nat_lt b 256) text ≡ true → found_pairs text (own_of name pattern) ≡ pairs_in name text
  pairs-found name text bytes =
      let regex = pattern.regex.value in
      ∥∥₁_elim pattern.read (Coded-set (coded_list (coded× (coded_list coded_ℕ) (coded_list coded_ℕ))) _ _)
      (λ from_source. append-nil (pairs_of name (regex_pattern regex) (group_count regex) text)
      ∙ found-seen name (group_count regex) text (find_str (regex_pattern regex) text 0)
      ∙ ap₂ (λ (n : ℕ) (o : Option Seen). option_map_or (pairs_seen name n text) o []) (counted from_source)
      (one-seen pattern digit digit_tree read digit-read from_source text bytes))

  pub template-written : text_replaced (Regex pattern (codes "<$1$2$$>")) (codes "a7b") ≡ codes "a<7$>b"
  template-written =
      let found = find_all_str (regex_pattern pattern.regex.value) (codes "a7b") in
      ∥∥₁_elim pattern.read (Coded-set (coded_list coded_ℕ) _ _)
      (λ from_source.
      ap (λ (names : List (Option (List ℕ))). replaced_by (λ m. written_after names (group_bytes (codes "a7b") m) (codes "<$1$2$$>") 0) (codes "a7b") 0 found) (names from_source)
      ∙ replaced-seen unnamed (codes "<$1$2$$>") (codes "a7b") 0 found
      ∙ ap (replaced_seen unnamed (codes "<$1$2$$>") (codes "a7b") 0) (all-seen pattern digit digit_tree read digit-read from_source (codes "a7b") refl)
      ∙ template-computed)

-- ---- whether a pattern finds something

found-as : (pattern : Pattern) (source : List ℕ) (re : Re) → ReadFrom source pattern → IsReadAs default_config source re → (hay : List ℕ) → list_all (λ b. nat_lt b 256) hay ≡ true
    → is_some (find_str (regex_pattern pattern.regex.value) hay 0) ≡ is_some (find_str re hay 0)
found-as pattern source re read written hay bytes =
    ∥∥₁_elim pattern.read (Coded-set coded_bool _ _) (λ from_source. is-found pattern source re read written from_source hay bytes)

-- ---- attributes that are set

may-have-few : (attributes : AttributeMap) → encoded_size attributes ≤ 65536 → may_have (Taken 0) attributes ≡ true
may-have-few attributes few = le-leb (encoded_size attributes + 0) 65536 (omega arith)

may-one : may_have (Taken 0) (insert no_attributes (codes "k.0") (codes "7")) ≡ true
may-one = may-have-few _ (omega (arith, no-size, insert-size no_attributes (codes "k.0") (codes "7")))

may-two : may_have (Taken 0) (insert (insert no_attributes (codes "k.0") (codes "7")) (codes "k.1") (codes "7")) ≡ true
may-two =
    may-have-few _
    (omega (
      arith,
      no-size,
      insert-size no_attributes (codes "k.0") (codes "7"),
      insert-size (insert no_attributes (codes "k.0") (codes "7")) (codes "k.1") (codes "7"),
    ))

may-three : may_have (Taken 0) with_digit ≡ true
may-three =
    may-have-few with_digit
    (omega (
      arith,
      no-size,
      insert-size no_attributes (codes "k.0") (codes "7"),
      insert-size (insert no_attributes (codes "k.0") (codes "7")) (codes "k.1") (codes "7"),
      insert-size (insert (insert no_attributes (codes "k.0") (codes "7")) (codes "k.1") (codes "7")) (codes "k") (codes "7"),
    ))

-- ---- whole outcomes

abbrev file_of : (uuid bytes : List ℕ) → TakenFile
file_of uuid bytes = record { attributes = no_attributes; uuid = uuid; bytes = bytes }

-- what is made where so much is found
abbrev extracted_of : (uuid bytes : List ℕ) → Bool → List (List ℕ × List ℕ) → Option Outcome
extracted_of uuid bytes finds pairs =
    Some (or_given_up 1 (file_of uuid bytes ∷ [])
    (if is_utf8 bytes && finds then option_map (λ (attributes : AttributeMap). alone (passed_on 0 attributes false 0)) (option_and_then (with_all_set (Taken 0) no_attributes) (as_named pairs)) else None))

any-one : (name bytes : List ℕ) (pattern : Pattern) (answer : Bool) → is_some (find_str (regex_pattern pattern.regex.value) bytes 0) ≡ answer → any_finds bytes (own_of name pattern) ≡ answer
any-one name bytes pattern answer is = ap (λ (b : Bool). b || false) is ∙ or-false answer
  where
    or-false : (b : Bool) → (b || false) ≡ b
    or-false true = refl
    or-false false = refl

set-computed : (uuid : List ℕ) → extracted_of uuid (codes "a7") true ((codes "k.0", codes "7") ∷ (codes "k.1", codes "7") ∷ (codes "k", codes "7") ∷ []) ≡ Some (alone (passed_on 0 with_digit false 0))
unfolding regex_on_literals
set-computed uuid = rw (may-one, may-two, may-three) refl

names-computed : numbered (codes "k") 0 ≡ codes "k.0"
unfolding digits
names-computed = refl

name-computed : numbered (codes "k") 1 ≡ codes "k.1"
unfolding digits
name-computed = refl

pub digit-extracted : DigitIsExtracted
digit-extracted pattern read uuid =
    ap₂ (extracted_of uuid (codes "a7")) (any-one (codes "k") (codes "a7") pattern true (found-as pattern digit digit_tree read digit-read (codes "a7") refl ∙ digit-there))
    (pairs-found pattern read (codes "k") (codes "a7") refl ∙ no-x-computed (codes "k") ∙ ap₂ (λ (zeroth first : List ℕ). (zeroth, codes "7") ∷ (first, codes "7") ∷ (codes "k", codes "7") ∷ []) names-computed name-computed)
    ∙ set-computed uuid

pub x-is-second : XIsSecond
unfolding digits
x-is-second pattern read = pairs-found pattern read (codes "k") (codes "a7x") refl ∙ with-x-computed (codes "k")

unmatched-computed : (uuid : List ℕ) (pairs : List (List ℕ × List ℕ)) → extracted_of uuid (codes "ab") false pairs ≡ Some (passed_to 1)
unfolding regex_on_literals
unmatched-computed uuid pairs = refl

pub no-digit-unmatched : NoDigitIsUnmatched
no-digit-unmatched pattern read uuid =
    ap (λ finds. extracted_of uuid (codes "ab") finds (found_pairs (codes "ab") (own_of (codes "k") pattern)))
    (any-one (codes "k") (codes "ab") pattern false (found-as pattern digit digit_tree read digit-read (codes "ab") refl ∙ digit-missing))
    ∙ unmatched-computed uuid (found_pairs (codes "ab") (own_of (codes "k") pattern))

long-computed : (uuid : List ℕ) → extracted_of uuid (codes "a7") true ((numbered (replicate 254 107) 0, codes "7") ∷ (numbered (replicate 254 107) 1, codes "7") ∷ (replicate 254 107, codes "7") ∷ []) ≡ Some (passed_to 1)
unfolding regex_on_literals digits
long-computed uuid = refl

pub long-name-unmatched : LongNameIsUnmatched
long-name-unmatched pattern read uuid =
    ap₂ (extracted_of uuid (codes "a7"))
    (any-one (replicate 254 107) (codes "a7") pattern true (found-as pattern digit digit_tree read digit-read (codes "a7") refl ∙ digit-there))
    (pairs-found pattern read (replicate 254 107) (codes "a7") refl ∙ no-x-computed (replicate 254 107))
    ∙ long-computed uuid

pub no-text-unmatched : NoTextIsUnmatched
unfolding regex_on_literals
no-text-unmatched own uuid = refl

pub value-cut : ValueIs 1023 []
unfolding floor_char_boundary
value-cut = refl

pub value-whole : ValueIs 1022 (195 ∷ 169 ∷ [])
unfolding floor_char_boundary
value-whole = refl

pub no-text-routed : NoTextIsRoutedToUnmatched
unfolding regex_on_literals
no-text-routed own uuid = ap (λ places. Some (routed (length own) (file_of uuid no_text) places)) (none_found 0 own)
  where
    none_found : (from : ℕ) (own : List OwnPattern) → map (λ p. p.0) (filter (λ p. is_found_in no_text p.1) (enumerate_from from own)) ≡ []
    none_found from [] = refl
    none_found from (property ∷ own) = none_found (from + 1) own

pub second-finds : SecondFinds
unfolding regex_on_literals
second-finds first second is_first is_second uuid =
    rw (
      found-as first (codes "y") letter_tree is_first letter-read (codes "a7") refl ∙ letter-missing,
      found-as second digit digit_tree is_second digit-read (codes "a7") refl ∙ digit-there,
    ) refl

pub literal-replaces : LiteralReplaces
unfolding regex_on_literals
literal-replaces uuid = refl

pub no-text-fails : NoTextFails
unfolding regex_on_literals
no-text-fails replacement uuid = refl

written-computed : (uuid : List ℕ) → Some (or_given_up 1 (file_of uuid (codes "a7b") ∷ [])
    (option_map (λ (bytes : List ℕ). alone (written_on no_attributes bytes)) (if is_utf8 (codes "a7b") then as_content (codes "a<7$>b") else None))) ≡ Some (alone (written_on no_attributes (codes "a<7$>b")))
unfolding regex_on_literals
written-computed uuid = refl

pub template-replaces : TemplateReplaces
template-replaces pattern read uuid =
    ap (λ bytes. Some (or_given_up 1 (file_of uuid (codes "a7b") ∷ [])
    (option_map (λ (bytes : List ℕ). alone (written_on no_attributes bytes)) (if is_utf8 (codes "a7b") then as_content bytes else None)))) (template-written pattern read)
    ∙ written-computed uuid
