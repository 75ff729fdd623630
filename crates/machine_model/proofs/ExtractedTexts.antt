-- That what an ExtractText finds in a text are names with texts.
use Rattle.std.proofs.Common.{◌≡◌, ℕ, List, [], ◌∷◌, ◌++◌, map, refl, arith}
use Rattle.std.specs.Prelude.{All, IfSome, Option, Some, None, codes, decimal, option_map, unwrap_or}
use Rattle.std.specs.List.{cons_option, filter_map, range_with_len}
use Rattle.std.specs.Option.{option_map_or}
use Rattle.std.specs.Str.{IsUtf8}
use Rattle.std.proofs.lemmas.List.Elements.{All-nil, All-cons, All-append, All-head, All-tail}
use Rattle.std.proofs.lemmas.Str.{IsUtf8-append}
use Rattle.regex_hir.specs.Find.{Match, find_str}
use Rattle.regex_hir.specs.Re.{Re}
use Rattle.regex.specs.Patterns.{span}
use Rattle.regex.specs.Strings.{group_count, regex_pattern}
use Rattle.regex.specs.Utf8.{MatchesText}
use Rattle.regex.specs.Writes.{group_of}
use Rattle.regex.proofs.Utf8Lemmas.{IsUtf8-of_truncated}
use Rattle.machine_model.specs.declared.kind.OwnPattern.{OwnPattern}
use Rattle.machine_model.specs.ExtractText.{value_between, group_in, numbered, pairs_at, pairs_of, found_pairs}
use Rattle.machine_model.proofs.JsonTexts.{IsTextPair}
use Rattle.machine_model.proofs.MatchTexts.{CutsText, whole-cuts, group-cuts, cuts-in, value-text}
use Rattle.machine_model.proofs.OneOutcome.{literal}
use Rattle.machine_model.proofs.Options.{if_map, if_at}
use Rattle.machine_model.proofs.TextParts.{decimal-text}

one-more : {B : Type 0} (P : B → Type 0) (o : Option B) (ys : List B) → IfSome o P → All P ys → All P (cons_option o ys)
one-more P None ys is all = all
one-more P (Some y) ys is all = All-cons P y ys is all

each-given : {A B : Type 0} (f : A → Option B) (P : B → Type 0) → ((x : A) → IfSome (f x) P) → (xs : List A) → All P (filter_map f xs)
each-given f P h [] = All-nil P
each-given f P h (x ∷ xs) = one-more P (f x) (filter_map f xs) (h x) (each-given f P h xs)

of-either : {A : Type 0} (P : A → Type 0) (o : Option A) (other : A) → IfSome o P → P other → P (unwrap_or o other)
of-either P None other h k = k
of-either P (Some x) other h k = h

numbered-text : (name : List ℕ) (group : ℕ) → IsUtf8 name → IsUtf8 (numbered name group)
numbered-text name group is =
    IsUtf8-append name (codes "." ++ decimal group) is (IsUtf8-append (codes ".") (decimal group) (literal (codes ".") refl) (decimal-text group))

module _ (name : List ℕ) (pattern : Re) (groups : ℕ) (text : List ℕ) (named : IsUtf8 name) (whole : MatchesText pattern) (is : IsUtf8 text) where
  pairs-at-texts : (m : Match) → find_str pattern text 0 ≡ Some m → All IsTextPair (pairs_at name groups text m)
  pairs-at-texts m found =
      let pair : ℕ → Option (List ℕ × List ℕ) = λ group. option_map (λ (places : ℕ × ℕ). (numbered name group, value_between text places)) (group_in m group) in
      let main = unwrap_or (group_of m 1) (span m) in
      All-append IsTextPair (filter_map pair (range_with_len 0 groups)) ((name, value_between text main) ∷ [])
      (each-given pair IsTextPair (λ group. if_map (λ (places : ℕ × ℕ). (numbered name group, value_between text places)) (group_in m group) IsTextPair
      (λ places there. record {
        name = numbered-text name group named;
        value = IsUtf8-of_truncated (value_between text places) whole
            (λ parts. value-text text is places (if_at (group_in m group) places (CutsText text) there (cuts-in pattern text is parts m found group)));
      })) (range_with_len 0 groups))
      (All-cons IsTextPair (name, value_between text main) [] (record {
        name = named;
        value = IsUtf8-of_truncated (value_between text main) whole
            (λ parts. value-text text is main
            (of-either (CutsText text) (group_of m 1) (span m) (group-cuts pattern text is parts m found 1 (omega arith)) (whole-cuts pattern text is parts m found)));
      }) (All-nil IsTextPair))

  pairs-of-texts : All IsTextPair (pairs_of name pattern groups text)
  pairs-of-texts = of_match (find_str pattern text 0) refl
    where
      of_match : (o : Option Match) → find_str pattern text 0 ≡ o → All IsTextPair (option_map_or (pairs_at name groups text) o [])
      of_match None none = All-nil IsTextPair
      of_match (Some m) found = pairs-at-texts m found

pub found-texts : (text : List ℕ) → IsUtf8 text → (own : List OwnPattern) → All IsUtf8 (map (λ property. property.name) own) → All IsTextPair (found_pairs text own)
found-texts text is [] named = All-nil IsTextPair
found-texts text is (property ∷ own) named =
    let later = map (λ (property : OwnPattern). property.name) own in
    let regex = property.pattern.regex.value in
    All-append IsTextPair (pairs_of property.name (regex_pattern regex) (group_count regex) text) (found_pairs text own)
    (pairs-of-texts property.name (regex_pattern regex) (group_count regex) text (All-head IsUtf8 property.name later named) regex.whole_characters is)
    (found-texts text is own (All-tail IsUtf8 property.name later named))
