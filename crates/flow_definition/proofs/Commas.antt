-- The names that a text lists between commas.
use Rattle.std.proofs.Common.{◌≡◌, ◌≢◌, ℕ, ◌-◌, Bool, true, false, cond, not, ◌&&◌, List, [], ◌∷◌, ◌++◌, length, map, filter, reverse, take, drop, nat_lt, Option, Some, None, IfSome, refl, sym, ap, ◌∙◌, lit<, arith}
use Rattle.std.specs.Prelude.{◌==◌}
use Rattle.std.specs.List.{list_all, slice_split, onto_first}
use Rattle.std.specs.Str.Pattern.{FindsCharPrefix, FindsCharSuffix, CutsPrefixes, CutsSuffixes, IsTrimStartMatches, IsTrimEndMatches}
use Rattle.std.proofs.lemmas.Bool.{false≢true, and_from, and_parts, not_from_false, eqb-true, lt-ltb}
use Rattle.std.proofs.lemmas.Grind.{reverse_onto}
use Rattle.std.proofs.lemmas.List.{reverse-reverse, reverse-append, length-reverse, take-append-drop, drop_all}
use Rattle.std.proofs.lemmas.List.Folds.{list_all-append}
use Rattle.std.proofs.lemmas.Str.{encode_ascii}
use Rattle.std.proofs.lemmas.Str.Pattern.{drop_at_char}
use Rattle.machine_model.specs.Sound.{begins_blank, ends_blank, is_listed_name}
use Rattle.flow_definition.specs.Listed.{is_blank, behind_blanks, trimmed, listed_names}

abbrev is_some_text : List ℕ → Bool
is_some_text text = nat_lt 0 (length text)

abbrev is_plain : ℕ → Bool
is_plain c = not (c == 44)

-- ---- no comma is in a part between commas

onto_plain : (c : ℕ) (parts : List (List ℕ)) → is_plain c ≡ true → list_all (list_all is_plain) parts ≡ true
    → list_all (list_all is_plain) (onto_first c parts) ≡ true
onto_plain c [] plain all = and_from (is_plain c && true) true (and_from (is_plain c) true plain refl) refl
onto_plain c (part ∷ parts) plain all =
    let both = and_parts (list_all is_plain part) (list_all (list_all is_plain) parts) all in
    and_from (is_plain c && list_all is_plain part) _ (and_from (is_plain c) _ plain both.0) both.1

split_plain_at : (b : Bool) (c : ℕ) (parts : List (List ℕ)) → (c == 44) ≡ b → list_all (list_all is_plain) parts ≡ true
    → list_all (list_all is_plain) (cond b ([] ∷ parts) (onto_first c parts)) ≡ true
split_plain_at true c parts is all = all
split_plain_at false c parts is all = onto_plain c parts (not_from_false (c == 44) is) all

parts_plain : (text : List ℕ) → list_all (list_all is_plain) (slice_split (λ c. c == 44) text) ≡ true
parts_plain [] = refl
parts_plain (c ∷ cs) = split_plain_at (c == 44) c (slice_split (λ c. c == 44) cs) refl (parts_plain cs)

behind_plain_at : (b : Bool) (c : ℕ) (cs : List ℕ) → list_all is_plain (c ∷ cs) ≡ true → list_all is_plain (behind_blanks cs) ≡ true
    → list_all is_plain (cond b (behind_blanks cs) (c ∷ cs)) ≡ true
behind_plain_at true c cs all later = later
behind_plain_at false c cs all later = all

behind_plain : (text : List ℕ) → list_all is_plain text ≡ true → list_all is_plain (behind_blanks text) ≡ true
behind_plain [] all = refl
behind_plain (c ∷ cs) all =
    behind_plain_at (is_blank c) c cs all (behind_plain cs (and_parts (is_plain c) (list_all is_plain cs) all).1)

reverse_plain : (text : List ℕ) → list_all is_plain text ≡ true → list_all is_plain (reverse text) ≡ true
reverse_plain [] all = refl
reverse_plain (c ∷ cs) all =
    let both = and_parts (is_plain c) (list_all is_plain cs) all in
    ap (list_all is_plain) (reverse_onto cs c [])
    ∙ list_all-append is_plain (reverse cs) (c ∷ [])
    ∙ and_from (list_all is_plain (reverse cs)) _ (reverse_plain cs both.1) (and_from (is_plain c) true both.0 refl)

trimmed_plain : (part : List ℕ) → list_all is_plain part ≡ true → list_all is_plain (trimmed part) ≡ true
trimmed_plain part all =
    reverse_plain (behind_blanks (reverse (behind_blanks part)))
    (behind_plain (reverse (behind_blanks part)) (reverse_plain (behind_blanks part) (behind_plain part all)))

-- ---- no blank is at the ends of a trimmed name

begins_at : (b : Bool) (c : ℕ) (cs : List ℕ) → is_blank c ≡ b → (is_some_text (behind_blanks cs) ≡ true → begins_blank (behind_blanks cs) ≡ false)
    → is_some_text (cond b (behind_blanks cs) (c ∷ cs)) ≡ true → begins_blank (cond b (behind_blanks cs) (c ∷ cs)) ≡ false
begins_at true c cs is later some = later some
begins_at false c cs is later some = is

behind_begins : (text : List ℕ) → is_some_text (behind_blanks text) ≡ true → begins_blank (behind_blanks text) ≡ false
behind_begins [] some = absurd (false≢true some)
behind_begins (c ∷ cs) some = begins_at (is_blank c) c cs refl (behind_begins cs) some

ends_push : (text : List ℕ) (c : ℕ) → ends_blank (text ++ c ∷ []) ≡ is_blank c
ends_push [] c = refl
ends_push (d ∷ []) c = refl
ends_push (d ∷ e ∷ es) c = ends_push (e ∷ es) c

ends_reverse : (text : List ℕ) → ends_blank (reverse text) ≡ begins_blank text
ends_reverse [] = refl
ends_reverse (c ∷ cs) = ap ends_blank (reverse_onto cs c []) ∙ ends_push (reverse cs) c

ends_more : (c : ℕ) (cs : List ℕ) → is_some_text (behind_blanks cs) ≡ true → ends_blank (c ∷ cs) ≡ ends_blank cs
ends_more c [] some = absurd (false≢true some)
ends_more c (d ∷ cs) some = refl

ends_at : (b : Bool) (c : ℕ) (cs : List ℕ) → (is_some_text (behind_blanks cs) ≡ true → ends_blank (behind_blanks cs) ≡ ends_blank cs)
    → is_some_text (cond b (behind_blanks cs) (c ∷ cs)) ≡ true → ends_blank (cond b (behind_blanks cs) (c ∷ cs)) ≡ ends_blank (c ∷ cs)
ends_at true c cs later some = later some ∙ sym (ends_more c cs some)
ends_at false c cs later some = refl

behind_ends : (text : List ℕ) → is_some_text (behind_blanks text) ≡ true → ends_blank (behind_blanks text) ≡ ends_blank text
behind_ends [] some = absurd (false≢true some)
behind_ends (c ∷ cs) some = ends_at (is_blank c) c cs (behind_ends cs) some

some_before : (text : List ℕ) → is_some_text (behind_blanks (reverse text)) ≡ true → is_some_text text ≡ true
some_before [] some = absurd (false≢true some)
some_before (c ∷ cs) some = lt-ltb 0 (length (c ∷ cs)) (omega arith)

trimmed_listed : (part : List ℕ) → list_all is_plain part ≡ true → is_some_text (trimmed part) ≡ true → is_listed_name (trimmed part) ≡ true
trimmed_listed part plain some =
    let front : List ℕ = behind_blanks part in
    let back : List ℕ = behind_blanks (reverse front) in
    let there : is_some_text back ≡ true = sym (ap (nat_lt 0) (length-reverse back)) ∙ some in
    let begins : begins_blank (reverse back) ≡ false =
    sym (ends_reverse (reverse back)) ∙ ap ends_blank (reverse-reverse back) ∙ behind_ends (reverse front) there ∙ ends_reverse front
    ∙ behind_begins part (some_before front there) in
    let ends : ends_blank (reverse back) ≡ false = ends_reverse back ∙ behind_begins (reverse front) there in
    and_from _ _ (and_from _ _ (not_from_false _ begins) (not_from_false _ ends)) (trimmed_plain part plain)

-- ---- the names of a list

listed_at : (b : Bool) (name : List ℕ) (names : List (List ℕ)) → (b ≡ true → is_listed_name name ≡ true) → list_all is_listed_name names ≡ true
    → list_all is_listed_name (cond b (name ∷ names) names) ≡ true
listed_at true name names here later = and_from (is_listed_name name) _ (here refl) later
listed_at false name names here later = later

all_listed : (parts : List (List ℕ)) → list_all (list_all is_plain) parts ≡ true
    → list_all is_listed_name (filter is_some_text (map trimmed parts)) ≡ true
all_listed [] plain = refl
all_listed (part ∷ parts) plain =
    let both = and_parts (list_all is_plain part) (list_all (list_all is_plain) parts) plain in
    listed_at (is_some_text (trimmed part)) (trimmed part) (filter is_some_text (map trimmed parts)) (trimmed_listed part both.0)
    (all_listed parts both.1)

pub names_listed : (text : List ℕ) → list_all is_listed_name (listed_names text) ≡ true
names_listed text = all_listed (slice_split (λ c. c == 44) text) (parts_plain text)

-- ---- what is cut off the ends of a text

blank_first : (m r : List ℕ) (n : ℕ) → FindsCharPrefix 32 m (Some n) → r ≡ drop n m → m ≡ 32 ∷ r
blank_first m r n found rest = drop_at_char 32 m 0 n found (lit< tt) ∙ ap (λ t. 32 ∷ t) (sym rest)

cut_front : (s r : List ℕ) (ns : List ℕ) → CutsPrefixes (FindsCharPrefix 32) s ns r → behind_blanks s ≡ behind_blanks r
cut_front s r [] cut = ap behind_blanks (sym cut)
cut_front s r (n ∷ ns) cut = cut_front s cut.0 ns cut.1 ∙ ap behind_blanks (blank_first cut.0 r n cut.2 cut.3)

no_blank_at : (b : Bool) (c : ℕ) (cs : List ℕ) → is_blank c ≡ b → (c ≡ 32 → ⊥) → cond b (behind_blanks cs) (c ∷ cs) ≡ c ∷ cs
no_blank_at true c cs is other = absurd (other (eqb-true c 32 is))
no_blank_at false c cs is other = refl

no_blank : (r : List ℕ) (o : Option ℕ) → FindsCharPrefix 32 r o → IfSome o (λ n. n ≡ 0) → behind_blanks r ≡ r
no_blank [] o found none = refl
no_blank (c ∷ cs) None found none =
    no_blank_at (is_blank c) c cs refl (λ same. found cs (ap (λ x. x ∷ cs) same ∙ ap (λ t. t ++ cs) (sym (encode_ascii 32 (lit< tt)))))
no_blank r (Some n) found none = absurd (omega (arith, found.ends, none))

pub front_cut : (s r : List ℕ) → IsTrimStartMatches (FindsCharPrefix 32) s r → r ≡ behind_blanks s
front_cut s r trim =
    sym (cut_front s r trim.0.0 trim.0.1 ∙ no_blank r trim.1.0 trim.1.1 trim.1.2)

blank_last : (m r : List ℕ) (n : ℕ) → FindsCharSuffix 32 m (Some n) → r ≡ take (length m - n) m → m ≡ r ++ 32 ∷ []
blank_last m r n found rest =
    sym (take-append-drop (length m - n) m)
    ∙ ap (λ t. take (length m - n) m ++ t) (drop_at_char 32 m (length m - n) (length m) found.1 (lit< tt) ∙ ap (λ t. 32 ∷ t) (drop_all (length m) m (omega arith)))
    ∙ ap (λ t. t ++ 32 ∷ []) (sym rest)

cut_back : (s r : List ℕ) (ns : List ℕ) → CutsSuffixes (FindsCharSuffix 32) s ns r → behind_blanks (reverse s) ≡ behind_blanks (reverse r)
cut_back s r [] cut = ap (λ t. behind_blanks (reverse t)) (sym cut)
cut_back s r (n ∷ ns) cut =
    cut_back s cut.0 ns cut.1
    ∙ ap behind_blanks (ap reverse (blank_last cut.0 r n cut.2 cut.3) ∙ reverse-append r (32 ∷ []))

no_blank_last : (w : List ℕ) → ((front : List ℕ) → reverse w ≢ front ++ 32 ∷ []) → behind_blanks w ≡ w
no_blank_last [] none = refl
no_blank_last (c ∷ cs) none =
    no_blank_at (is_blank c) c cs refl (λ same. none (reverse cs) (reverse_onto cs c [] ∙ ap (λ x. reverse cs ++ x ∷ []) same))

no_blank_back : (r : List ℕ) (o : Option ℕ) → FindsCharSuffix 32 r o → IfSome o (λ n. n ≡ 0) → behind_blanks (reverse r) ≡ reverse r
no_blank_back r None found none =
    no_blank_last (reverse r) (λ front same. found front (sym (reverse-reverse r) ∙ same ∙ ap (λ t. front ++ t) (sym (encode_ascii 32 (lit< tt)))))
no_blank_back r (Some n) found none = absurd (omega (arith, found.0, none))

pub back_cut : (s r : List ℕ) → IsTrimEndMatches (FindsCharSuffix 32) s r → r ≡ reverse (behind_blanks (reverse s))
back_cut s r trim =
    sym (reverse-reverse r)
    ∙ ap reverse (sym (cut_back s r trim.0.0 trim.0.1 ∙ no_blank_back r trim.1.0 trim.1.1 trim.1.2))
