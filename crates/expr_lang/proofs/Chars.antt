-- Characters and bytes: where a test passes for no byte of 128 or more, going over a text byte by byte is going over it
-- character by character.
use Rattle.std.proofs.Common.{◌≡◌, ℕ, suc, ◌<◌, ◌≤◌, Bool, true, false, ◌&&◌, ◌||◌, ◌==◌, leb, List, [], ◌∷◌, ◌++◌, length, get_or, Option, Some, None, option_and_then, refl, ap, sym, ◌∙◌, subst, inl, inr, arith, encode_utf8, append_assoc, length-append}
use Rattle.std.proofs.lemmas.Bool.{cases_lt, cases_Bool, or_cases, or_from, and_parts, leb-true, eqb-true, eqb-false, eq-eqb, ne_eqb, cond-true, cond-false}
use Rattle.std.proofs.lemmas.List.{append-nil}
use Rattle.std.proofs.lemmas.Option.{none-some, same_Some, option_and_then_some, some_pair_parts}
use Rattle.std.proofs.lemmas.Str.{encode_ascii, length-encode, len_utf8_bounds, inside_one}
use Rattle.expr_lang.specs.declared.reader.run.Run.{Run}
use Rattle.expr_lang.specs.declared.reader.run.Run.TheVariants.{Name, Letters, Digits}
use Rattle.expr_lang.specs.Bytes.{is_space, is_letter, is_digit, starts_name, is_name_byte, escaped}
use Rattle.expr_lang.specs.Reading.{Reading, front_while, behind_while, with_front, escape_read, body_from, body_read, char_read, is_mark, quoted_read, is_special, plain_front, plain_behind}
use Rattle.expr_lang.specs.Runs.{is_in}
use Rattle.expr_lang.proofs.Fronts.{Stops, front_stopped, behind_stopped}

-- bytes of characters that aren't ASCII
pub data AllHigh : List ℕ → Type 0 where
  none : AllHigh []
  more : (b : ℕ) (bytes : List ℕ) → 128 ≤ b → AllHigh bytes → AllHigh (b ∷ bytes)

pub not_below : (a b : ℕ) → (a < b → ⊥) → b ≤ a
not_below a b h = elim (cases_lt a b) [ inl low ↦ absurd (h low) | inr high ↦ high ]

pub high_from : (bytes : List ℕ) → ((k : ℕ) → k < length bytes → 128 ≤ get_or bytes k 0) → AllHigh bytes
high_from [] h = none
high_from (b ∷ bytes) h = more b bytes (h 0 (omega arith)) (high_from bytes (λ k below. h (suc k) (omega arith)))

pub byte_high : (c k : ℕ) → 128 ≤ c → k < length (encode_utf8 c) → 128 ≤ get_or (encode_utf8 c) k 0
byte_high c k high below =
    let whole : encode_utf8 c ≡ encode_utf8 c ++ [] = sym (append-nil (encode_utf8 c)) in
    let same : get_or (encode_utf8 c) k 0 < 128 → c ≡ get_or (encode_utf8 c) k 0 = inside_one c [] (encode_utf8 c) k whole below in
    not_below (get_or (encode_utf8 c) k 0) 128 (λ low. let e : c ≡ get_or (encode_utf8 c) k 0 = same low in omega arith)

pub encode_high : (c : ℕ) → 128 ≤ c → AllHigh (encode_utf8 c)
encode_high c high = high_from (encode_utf8 c) (λ k below. byte_high c k high below)

pub length_behind : (c : ℕ) (text rest : List ℕ) → text ≡ encode_utf8 c ++ rest → length rest < length text
length_behind c text rest e =
    omega (arith, ap length e, length-append (encode_utf8 c) rest, length-encode c, (len_utf8_bounds c).0)

-- ---- tests

-- the test passes for ASCII alone
pub record IsLow (p : ℕ → Bool) : Type 0 where
  pub low : (c : ℕ) → p c ≡ true → c < 128

not_true : (b : Bool) → (b ≡ true → ⊥) → b ≡ false
not_true true h = absurd (h refl)
not_true false h = refl

fails_high : (p : ℕ → Bool) → IsLow p → (c : ℕ) → 128 ≤ c → p c ≡ false
fails_high p low c high = not_true (p c) (λ passes. let below = low.low c passes in absurd (omega (arith, below)))

-- the bytes of a character, which begin with one that passes the same tests
pub record FirstByte (c : ℕ) (bytes : List ℕ) : Type 0 where
  pub first : ℕ
  pub more : List ℕ
  pub whole : bytes ≡ first ∷ more
  pub same : (p : ℕ → Bool) → IsLow p → p first ≡ p c

high_first : (c : ℕ) (bytes : List ℕ) → 128 ≤ c → 0 < length bytes → AllHigh bytes → FirstByte c bytes
high_first c _ high some none = absurd (omega arith)
high_first c _ high some (more b bytes above rest) =
    record { first = b; more = bytes; whole = refl; same = λ p low. fails_high p low b above ∙ sym (fails_high p low c high) }

first_byte : (c : ℕ) → FirstByte c (encode_utf8 c)
first_byte c = elim (cases_lt c 128) [
  | inl below ↦ record { first = c; more = []; whole = encode_ascii c below; same = λ p low. refl }
  | inr above ↦ high_first c (encode_utf8 c) above (omega (arith, length-encode c, (len_utf8_bounds c).0)) (encode_high c above)
]

pub first_of_text : (c : ℕ) (text rest : List ℕ) → text ≡ encode_utf8 c ++ rest → FirstByte c text
first_of_text c text rest e =
    let f = first_byte c in
    record { first = f.first; more = f.more ++ rest; whole = e ∙ ap (λ (l : List ℕ). l ++ rest) f.whole; same = f.same }

stops_at : (p : ℕ → Bool) → IsLow p → (c : ℕ) (text rest : List ℕ) → text ≡ encode_utf8 c ++ rest → p c ≡ false → Stops p text
stops_at p low c text rest e fails =
    let f = first_of_text c text rest e in
    subst (Stops p) (sym f.whole) (f.same p low ∙ fails)

module _ (p : ℕ → Bool) (low : IsLow p) (c : ℕ) (text rest : List ℕ) (e : text ≡ encode_utf8 c ++ rest) where
  one_byte : p c ≡ true → text ≡ c ∷ rest
  one_byte passes = e ∙ ap (λ (l : List ℕ). l ++ rest) (encode_ascii c (low.low c passes))

  pub behind_passing : p c ≡ true → behind_while p text ≡ behind_while p rest
  behind_passing passes = ap (behind_while p) (one_byte passes) ∙ cond-true (p c) _ _ passes

  pub front_passing : p c ≡ true → front_while p text ≡ encode_utf8 c ++ front_while p rest
  front_passing passes =
      ap (front_while p) (one_byte passes) ∙ cond-true (p c) _ _ passes
      ∙ ap (λ (l : List ℕ). l ++ front_while p rest) (sym (encode_ascii c (low.low c passes)))

  pub behind_failing : p c ≡ false → behind_while p text ≡ text
  behind_failing fails = behind_stopped p text (stops_at p low c text rest e fails)

  pub front_failing : p c ≡ false → front_while p text ≡ []
  front_failing fails = front_stopped p text (stops_at p low c text rest e fails)

-- ---- the tests of the language

between : (low high c : ℕ) → (leb low c && leb c high) ≡ true → c ≤ high
between low high c h = leb-true c high (and_parts (leb low c) (leb c high) h).1

is : (n c : ℕ) → n < 128 → (c == n) ≡ true → c < 128
is n c below h = let e = eqb-true c n h in omega (arith, e)

letter_low : (c : ℕ) → is_letter c ≡ true → c < 128
letter_low c h = elim (or_cases (leb 65 c && leb c 90) (leb 97 c && leb c 122) h) [
  | inl h ↦ let r = between 65 90 c h in omega (arith, r)
  | inr h ↦ let r = between 97 122 c h in omega (arith, r)
]

starts_low : (c : ℕ) → starts_name c ≡ true → c < 128
starts_low c h = elim (or_cases (is_letter c) (c == 95) h) [ inl h ↦ letter_low c h | inr h ↦ is 95 c (omega arith) h ]

digit_low : (c : ℕ) → is_digit c ≡ true → c < 128
digit_low c h = let r = between 48 57 c h in omega (arith, r)

name_low : (c : ℕ) → is_name_byte c ≡ true → c < 128
name_low c h = elim (or_cases (starts_name c || is_digit c || (c == 46)) (c == 45) h) [
  | inl h ↦ elim (or_cases (starts_name c || is_digit c) (c == 46) h) [
    | inl h ↦ elim (or_cases (starts_name c) (is_digit c) h) [ inl h ↦ starts_low c h | inr h ↦ digit_low c h ]
    | inr h ↦ is 46 c (omega arith) h
  ]
  | inr h ↦ is 45 c (omega arith) h
]

space_low : (c : ℕ) → is_space c ≡ true → c < 128
space_low c h = elim (or_cases ((c == 32) || (c == 9) || (c == 10)) (c == 13) h) [
  | inl h ↦ elim (or_cases ((c == 32) || (c == 9)) (c == 10) h) [
    | inl h ↦ elim (or_cases (c == 32) (c == 9) h) [ inl h ↦ is 32 c (omega arith) h | inr h ↦ is 9 c (omega arith) h ]
    | inr h ↦ is 10 c (omega arith) h
  ]
  | inr h ↦ is 13 c (omega arith) h
]

mark_low : (c : ℕ) → is_mark c ≡ true → c < 128
mark_low c h = elim (or_cases (c == 39) (c == 34) h) [ inl h ↦ is 39 c (omega arith) h | inr h ↦ is 34 c (omega arith) h ]

numeral_low : (c : ℕ) → ((c == 45) || is_digit c) ≡ true → c < 128
numeral_low c h = elim (or_cases (c == 45) (is_digit c) h) [ inl h ↦ is 45 c (omega arith) h | inr h ↦ digit_low c h ]

pub spaces_low : IsLow is_space
spaces_low = record { low = space_low }

pub marks_low : IsLow is_mark
marks_low = record { low = mark_low }

pub starts_are_low : IsLow starts_name
starts_are_low = record { low = starts_low }

pub numerals_low : IsLow (λ (c : ℕ). (c == 45) || is_digit c)
numerals_low = record { low = numeral_low }

pub one_low : (n : ℕ) → n < 128 → IsLow (λ (c : ℕ). c == n)
one_low n below = record { low = λ c h. is n c below h }

pub run_low : (run : Run) → IsLow (is_in run)
run_low Name = record { low = name_low }
run_low Letters = record { low = letter_low }
run_low Digits = record { low = digit_low }

-- ---- plain characters

plain_high : (bytes rest : List ℕ) → AllHigh bytes → (plain_front (bytes ++ rest) ≡ bytes ++ plain_front rest) × (plain_behind (bytes ++ rest) ≡ plain_behind rest)
plain_high _ rest none = (refl, refl)
plain_high _ rest (more b bytes above high) =
    let other : ((b == 36) && is_special (bytes ++ rest)) ≡ false = ap (λ (t : Bool). t && is_special (bytes ++ rest)) (ne_eqb b 36 (λ e. absurd (omega arith))) in
    let further = plain_high bytes rest high in (
      cond-false ((b == 36) && is_special (bytes ++ rest)) _ _ other ∙ ap (λ (l : List ℕ). b ∷ l) further.0,
      cond-false ((b == 36) && is_special (bytes ++ rest)) _ _ other ∙ further.1,
    )

plain_low : (c : ℕ) (rest : List ℕ) → ((c == 36) && is_special rest) ≡ false → (plain_front (c ∷ rest) ≡ c ∷ plain_front rest) × (plain_behind (c ∷ rest) ≡ plain_behind rest)
plain_low c rest other = (cond-false ((c == 36) && is_special rest) _ _ other, cond-false ((c == 36) && is_special rest) _ _ other)

pub plain_char : (c : ℕ) (text rest : List ℕ) → text ≡ encode_utf8 c ++ rest → ((c == 36) && is_special rest) ≡ false →
    (plain_front text ≡ encode_utf8 c ++ plain_front rest) × (plain_behind text ≡ plain_behind rest)
plain_char c text rest e other = elim (cases_lt c 128) [
  | inl below ↦
      let one = encode_ascii c below in
      let here : text ≡ c ∷ rest = e ∙ ap (λ (l : List ℕ). l ++ rest) one in
      let p = plain_low c rest other in
      (ap plain_front here ∙ p.0 ∙ ap (λ (l : List ℕ). l ++ plain_front rest) (sym one), ap plain_behind here ∙ p.1)
  | inr above ↦
      let p = plain_high (encode_utf8 c) rest (encode_high c above) in
      (ap plain_front e ∙ p.0, ap plain_behind e ∙ p.1)
]

-- ---- quoted characters

pub with_front_more : (a b : List ℕ) (reading : Reading (List ℕ)) → with_front (a ++ b) reading ≡ with_front a (with_front b reading)
with_front_more a b None = refl
with_front_more a b (Some x) = ap (λ (l : List ℕ). let r : Reading (List ℕ) = Some (l, x.1) in r) (append_assoc a b x.0)

pub with_front_none : (reading : Reading (List ℕ)) → with_front [] reading ≡ reading
with_front_none None = refl
with_front_none (Some (s, rest)) = refl

pub with_front_end : (front rest : List ℕ) → with_front front (Some ([], rest)) ≡ Some (front, rest)
with_front_end front rest = ap (λ (l : List ℕ). let r : Reading (List ℕ) = Some (l, rest) in r) (append-nil front)

pub body_of_nothing : (mark : ℕ) (text : List ℕ) → text ≡ [] → body_read mark text ≡ None
unfolding body_from
body_of_nothing mark text e = ap (body_read mark) e

body_plain : (mark c : ℕ) (rest : List ℕ) → (c == mark) ≡ false → (c == 92) ≡ false → body_read mark (c ∷ rest) ≡ with_front (c ∷ []) (body_read mark rest)
unfolding body_from
body_plain mark c rest no_mark no_slash = cond-false (c == mark) _ _ no_mark ∙ cond-false (c == 92) _ _ no_slash

body_high : (mark : ℕ) (bytes rest : List ℕ) → mark < 128 → AllHigh bytes → body_read mark (bytes ++ rest) ≡ with_front bytes (body_read mark rest)
body_high mark _ rest below none = sym (with_front_none (body_read mark rest))
body_high mark _ rest below (more b bytes above high) =
    body_plain mark b (bytes ++ rest) (ne_eqb b mark (λ e. absurd (omega arith))) (ne_eqb b 92 (λ e. absurd (omega arith)))
    ∙ ap (with_front (b ∷ [])) (body_high mark bytes rest below high)
    ∙ sym (with_front_more (b ∷ []) bytes (body_read mark rest))

body_slash : (mark : ℕ) (rest : List ℕ) → (92 == mark) ≡ false → body_read mark (92 ∷ rest) ≡ body_from mark rest true
unfolding body_from
body_slash mark rest no_mark = cond-false (92 == mark) _ _ no_mark

escaped_low : (c d : ℕ) → escaped c ≡ Some d → d < 128
escaped_low c d h = elim (cases_Bool ((c == 92) || (c == 39) || (c == 34))) [
  | inl one ↦
      let e = same_Some c d (sym (cond-true ((c == 92) || (c == 39) || (c == 34)) _ _ one) ∙ h) in
      let low : c < 128 = elim (or_cases ((c == 92) || (c == 39)) (c == 34) one) [
        | inl h ↦ elim (or_cases (c == 92) (c == 39) h) [ inl h ↦ is 92 c (omega arith) h | inr h ↦ is 39 c (omega arith) h ]
        | inr h ↦ is 34 c (omega arith) h
      ] in
      omega (arith, e, low)
  | inr not_one ↦
      let h = sym (cond-false ((c == 92) || (c == 39) || (c == 34)) _ _ not_one) ∙ h in
      elim (cases_Bool (c == 110)) [
        | inl two ↦ let e = same_Some 10 d (sym (cond-true (c == 110) _ _ two) ∙ h) in omega (arith, e)
        | inr not_two ↦
            let h = sym (cond-false (c == 110) _ _ not_two) ∙ h in
            elim (cases_Bool (c == 114)) [
              | inl three ↦ let e = same_Some 13 d (sym (cond-true (c == 114) _ _ three) ∙ h) in omega (arith, e)
              | inr not_three ↦
                  let h = sym (cond-false (c == 114) _ _ not_three) ∙ h in
                  elim (cases_Bool (c == 116)) [
                    | inl four ↦ let e = same_Some 9 d (sym (cond-true (c == 116) _ _ four) ∙ h) in omega (arith, e)
                    | inr not_four ↦ absurd (none-some d (sym (cond-false (c == 116) _ _ not_four) ∙ h))
                  ]
            ]
      ]
]

pub escaped_none : (c : ℕ) → (c == 92) ≡ false → (c == 39) ≡ false → (c == 34) ≡ false → (c == 110) ≡ false → (c == 114) ≡ false → (c == 116) ≡ false → escaped c ≡ None
escaped_none c a b d e f g =
    cond-false ((c == 92) || (c == 39) || (c == 34)) _ _ (or_from ((c == 92) || (c == 39)) (c == 34) (or_from (c == 92) (c == 39) a b) d)
    ∙ cond-false (c == 110) _ _ e ∙ cond-false (c == 114) _ _ f ∙ cond-false (c == 116) _ _ g

escaped_high : (c : ℕ) → 128 ≤ c → escaped c ≡ None
escaped_high c high =
    let other : (n : ℕ) → n < 128 → (c == n) ≡ false = λ n below. ne_eqb c n (λ e. absurd (omega arith)) in
    escaped_none c (other 92 (omega arith)) (other 39 (omega arith)) (other 34 (omega arith)) (other 110 (omega arith)) (other 114 (omega arith)) (other 116 (omega arith))

abbrev before : List ℕ → Option ℕ → Reading ℕ
before rest o = option_and_then (λ (x : ℕ). let r : Reading ℕ = Some (x, rest) in r) o

escape_high : (c : ℕ) (bytes rest : List ℕ) → 128 ≤ c → 0 < length bytes → AllHigh bytes → escape_read (bytes ++ rest) ≡ before rest (escaped c)
escape_high c _ rest high some none = absurd (omega arith)
escape_high c _ rest high some (more b bytes above further) =
    ap (before (bytes ++ rest)) (escaped_high b above) ∙ sym (ap (before rest) (escaped_high c high))

-- what is read behind a backslash, by the character there
pub escape_char : (c : ℕ) (text rest : List ℕ) → text ≡ encode_utf8 c ++ rest → escape_read text ≡ before rest (escaped c)
escape_char c text rest e = elim (cases_lt c 128) [
  | inl below ↦ ap escape_read (e ∙ ap (λ (l : List ℕ). l ++ rest) (encode_ascii c below))
  | inr above ↦ ap escape_read e ∙ escape_high c (encode_utf8 c) rest above (omega (arith, length-encode c, (len_utf8_bounds c).0)) (encode_high c above)
]

pub escape_found : (c d : ℕ) (text rest : List ℕ) → text ≡ encode_utf8 c ++ rest → escaped c ≡ Some d → escape_read text ≡ Some (d, rest)
escape_found c d text rest e is = escape_char c text rest e ∙ ap (before rest) is

pub escape_none : (c : ℕ) (text rest : List ℕ) → text ≡ encode_utf8 c ++ rest → escaped c ≡ None → escape_read text ≡ None
escape_none c text rest e is = escape_char c text rest e ∙ ap (before rest) is

body_escaped : (mark c d : ℕ) (rest : List ℕ) → escaped c ≡ Some d → body_from mark (c ∷ rest) true ≡ with_front (d ∷ []) (body_read mark rest)
unfolding body_from
body_escaped mark c d rest is = ap (option_and_then (λ (x : ℕ). with_front (x ∷ []) (body_from mark rest false))) is

body_no_escape : (mark : ℕ) (bytes : List ℕ) → escape_read bytes ≡ None → body_from mark bytes true ≡ None
unfolding body_from
body_no_escape mark [] h = refl
body_no_escape mark (c ∷ bytes) h = by_escaped (escaped c) h
  where
    by_escaped : (o : Option ℕ) → option_and_then (λ (d : ℕ). let r : Reading ℕ = Some (d, bytes) in r) o ≡ None → option_and_then (λ (d : ℕ). with_front (d ∷ []) (body_from mark bytes false)) o ≡ None
    by_escaped None h = refl
    by_escaped (Some d) h = absurd (none-some (d, bytes) (sym h))

body_escape : (mark : ℕ) (bytes : List ℕ) (d : ℕ) (next : List ℕ) → escape_read bytes ≡ Some (d, next) → body_from mark bytes true ≡ with_front (encode_utf8 d) (body_read mark next)
body_escape mark [] d next h = absurd (none-some (d, next) h)
body_escape mark (c ∷ bytes) d next h =
    option_and_then_some (λ (x : ℕ). Some (x, bytes)) (escaped c) (d, next) h (λ x found e.
    let parts = some_pair_parts x d bytes next e in
    let here : escaped c ≡ Some d = found ∙ ap (λ (y : ℕ). Some y) parts.0 in
    body_escaped mark c d bytes here
    ∙ ap (λ (l : List ℕ). with_front (d ∷ []) (body_read mark l)) parts.1
    ∙ ap (λ (l : List ℕ). with_front l (body_read mark next)) (sym (encode_ascii d (escaped_low c d here))))

escape_shorter : (bytes : List ℕ) (d : ℕ) (next : List ℕ) → escape_read bytes ≡ Some (d, next) → length next ≤ length bytes
escape_shorter [] d next h = absurd (none-some (d, next) h)
escape_shorter (c ∷ bytes) d next h =
    option_and_then_some (λ (x : ℕ). Some (x, bytes)) (escaped c) (d, next) h (λ x found e.
    let parts = some_pair_parts x d bytes next e in
    omega (arith, ap length parts.1))

module _ (mark c : ℕ) (text behind : List ℕ) (e : text ≡ encode_utf8 c ++ behind) (below : mark < 128) where
  pub body_marked : c ≡ mark → body_read mark text ≡ Some ([], behind)
  unfolding body_from
  body_marked marks =
      let here : text ≡ c ∷ behind = e ∙ ap (λ (l : List ℕ). l ++ behind) (encode_ascii c (omega arith)) in
      ap (body_read mark) here ∙ cond-true (c == mark) _ _ (eq-eqb c mark marks)

  body_of_slash : c ≡ 92 → (c ≡ mark → ⊥) → body_read mark text ≡ body_from mark behind true
  body_of_slash slash no_mark =
      let here : text ≡ 92 ∷ behind = e ∙ ap (λ (x : ℕ). encode_utf8 x ++ behind) slash ∙ ap (λ (l : List ℕ). l ++ behind) (encode_ascii 92 (omega arith)) in
      ap (body_read mark) here ∙ body_slash mark behind (ne_eqb 92 mark (λ e'. no_mark (slash ∙ e')))

  body_of_plain : (c ≡ 92 → ⊥) → (c ≡ mark → ⊥) → body_read mark text ≡ with_front (encode_utf8 c) (body_read mark behind)
  body_of_plain no_slash no_mark = elim (cases_lt c 128) [
    | inl low ↦
        let one = encode_ascii c low in
        let here : text ≡ c ∷ behind = e ∙ ap (λ (l : List ℕ). l ++ behind) one in
        ap (body_read mark) here
        ∙ body_plain mark c behind (ne_eqb c mark no_mark) (ne_eqb c 92 no_slash)
        ∙ ap (λ (l : List ℕ). with_front l (body_read mark behind)) (sym one)
    | inr high ↦ ap (body_read mark) e ∙ body_high mark (encode_utf8 c) behind below (encode_high c high)
  ]

  pub body_char : (c ≡ mark → ⊥) → (d : ℕ) (next : List ℕ) → char_read c behind ≡ Some (d, next) → body_read mark text ≡ with_front (encode_utf8 d) (body_read mark next)
  body_char no_mark d next h = elim (cases_Bool (c == 92)) [
    | inl slash ↦ body_of_slash (eqb-true c 92 slash) no_mark ∙ body_escape mark behind d next (sym (cond-true (c == 92) _ _ slash) ∙ h)
    | inr no_slash ↦
        let parts = some_pair_parts c d behind next (sym (cond-false (c == 92) _ _ no_slash) ∙ h) in
        body_of_plain (eqb-false c 92 no_slash) no_mark
        ∙ ap (λ (x : ℕ). with_front (encode_utf8 x) (body_read mark behind)) parts.0
        ∙ ap (λ (l : List ℕ). with_front (encode_utf8 d) (body_read mark l)) parts.1
  ]

  pub body_unread : (c ≡ mark → ⊥) → char_read c behind ≡ None → body_read mark text ≡ None
  body_unread no_mark h = elim (cases_Bool (c == 92)) [
    | inl slash ↦ body_of_slash (eqb-true c 92 slash) no_mark ∙ body_no_escape mark behind (sym (cond-true (c == 92) _ _ slash) ∙ h)
    | inr no_slash ↦ absurd (none-some (c, behind) (sym (sym (cond-false (c == 92) _ _ no_slash) ∙ h)))
  ]

  pub body_shorter : (d : ℕ) (next : List ℕ) → char_read c behind ≡ Some (d, next) → length next < length text
  body_shorter d next h =
      let less = length_behind c text behind e in
      elim (cases_Bool (c == 92)) [
        | inl slash ↦ let fewer = escape_shorter behind d next (sym (cond-true (c == 92) _ _ slash) ∙ h) in omega (arith, fewer, less)
        | inr no_slash ↦
            let parts = some_pair_parts c d behind next (sym (cond-false (c == 92) _ _ no_slash) ∙ h) in
            omega (arith, ap length parts.1, less)
      ]

-- a text begins with another character than a mark
pub quoted_unmarked : (c : ℕ) (text rest : List ℕ) → text ≡ encode_utf8 c ++ rest → is_mark c ≡ false → quoted_read text ≡ None
unfolding quoted_read
quoted_unmarked c text rest e fails =
    let f = first_of_text c text rest e in
    ap quoted_read f.whole ∙ cond-false (is_mark f.first) _ _ (f.same is_mark marks_low ∙ fails)

pub quoted_marked : (c : ℕ) (text rest : List ℕ) → text ≡ encode_utf8 c ++ rest → is_mark c ≡ true → quoted_read text ≡ body_read c rest
unfolding quoted_read
quoted_marked c text rest e marks = ap quoted_read (one_byte is_mark marks_low c text rest e marks) ∙ cond-true (is_mark c) _ _ marks
