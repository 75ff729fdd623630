-- What is in the grammar is read, whatever stands behind it.
use Rattle.std.proofs.Common.{◌≡◌, ◌⊎◌, ℕ, zero, suc, ◌<◌, ◌≤◌, Bool, true, false, ◌&&◌, ◌||◌, ◌==◌, leb, List, [], ◌∷◌, ◌++◌, length, Option, Some, None, option_and_then, ℤ, refl, ap, sym, ◌∙◌, subst, inl, inr, arith, append_assoc, length-append}
use Rattle.std.specs.Prelude.{codes, bytes_eq}
use Rattle.std.specs.Option.{option_map_or}
use Rattle.std.specs.List.{list_all}
use Rattle.std.proofs.lemmas.Bool.{cases_Bool, or_cases, and_parts, and_from, or_left, or_right, leb-true, eqb-true, ne_eqb, cond-true, cond-false}
use Rattle.expr_lang.specs.declared.function.Nullary.{Nullary}
use Rattle.expr_lang.specs.declared.function.Unary.{Unary}
use Rattle.expr_lang.specs.declared.function.Binary.{Binary}
use Rattle.expr_lang.specs.declared.function.Function.{Function}
use Rattle.expr_lang.specs.declared.function.Function.TheVariants.{Alone, WithOne, WithTwo}
use Rattle.expr_lang.specs.Bytes.{is_space, is_letter, is_digit, starts_name, is_name_byte}
use Rattle.expr_lang.specs.Grammar.{AreSpaces, IsName, IsQuoted, IsNumber, IsArgument, IsSubject, IsCall, IsExpression, IsEmbedded}
use Rattle.expr_lang.specs.Names.{name_of, function_named}
use Rattle.expr_lang.specs.Reading.{Reading, front_while, behind_while, behind_spaces, behind_token, is_mark, quoted_read, number_read, truth_read, argument_read, literal_read, name_read, subject_read, arguments_read, call_read, calls_read, expression_read, embedded_read}
use Rattle.expr_lang.specs.Tree.{Term, attribute, constant, alone, with_one, with_two}
use Rattle.expr_lang.specs.Value.{text, number, truth}
use Rattle.expr_lang.proofs.Fronts.{IsRead, Stops, front_all, behind_all, behind_stopped, behind_all_spaces, token_complete, token_none}
use Rattle.expr_lang.proofs.Quotes.{mark_cases, quoted_complete}
use Rattle.expr_lang.proofs.Numerals.{digit_range, all_from_digits, number_complete}
use Rattle.expr_lang.proofs.Named.{named_complete}
use Rattle.expr_lang.proofs.Sound.{subject_name, calls_same, calls_end, calls_step, embedded_sound}

-- ---- what stands behind

space_apart : (p : ℕ → Bool) → p 32 ≡ false → p 9 ≡ false → p 10 ≡ false → p 13 ≡ false → (c : ℕ) → is_space c ≡ true → p c ≡ false
space_apart p one two three four c h = elim (or_cases ((c == 32) || (c == 9) || (c == 10)) (c == 13) h) [
  | inl h ↦ elim (or_cases ((c == 32) || (c == 9)) (c == 10) h) [
    | inl h ↦ elim (or_cases (c == 32) (c == 9) h) [
      | inl h ↦ ap p (eqb-true c 32 h) ∙ one
      | inr h ↦ ap p (eqb-true c 9 h) ∙ two
    ]
    | inr h ↦ ap p (eqb-true c 10 h) ∙ three
  ]
  | inr h ↦ ap p (eqb-true c 13 h) ∙ four
]

stops_behind : (p : ℕ → Bool) → p 32 ≡ false → p 9 ≡ false → p 10 ≡ false → p 13 ≡ false → (w : List ℕ) (mark : ℕ) (rest : List ℕ) → AreSpaces w → p mark ≡ false → Stops p (w ++ (mark ∷ rest))
stops_behind p one two three four [] mark rest spaces fails = fails
stops_behind p one two three four (c ∷ w) mark rest spaces fails = space_apart p one two three four c (and_parts (is_space c) (list_all is_space w) spaces).0

-- a colon or a closing brace follows, behind spaces
pub record Follows (rest : List ℕ) : Type 0 where
  pub spaces : List ℕ
  pub mark : ℕ
  pub tail : List ℕ
  pub are_spaces : AreSpaces spaces
  pub is_mark : (mark ≡ 58) ⊎ (mark ≡ 125)
  pub whole : rest ≡ spaces ++ (mark ∷ tail)

at_either : (p : ℕ → Bool) → p 58 ≡ false → p 125 ≡ false → (mark : ℕ) → (mark ≡ 58) ⊎ (mark ≡ 125) → p mark ≡ false
at_either p one two mark (inl e) = ap p e ∙ one
at_either p one two mark (inr e) = ap p e ∙ two

no_name_behind : (rest : List ℕ) → Follows rest → Stops is_name_byte rest
no_name_behind rest f = subst (Stops is_name_byte) (sym f.whole) (stops_behind is_name_byte refl refl refl refl f.spaces f.mark f.tail f.are_spaces (at_either is_name_byte refl refl f.mark f.is_mark))

no_parenthesis_behind : (rest : List ℕ) → Follows rest → behind_token (codes "(") rest ≡ None
no_parenthesis_behind rest f = ap (behind_token (codes "(")) f.whole
    ∙ token_none 40 f.mark f.spaces f.tail f.are_spaces (at_either is_space refl refl f.mark f.is_mark) (at_either (λ (c : ℕ). c == 40) refl refl f.mark f.is_mark)

-- ---- what stands in front

-- the bytes begin with this one, which is no space
pub record Begins (bytes : List ℕ) : Type 0 where
  pub first : ℕ
  pub tail : List ℕ
  pub no_space : is_space first ≡ false
  pub whole : bytes ≡ first ∷ tail

begins_more : (bytes more : List ℕ) → Begins bytes → Begins (bytes ++ more)
begins_more bytes more b = record { first = b.first; tail = b.tail ++ more; no_space = b.no_space; whole = ap (λ (l : List ℕ). l ++ more) b.whole }

begins_stops : (bytes more : List ℕ) → Begins bytes → Stops is_space (bytes ++ more)
begins_stops bytes more b = subst (λ (l : List ℕ). Stops is_space (l ++ more)) (sym b.whole) b.no_space

not_true : (b : Bool) → (b ≡ true → ⊥) → b ≡ false
not_true true h = absurd (h refl)
not_true false h = refl

between : (low high c : ℕ) → (leb low c && leb c high) ≡ true → (low ≤ c) × (c ≤ high)
between low high c h = let parts = and_parts (leb low c) (leb c high) h in (leb-true low c parts.0, leb-true c high parts.1)

letter_above : (c : ℕ) → is_letter c ≡ true → 64 < c
letter_above c h = elim (or_cases (leb 65 c && leb c 90) (leb 97 c && leb c 122) h) [
  | inl h ↦ let r = between 65 90 c h in omega (arith, r.0)
  | inr h ↦ let r = between 97 122 c h in omega (arith, r.0)
]

name_above : (c : ℕ) → starts_name c ≡ true → 64 < c
name_above c h = elim (or_cases (is_letter c) (c == 95) h) [
  | inl h ↦ letter_above c h
  | inr h ↦ let e = eqb-true c 95 h in omega (arith, e)
]

low_space : (c : ℕ) → is_space c ≡ true → c < 33
low_space c h = elim (or_cases ((c == 32) || (c == 9) || (c == 10)) (c == 13) h) [
  | inl h ↦ elim (or_cases ((c == 32) || (c == 9)) (c == 10) h) [
    | inl h ↦ elim (or_cases (c == 32) (c == 9) h) [
      | inl h ↦ let e = eqb-true c 32 h in omega (arith, e)
      | inr h ↦ let e = eqb-true c 9 h in omega (arith, e)
    ]
    | inr h ↦ let e = eqb-true c 10 h in omega (arith, e)
  ]
  | inr h ↦ let e = eqb-true c 13 h in omega (arith, e)
]

above_space : (c : ℕ) → 32 < c → is_space c ≡ false
above_space c h = not_true (is_space c) (λ s. let low = low_space c s in absurd (omega (arith, low)))

mark_within : (c : ℕ) → is_mark c ≡ true → (33 < c) × (c < 40) × (c ≡ 36 → ⊥)
mark_within c h = elim (mark_cases c h) [
  | inl e ↦ (omega arith, omega arith, λ d. absurd (omega arith))
  | inr e ↦ (omega arith, omega arith, λ d. absurd (omega arith))
]

unmarked_above : (c : ℕ) → 39 < c → is_mark c ≡ false
unmarked_above c h = not_true (is_mark c) (λ m. let w = mark_within c m in absurd (omega (arith, w.1)))

numeral_within : (c : ℕ) → ((c == 45) || is_digit c) ≡ true → 44 < c
numeral_within c h = elim (or_cases (c == 45) (is_digit c) h) [
  | inl h ↦ let e = eqb-true c 45 h in omega (arith, e)
  | inr h ↦ let r = digit_range c h in omega (arith, r.0)
]

-- ---- the first byte of each form

quoted_begins : (bytes s : List ℕ) → IsQuoted bytes s → Begins bytes
quoted_begins bytes s q =
    let marks : is_mark q.mark ≡ true = elim q.is_mark [ inl e ↦ ap is_mark e | inr e ↦ ap is_mark e ] in
    let w = mark_within q.mark marks in
    record { first = q.mark; tail = q.body ++ (q.mark ∷ []); no_space = above_space q.mark (omega (arith, w.0)); whole = q.whole }

is_quote : (bytes s : List ℕ) → (q : IsQuoted bytes s) → is_mark q.mark ≡ true
is_quote bytes s q = elim q.is_mark [ inl e ↦ ap is_mark e | inr e ↦ ap is_mark e ]

-- the first byte of a number
record BeginsNumeral (bytes : List ℕ) : Type 0 where
  first : ℕ
  tail : List ℕ
  numeral : ((first == 45) || is_digit first) ≡ true
  whole : bytes ≡ first ∷ tail

digits_begin : (digits : List ℕ) → 0 < length digits → list_all is_digit digits ≡ true → BeginsNumeral digits
digits_begin [] some all = absurd (omega arith)
digits_begin (c ∷ digits) some all = record { first = c; tail = digits; numeral = or_right (c == 45) (is_digit c) (and_parts (is_digit c) (list_all is_digit digits) all).0; whole = refl }

number_begins : (bytes : List ℕ) (z : ℤ) → IsNumber bytes z → BeginsNumeral bytes
number_begins bytes z n = elim n.whole [
  | inl e ↦ let b = digits_begin n.digits n.numeral.0 (all_from_digits n.digits n.numeral.1) in record { first = b.first; tail = b.tail; numeral = b.numeral; whole = e ∙ b.whole }
  | inr e ↦ record { first = 45; tail = n.digits; numeral = refl; whole = e }
]

name_begins : (bytes : List ℕ) → IsName bytes → Begins bytes
name_begins [] name = absurd name
name_begins (c ∷ cs) name = let above = name_above c name.0 in record { first = c; tail = cs; no_space = above_space c (omega (arith, above)); whole = refl }

letters_begin : (name more : List ℕ) → 0 < length name → list_all is_letter name ≡ true → Begins (name ++ more)
letters_begin [] more some all = absurd (omega arith)
letters_begin (c ∷ cs) more some all =
    let above = letter_above c (and_parts (is_letter c) (list_all is_letter cs) all).0 in
    record { first = c; tail = cs ++ more; no_space = above_space c (omega (arith, above)); whole = refl }

module _ (E : List ℕ → Reading Term) (G : List ℕ → Term → Type 0) (opens : (bytes : List ℕ) (t : Term) → G bytes t → (tail : List ℕ) × (bytes ≡ 36 ∷ tail)) where
  argument_begins : (bytes : List ℕ) (t : Term) → IsArgument G bytes t → Begins bytes
  argument_begins _ _ (IsArgument.quoted bytes s q) = quoted_begins bytes s q
  argument_begins _ _ (IsArgument.numeral bytes z n) =
      let b = number_begins bytes z n in
      let above = numeral_within b.first b.numeral in
      record { first = b.first; tail = b.tail; no_space = above_space b.first (omega (arith, above)); whole = b.whole }
  argument_begins _ _ IsArgument.truly = record { first = 116; tail = codes "rue"; no_space = refl; whole = refl }
  argument_begins _ _ IsArgument.falsely = record { first = 102; tail = codes "alse"; no_space = refl; whole = refl }
  argument_begins _ _ (IsArgument.nested bytes t g) = let o = opens bytes t g in record { first = 36; tail = o.0; no_space = refl; whole = o.1 }

  subject_begins : (bytes : List ℕ) (t : Term) → IsSubject G bytes t → Begins bytes
  subject_begins _ _ (IsSubject.named bytes name) = name_begins bytes name
  subject_begins _ _ (IsSubject.quoted bytes s q) = quoted_begins bytes s q
  subject_begins _ _ (IsSubject.literal u v argument w t spaces spaces' meant spaces'') =
      record { first = 108; tail = codes "iteral" ++ (u ++ (40 ∷ (v ++ (argument ++ (w ++ (41 ∷ [])))))); no_space = refl; whole = refl }

  call_begins : (before : Term) (bytes : List ℕ) (t : Term) → IsCall G before bytes t → Begins bytes
  call_begins before _ _ (IsCall.no_argument f u v spaces spaces') =
      let own = named_complete (Alone f) in letters_begin (name_of (Alone f)) _ own.some own.letters
  call_begins before _ _ (IsCall.one_argument f u v first w x spaces spaces' meant spaces'') =
      let own = named_complete (WithOne f) in letters_begin (name_of (WithOne f)) _ own.some own.letters
  call_begins before _ _ (IsCall.two_arguments f u v first w w' second w'' x y spaces spaces' meant spaces'' spaces''' meant' spaces'''') =
      let own = named_complete (WithTwo f) in letters_begin (name_of (WithTwo f)) _ own.some own.letters

  expression_begins : (bytes : List ℕ) (t : Term) → IsExpression G bytes t → Begins bytes
  expression_begins _ _ (IsExpression.subject bytes t meant) = subject_begins bytes t meant
  expression_begins _ _ (IsExpression.call front u v bytes t t' meant spaces spaces' called) = begins_more front (u ++ (58 ∷ (v ++ bytes))) (expression_begins front t meant)

  -- ---- arguments

  module _ (complete : (bytes : List ℕ) (t : Term) (rest : List ℕ) → G bytes t → E (bytes ++ rest) ≡ Some (t, rest)) where
    -- reading goes by the first byte
    by_first : (R K : List ℕ → Reading Term) (bytes rest : List ℕ) (c : ℕ) (tail : List ℕ) → bytes ≡ c ∷ tail → ((l : List ℕ) → R (c ∷ l) ≡ K (c ∷ l)) → R (bytes ++ rest) ≡ K (bytes ++ rest)
    by_first R K bytes rest c tail e h = subst (λ (l : List ℕ). R (l ++ rest) ≡ K (l ++ rest)) (sym e) (h (tail ++ rest))

    abbrev quoted_argument : List ℕ → Reading Term
    quoted_argument l = option_and_then {U = Term × List ℕ} (λ (x : List ℕ × List ℕ). Some (constant (text x.0), x.1)) (quoted_read l)

    abbrev number_argument : List ℕ → Reading Term
    number_argument l = option_and_then {U = Term × List ℕ} (λ (x : ℤ × List ℕ). Some (constant (number x.0), x.1)) (number_read l)

    argument_quoted : (c : ℕ) (l : List ℕ) → is_mark c ≡ true → argument_read E (c ∷ l) ≡ quoted_argument (c ∷ l)
    unfolding argument_read
    argument_quoted c l marks =
        let w = mark_within c marks in
        cond-false (c == 36) _ _ (ne_eqb c 36 w.2) ∙ cond-true (is_mark c) _ _ marks

    argument_number : (c : ℕ) (l : List ℕ) → ((c == 45) || is_digit c) ≡ true → argument_read E (c ∷ l) ≡ number_argument (c ∷ l)
    unfolding argument_read
    argument_number c l numeral =
        let above = numeral_within c numeral in
        cond-false (c == 36) _ _ (ne_eqb c 36 (λ e. absurd (omega (arith, above))))
        ∙ cond-false (is_mark c) _ _ (unmarked_above c (omega (arith, above)))
        ∙ cond-true ((c == 45) || is_digit c) _ _ numeral

    argument_nested : (l : List ℕ) → argument_read E (36 ∷ l) ≡ E (36 ∷ l)
    unfolding argument_read
    argument_nested l = refl

    argument_truth : (rest : List ℕ) → (argument_read E (codes "true" ++ rest) ≡ Some (constant (truth true), rest)) × (argument_read E (codes "false" ++ rest) ≡ Some (constant (truth false), rest))
    unfolding argument_read truth_read
    argument_truth rest = (refl, refl)

    argument_complete : (bytes : List ℕ) (t : Term) (rest : List ℕ) → IsArgument G bytes t → Stops is_digit rest → argument_read E (bytes ++ rest) ≡ Some (t, rest)
    argument_complete _ _ rest (IsArgument.quoted bytes s q) stops =
        by_first (argument_read E) quoted_argument bytes rest q.mark (q.body ++ (q.mark ∷ [])) q.whole (λ l. argument_quoted q.mark l (is_quote bytes s q))
        ∙ ap (option_and_then {U = Term × List ℕ} (λ (x : List ℕ × List ℕ). Some (constant (text x.0), x.1))) (quoted_complete bytes s rest q)
    argument_complete _ _ rest (IsArgument.numeral bytes z n) stops =
        let b = number_begins bytes z n in
        by_first (argument_read E) number_argument bytes rest b.first b.tail b.whole (λ l. argument_number b.first l b.numeral)
        ∙ ap (option_and_then {U = Term × List ℕ} (λ (x : ℤ × List ℕ). Some (constant (number x.0), x.1))) (number_complete bytes z rest n stops)
    argument_complete _ _ rest IsArgument.truly stops = (argument_truth rest).0
    argument_complete _ _ rest IsArgument.falsely stops = (argument_truth rest).1
    argument_complete _ _ rest (IsArgument.nested bytes t g) stops =
        let o = opens bytes t g in
        by_first (argument_read E) E bytes rest 36 o.0 o.1 argument_nested ∙ complete bytes t rest g

    -- an argument behind spaces, and before spaces and a byte
    spaced_argument : (v argument w : List ℕ) (t : Term) (mark : ℕ) (rest : List ℕ) → AreSpaces v → IsArgument G argument t → AreSpaces w → is_digit mark ≡ false →
        argument_read E (behind_spaces (v ++ (argument ++ (w ++ (mark ∷ rest))))) ≡ Some (t, w ++ (mark ∷ rest))
    spaced_argument v argument w t mark rest spaces meant spaces' no_digit =
        ap (argument_read E) (behind_all_spaces v (argument ++ (w ++ (mark ∷ rest))) spaces (begins_stops argument (w ++ (mark ∷ rest)) (argument_begins argument t meant)))
        ∙ argument_complete argument t (w ++ (mark ∷ rest)) meant (stops_behind is_digit refl refl refl refl w mark rest spaces' no_digit)

    literal_complete : (v argument w : List ℕ) (t : Term) (rest : List ℕ) → AreSpaces v → IsArgument G argument t → AreSpaces w →
        literal_read E (v ++ (argument ++ (w ++ (41 ∷ rest)))) ≡ Some (t, rest)
    unfolding literal_read
    literal_complete v argument w t rest spaces meant spaces' =
        ap (option_and_then (λ (x : Term × List ℕ). option_and_then {U = Term × List ℕ} (λ (left : List ℕ). Some (x.0, left)) (behind_token (codes ")") x.1))) (spaced_argument v argument w t 41 rest spaces meant spaces' refl)
        ∙ ap (option_and_then {U = Term × List ℕ} (λ (left : List ℕ). Some (t, left))) (token_complete 41 w rest spaces' refl)

    -- ---- subjects

    -- a name as long as it goes
    name_all : (c : ℕ) (cs rest : List ℕ) → is_mark c ≡ false → IsName (c ∷ cs) → Stops is_name_byte rest → subject_read E ((c ∷ cs) ++ rest) ≡ name_read E (c ∷ cs) rest
    name_all c cs rest unmarked name stops =
        let named : is_name_byte c ≡ true = or_left (starts_name c || is_digit c || (c == 46)) (c == 45) (or_left (starts_name c || is_digit c) (c == 46) (or_left (starts_name c) (is_digit c) name.0)) in
        let all : list_all is_name_byte (c ∷ cs) ≡ true = and_from (is_name_byte c) (list_all is_name_byte cs) named name.1 in
        subject_name E c (cs ++ rest) unmarked name.0
        ∙ ap (λ (l : List ℕ). name_read E l (behind_while is_name_byte ((c ∷ cs) ++ rest))) (front_all is_name_byte (c ∷ cs) rest all stops)
        ∙ ap (name_read E (c ∷ cs)) (behind_all is_name_byte (c ∷ cs) rest all ∙ behind_stopped is_name_byte rest stops)

    plain_name : (name rest : List ℕ) → behind_token (codes "(") rest ≡ None → name_read E name rest ≡ Some (attribute name, rest)
    unfolding name_read
    plain_name name rest none = elim (cases_Bool (bytes_eq name (codes "literal"))) [
      | inl is ↦ cond-true (bytes_eq name (codes "literal")) _ _ is ∙ ap (λ (o : Option (List ℕ)). option_map_or (literal_read E) o (Some (attribute name, rest))) none
      | inr other ↦ cond-false (bytes_eq name (codes "literal")) _ _ other
    ]

    literal_name : (rest inside : List ℕ) → behind_token (codes "(") rest ≡ Some inside → name_read E (codes "literal") rest ≡ literal_read E inside
    unfolding name_read
    literal_name rest inside is = ap (λ (o : Option (List ℕ)). option_map_or (literal_read E) o (Some (attribute (codes "literal"), rest))) is

    subject_quoted : (c : ℕ) (l : List ℕ) → is_mark c ≡ true → subject_read E (c ∷ l) ≡ option_and_then {U = Term × List ℕ} (λ (x : List ℕ × List ℕ). Some (attribute x.0, x.1)) (quoted_read (c ∷ l))
    unfolding subject_read
    subject_quoted c l marks = cond-true (is_mark c) _ _ marks

    named_complete_at : (bytes rest : List ℕ) → IsName bytes → Stops is_name_byte rest → behind_token (codes "(") rest ≡ None → subject_read E (bytes ++ rest) ≡ Some (attribute bytes, rest)
    named_complete_at [] rest name stops none = absurd name
    named_complete_at (c ∷ cs) rest name stops none =
        let above = name_above c name.0 in
        name_all c cs rest (unmarked_above c (omega (arith, above))) name stops ∙ plain_name (c ∷ cs) rest none

    subject_complete : (bytes : List ℕ) (t : Term) (rest : List ℕ) → IsSubject G bytes t → Stops is_name_byte rest → behind_token (codes "(") rest ≡ None → subject_read E (bytes ++ rest) ≡ Some (t, rest)
    subject_complete _ _ rest (IsSubject.named bytes name) stops none = named_complete_at bytes rest name stops none
    subject_complete _ _ rest (IsSubject.quoted bytes s q) stops none =
        by_first (subject_read E) (λ (l : List ℕ). option_and_then {U = Term × List ℕ} (λ (x : List ℕ × List ℕ). Some (attribute x.0, x.1)) (quoted_read l)) bytes rest q.mark (q.body ++ (q.mark ∷ [])) q.whole (λ l. subject_quoted q.mark l (is_quote bytes s q))
        ∙ ap (option_and_then {U = Term × List ℕ} (λ (x : List ℕ × List ℕ). Some (attribute x.0, x.1))) (quoted_complete bytes s rest q)
    subject_complete _ _ rest (IsSubject.literal u v argument w t spaces spaces' meant spaces'') stops none =
        let inside : List ℕ = v ++ (argument ++ (w ++ (41 ∷ rest))) in
        let joined : (codes "literal" ++ (u ++ (40 ∷ (v ++ (argument ++ (w ++ (41 ∷ []))))))) ++ rest ≡ codes "literal" ++ (u ++ (40 ∷ inside)) = simp append_assoc in
        ap (subject_read E) joined
        ∙ name_all 108 (codes "iteral") (u ++ (40 ∷ inside)) refl (refl, refl) (stops_behind is_name_byte refl refl refl refl u 40 inside spaces refl)
        ∙ literal_name (u ++ (40 ∷ inside)) inside (token_complete 40 u inside spaces refl)
        ∙ literal_complete v argument w t rest spaces' meant spaces''

    -- ---- calls

    call_of : (f : Function) (before : Term) (u inside : List ℕ) → AreSpaces u → call_read E before (name_of f ++ (u ++ (40 ∷ inside))) ≡ arguments_read E before f inside
    unfolding call_read
    call_of f before u inside spaces =
        let own = named_complete f in
        let behind : List ℕ = u ++ (40 ∷ inside) in
        let bytes : List ℕ = name_of f ++ behind in
        let stops = stops_behind is_letter refl refl refl refl u 40 inside spaces refl in
        let found : function_named (front_while is_letter bytes) ≡ Some f = ap function_named (front_all is_letter (name_of f) behind own.letters stops) ∙ own.found in
        let opened : behind_token (codes "(") (behind_while is_letter bytes) ≡ Some inside =
        ap (behind_token (codes "(")) (behind_all is_letter (name_of f) behind own.letters ∙ behind_stopped is_letter behind stops) ∙ token_complete 40 u inside spaces refl in
        ap (option_and_then (λ (g : Function). option_and_then {U = Term × List ℕ} (λ (left : List ℕ). arguments_read E before g left) (behind_token (codes "(") (behind_while is_letter bytes)))) found
        ∙ ap (option_and_then {U = Term × List ℕ} (λ (left : List ℕ). arguments_read E before f left)) opened

    arguments_none : (f : Nullary) (before : Term) (v rest : List ℕ) → AreSpaces v → arguments_read E before (Alone f) (v ++ (41 ∷ rest)) ≡ Some (alone f before, rest)
    unfolding arguments_read
    arguments_none f before v rest spaces = ap (option_and_then {U = Term × List ℕ} (λ (left : List ℕ). Some (alone f before, left))) (token_complete 41 v rest spaces refl)

    arguments_one : (f : Unary) (before : Term) (v first w : List ℕ) (x : Term) (rest : List ℕ) → AreSpaces v → IsArgument G first x → AreSpaces w →
        arguments_read E before (WithOne f) (v ++ (first ++ (w ++ (41 ∷ rest)))) ≡ Some (with_one f before x, rest)
    unfolding arguments_read
    arguments_one f before v first w x rest spaces meant spaces' =
        ap (option_and_then (λ (y : Term × List ℕ). option_and_then {U = Term × List ℕ} (λ (left : List ℕ). Some (with_one f before y.0, left)) (behind_token (codes ")") y.1))) (spaced_argument v first w x 41 rest spaces meant spaces' refl)
        ∙ ap (option_and_then {U = Term × List ℕ} (λ (left : List ℕ). Some (with_one f before x, left))) (token_complete 41 w rest spaces' refl)

    -- what is read behind a comma
    abbrev second_of : Binary → Term → Term → List ℕ → Reading Term
    second_of f t x middle = option_and_then (λ (y : Term × List ℕ). option_and_then {U = Term × List ℕ} (λ (end : List ℕ). Some (with_two f t x y.0, end)) (behind_token (codes ")") y.1)) (argument_read E (behind_spaces middle))

    arguments_two : (f : Binary) (before : Term) (v first w v' second w' : List ℕ) (x y : Term) (rest : List ℕ) → AreSpaces v → IsArgument G first x → AreSpaces w → AreSpaces v' → IsArgument G second y → AreSpaces w' →
        arguments_read E before (WithTwo f) (v ++ (first ++ (w ++ (44 ∷ (v' ++ (second ++ (w' ++ (41 ∷ rest)))))))) ≡ Some (with_two f before x y, rest)
    unfolding arguments_read
    arguments_two f before v first w v' second w' x y rest a meant b c meant' d =
        let middle : List ℕ = v' ++ (second ++ (w' ++ (41 ∷ rest))) in
        ap (option_and_then (λ (z : Term × List ℕ). option_and_then (second_of f before z.0) (behind_token (codes ",") z.1))) (spaced_argument v first w x 44 middle a meant b refl)
        ∙ ap (option_and_then (second_of f before x)) (token_complete 44 w middle b refl)
        ∙ ap (option_and_then (λ (z : Term × List ℕ). option_and_then {U = Term × List ℕ} (λ (left : List ℕ). Some (with_two f before x z.0, left)) (behind_token (codes ")") z.1))) (spaced_argument v' second w' y 41 rest c meant' d refl)
        ∙ ap (option_and_then {U = Term × List ℕ} (λ (left : List ℕ). Some (with_two f before x y, left))) (token_complete 41 w' rest d refl)

    call_complete : (before : Term) (bytes : List ℕ) (t : Term) (rest : List ℕ) → IsCall G before bytes t → call_read E before (bytes ++ rest) ≡ Some (t, rest)
    call_complete before _ _ rest (IsCall.no_argument f u v a b) =
        let joined : (name_of (Alone f) ++ (u ++ (40 ∷ (v ++ (41 ∷ []))))) ++ rest ≡ name_of (Alone f) ++ (u ++ (40 ∷ (v ++ (41 ∷ rest)))) = simp append_assoc in
        ap (call_read E before) joined ∙ call_of (Alone f) before u (v ++ (41 ∷ rest)) a ∙ arguments_none f before v rest b
    call_complete before _ _ rest (IsCall.one_argument f u v first w x a b meant c) =
        let joined : (name_of (WithOne f) ++ (u ++ (40 ∷ (v ++ (first ++ (w ++ (41 ∷ []))))))) ++ rest ≡ name_of (WithOne f) ++ (u ++ (40 ∷ (v ++ (first ++ (w ++ (41 ∷ rest)))))) = simp append_assoc in
        ap (call_read E before) joined ∙ call_of (WithOne f) before u (v ++ (first ++ (w ++ (41 ∷ rest)))) a ∙ arguments_one f before v first w x rest b meant c
    call_complete before _ _ rest (IsCall.two_arguments f u v first w v' second w' x y a b meant c d meant' e) =
        let inside : List ℕ = v ++ (first ++ (w ++ (44 ∷ (v' ++ (second ++ (w' ++ (41 ∷ rest))))))) in
        let joined : (name_of (WithTwo f) ++ (u ++ (40 ∷ (v ++ (first ++ (w ++ (44 ∷ (v' ++ (second ++ (w' ++ (41 ∷ []))))))))))) ++ rest ≡ name_of (WithTwo f) ++ (u ++ (40 ∷ inside)) = simp append_assoc in
        ap (call_read E before) joined ∙ call_of (WithTwo f) before u inside a ∙ arguments_two f before v first w v' second w' x y rest b meant c d meant' e

    -- ---- expressions

    module _ (sound : (bytes : List ℕ) (t : Term) (rest : List ℕ) → E bytes ≡ Some (t, rest) → IsRead G bytes t rest) where
      -- the calls that are left
      expression_calls : (bytes : List ℕ) (t : Term) (rest : List ℕ) (n : ℕ) → IsExpression G bytes t → Follows rest → length rest ≤ n → expression_read E (bytes ++ rest) ≡ calls_read E n t rest
      unfolding expression_read
      expression_calls _ _ rest n (IsExpression.subject bytes t meant) follows below =
          ap (option_and_then (λ (x : Term × List ℕ). calls_read E (length x.1) x.0 x.1)) (subject_complete bytes t rest meant (no_name_behind rest follows) (no_parenthesis_behind rest follows))
          ∙ calls_same E G sound (length rest) n t rest (omega arith) below
      expression_calls _ _ rest n (IsExpression.call front u v bytes t t' meant spaces spaces' called) follows below =
          let left : List ℕ = v ++ (bytes ++ rest) in
          let behind : List ℕ = u ++ (58 ∷ left) in
          let joined : (front ++ (u ++ (58 ∷ (v ++ bytes)))) ++ rest ≡ front ++ behind = simp append_assoc in
          let here : Follows behind = record { spaces = u; mark = 58; tail = left; are_spaces = spaces; is_mark = inl refl; whole = refl } in
          let there : call_read E t (behind_spaces left) ≡ Some (t', rest) =
          ap (call_read E t) (behind_all_spaces v (bytes ++ rest) spaces' (begins_stops bytes rest (call_begins t bytes t' called))) ∙ call_complete t bytes t' rest called in
          let long : length rest ≤ length behind = omega (arith, length-append u (58 ∷ left), length-append v (bytes ++ rest), length-append bytes rest) in
          ap (expression_read E) joined
          ∙ expression_calls front t behind (suc (length behind)) meant here (omega arith)
          ∙ calls_step E (length behind) t behind left (token_complete 58 u left spaces refl)
          ∙ ap (option_and_then (λ (x : Term × List ℕ). calls_read E (length behind) x.0 x.1)) there
          ∙ calls_same E G sound (length behind) n t' rest long below

      -- up to a brace
      expression_complete : (bytes : List ℕ) (t : Term) (w tail : List ℕ) → IsExpression G bytes t → AreSpaces w → expression_read E (bytes ++ (w ++ (125 ∷ tail))) ≡ Some (t, w ++ (125 ∷ tail))
      expression_complete bytes t w tail meant spaces =
          let rest : List ℕ = w ++ (125 ∷ tail) in
          expression_calls bytes t rest (length rest) meant (record { spaces = w; mark = 125; tail = tail; are_spaces = spaces; is_mark = inr refl; whole = refl }) (omega arith)
          ∙ calls_end E (length rest) t rest (token_none 58 125 w tail spaces refl refl)

opens_with : (depth : ℕ) (bytes : List ℕ) (t : Term) → IsEmbedded depth bytes t → (tail : List ℕ) × (bytes ≡ 36 ∷ tail)
opens_with zero bytes t g = absurd g
opens_with (suc depth) bytes t g = (123 ∷ (g.before ++ (g.inner ++ (g.behind ++ (125 ∷ [])))), g.whole)

pub embedded_complete : (depth : ℕ) (bytes : List ℕ) (t : Term) (rest : List ℕ) → IsEmbedded depth bytes t → embedded_read depth (bytes ++ rest) ≡ Some (t, rest)
unfolding embedded_read
embedded_complete zero bytes t rest g = absurd g
embedded_complete (suc depth) bytes t rest g =
    let E = embedded_read depth in
    let G : List ℕ → Term → Type 0 = IsEmbedded depth in
    let behind : List ℕ = g.behind ++ (125 ∷ rest) in
    let left : List ℕ = g.before ++ (g.inner ++ behind) in
    let joined : (codes "${" ++ (g.before ++ (g.inner ++ (g.behind ++ (125 ∷ []))))) ++ rest ≡ codes "${" ++ left = simp append_assoc in
    let first = expression_begins E G (opens_with depth) g.inner t g.expression in
    let inside : expression_read E (behind_spaces left) ≡ Some (t, behind) =
    ap (expression_read E) (behind_all_spaces g.before (g.inner ++ behind) g.spaces_before (begins_stops g.inner behind first))
    ∙ expression_complete E G (opens_with depth) (embedded_complete depth) (embedded_sound depth) g.inner t g.behind rest g.expression g.spaces_behind in
    ap (λ (l : List ℕ). embedded_read (suc depth) (l ++ rest)) g.whole
    ∙ ap (embedded_read (suc depth)) joined
    ∙ ap (option_and_then (λ (x : Term × List ℕ). option_and_then {U = Term × List ℕ} (λ (end : List ℕ). Some (x.0, end)) (behind_token (codes "}") x.1))) inside
    ∙ ap (option_and_then {U = Term × List ℕ} (λ (end : List ℕ). Some (t, end))) (token_complete 125 g.behind rest g.spaces_behind refl)
