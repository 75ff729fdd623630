-- Numbers and truth values.
use Rattle.std.proofs.Common.{◌≡◌, ◌⊎◌, ℕ, ◌<◌, ◌≤◌, Bool, true, false, cond, ◌&&◌, ◌==◌, ltb, leb, List, [], ◌∷◌, ◌++◌, length, drop, Option, Some, None, option_and_then, ℤ, refl, ap, sym, ◌∙◌, subst, inl, inr, arith, append_assoc}
use Rattle.std.specs.List.{list_all}
use Rattle.std.specs.Int.{w64, IsInRange}
use Rattle.std.specs.Char.{digit_value}
use Rattle.std.specs.Prelude.{FitsSigned, MatchResult, Result, Ok, Err, codes}
use Rattle.std.specs.Str.Parse.{AllDigits, IsNumeral, ParsesSigned, signed_digits_value, starts_with_minus, without_leading_sign}
use Rattle.std.proofs.lemmas.Bool.{cases_Bool, and_parts, and_from, leb-true, le-leb, ltb-true, lt-ltb, eqb-true, ne_eqb, cond-false}
use Rattle.std.proofs.lemmas.Option.{option_and_then_some, some_pair_parts, cond_some}
use Rattle.std.proofs.lemmas.Str.{digit_value_digit}
use Rattle.std.proofs.lemmas.Str.Parse.{digit_from_value}
use Rattle.expr_lang.specs.Bytes.{is_digit}
use Rattle.expr_lang.specs.Grammar.{IsNumber}
use Rattle.expr_lang.specs.Reading.{Reading, front_while, behind_while, behind_word, sign_of, unsigned, number_of, number_read, truth_read}
use Rattle.expr_lang.specs.Value.{fits}
use Rattle.expr_lang.proofs.Fronts.{IsRead, Stops, front_behind, all_front, front_all, behind_all, behind_stopped, word_sound}
use Rattle.expr_lang.proofs.Fits.{FitsSigned-from_fits, fits-from_FitsSigned}

-- ---- digits

pub digit_range : (c : ℕ) → is_digit c ≡ true → IsInRange 48 57 c
digit_range c h = let parts = and_parts (leb 48 c) (leb c 57) h in (leb-true 48 c parts.0, leb-true c 57 parts.1)

pub digit_in : (c : ℕ) → IsInRange 48 57 c → is_digit c ≡ true
digit_in c h = and_from (leb 48 c) (leb c 57) (le-leb 48 c h.0) (le-leb c 57 h.1)

pub digits_from_all : (ds : List ℕ) → list_all is_digit ds ≡ true → AllDigits 10 ds
digits_from_all [] h = tt
digits_from_all (c ∷ ds) h =
    let parts = and_parts (is_digit c) (list_all is_digit ds) h in
    let range = digit_range c parts.0 in
    let small : digit_value c < 10 = omega (arith, digit_value_digit c range, range.1) in
    (small, digits_from_all ds parts.1)

pub all_from_digits : (ds : List ℕ) → AllDigits 10 ds → list_all is_digit ds ≡ true
all_from_digits [] h = refl
all_from_digits (c ∷ ds) h = and_from (is_digit c) (list_all is_digit ds) (digit_in c (digit_from_value c h.0)) (all_from_digits ds h.1)

-- ---- the number of some digits

pub number_of_sound : (sign digits : List ℕ) (z : ℤ) → number_of sign digits ≡ Some z →
    (0 < length digits) × (length digits ≤ 19) × (fits z ≡ true) × (z ≡ signed_digits_value 10 (sign ++ digits))
unfolding number_of
number_of_sound sign digits z h =
    let v = signed_digits_value 10 (sign ++ digits) in
    let found = cond_some (ltb 0 (length digits) && leb (length digits) 19 && fits v) v z h in
    let outer = and_parts (ltb 0 (length digits) && leb (length digits) 19) (fits v) found.0 in
    let inner = and_parts (ltb 0 (length digits)) (leb (length digits) 19) outer.0 in
    (ltb-true 0 (length digits) inner.0, leb-true (length digits) 19 inner.1, subst (λ (w : ℤ). fits w ≡ true) found.1 outer.1, sym found.1)

pub number_of_complete : (sign digits : List ℕ) → 0 < length digits → length digits ≤ 19 → fits (signed_digits_value 10 (sign ++ digits)) ≡ true →
    number_of sign digits ≡ Some (signed_digits_value 10 (sign ++ digits))
unfolding number_of
number_of_complete sign digits some short fit =
    let v = signed_digits_value 10 (sign ++ digits) in
    let test : (ltb 0 (length digits) && leb (length digits) 19 && fits v) ≡ true =
    and_from (ltb 0 (length digits) && leb (length digits) 19) (fits v) (and_from (ltb 0 (length digits)) (leb (length digits) 19) (lt-ltb 0 (length digits) some) (le-leb (length digits) 19 short)) fit in
    ap (λ (b : Bool). cond b (Some v) None) test

-- ---- numbers

pub sign_unsigned : (bytes : List ℕ) → bytes ≡ sign_of bytes ++ unsigned bytes
sign_unsigned [] = refl
sign_unsigned (c ∷ bytes) = elim (cases_Bool (c == 45)) [
  | inl minus ↦ rw minus (ap (λ (b : ℕ). b ∷ bytes) (eqb-true c 45 minus))
  | inr other ↦ rw other refl
]

sign_cases : (bytes digits : List ℕ) → (sign_of bytes ++ digits ≡ digits) ⊎ (sign_of bytes ++ digits ≡ 45 ∷ digits)
sign_cases bytes digits = elim (cases_Bool (starts_with_minus bytes)) [
  | inl minus ↦ inr (rw minus refl)
  | inr other ↦ inl (rw other refl)
]

pub number_sound : (bytes : List ℕ) (z : ℤ) (rest : List ℕ) → number_read bytes ≡ Some (z, rest) → IsRead IsNumber bytes z rest
unfolding number_read
number_sound bytes z rest h =
    let digits = front_while is_digit (unsigned bytes) in
    let behind = behind_while is_digit (unsigned bytes) in
    option_and_then_some (λ (v : ℤ). Some (v, behind)) (number_of (sign_of bytes) digits) (z, rest) h (λ v is e.
    let parts = some_pair_parts v z behind rest e in
    let here : number_of (sign_of bytes) digits ≡ Some z = is ∙ ap (λ (w : ℤ). Some w) parts.0 in
    let known = number_of_sound (sign_of bytes) digits z here in
    let split : bytes ≡ (sign_of bytes ++ digits) ++ rest =
    sign_unsigned bytes
    ∙ ap (λ (l : List ℕ). sign_of bytes ++ l) (front_behind is_digit (unsigned bytes) ∙ ap (λ (l : List ℕ). digits ++ l) parts.1)
    ∙ sym (append_assoc (sign_of bytes) digits rest) in
    record {
      front = sign_of bytes ++ digits;
      meant = record {
        digits = digits;
        numeral = (known.0, digits_from_all digits (all_front is_digit (unsigned bytes)));
        short = known.1;
        whole = sign_cases bytes digits;
        value = known.3;
        fits = FitsSigned-from_fits z known.2;
      };
      whole = split;
    })

-- these bytes have this sign, and these digits at the front of what is behind it
by_parts : (bytes sign digits rest : List ℕ) → sign_of bytes ≡ sign → unsigned bytes ≡ digits ++ rest → list_all is_digit digits ≡ true → Stops is_digit rest →
    number_read bytes ≡ option_and_then {U = ℤ × List ℕ} (λ (z : ℤ). Some (z, rest)) (number_of sign digits)
unfolding number_read
by_parts bytes sign digits rest signed behind all stops =
    let front : front_while is_digit (unsigned bytes) ≡ digits = ap (front_while is_digit) behind ∙ front_all is_digit digits rest all stops in
    let left : behind_while is_digit (unsigned bytes) ≡ rest = ap (behind_while is_digit) behind ∙ behind_all is_digit digits rest all ∙ behind_stopped is_digit rest stops in
    ap (λ (l : List ℕ). option_and_then {U = ℤ × List ℕ} (λ (z : ℤ). Some (z, l)) (number_of (sign_of bytes) (front_while is_digit (unsigned bytes)))) left
    ∙ ap (λ (l : List ℕ). option_and_then {U = ℤ × List ℕ} (λ (z : ℤ). Some (z, rest)) (number_of (sign_of bytes) l)) front
    ∙ ap (λ (l : List ℕ). option_and_then {U = ℤ × List ℕ} (λ (z : ℤ). Some (z, rest)) (number_of l digits)) signed

no_minus : (digits rest : List ℕ) → 0 < length digits → list_all is_digit digits ≡ true → starts_with_minus (digits ++ rest) ≡ false
no_minus [] rest some all = absurd (omega arith)
no_minus (c ∷ digits) rest some all =
    let range = digit_range c (and_parts (is_digit c) (list_all is_digit digits) all).0 in
    ne_eqb c 45 (λ e. absurd (omega (arith, range.0)))

pub number_complete : (front : List ℕ) (z : ℤ) (rest : List ℕ) → IsNumber front z → Stops is_digit rest → number_read (front ++ rest) ≡ Some (z, rest)
number_complete front z rest n stops = by_sign n.whole
  where
    all : list_all is_digit n.digits ≡ true
    all = all_from_digits n.digits n.numeral.1

    found : (sign : List ℕ) → front ≡ sign ++ n.digits → option_and_then {U = ℤ × List ℕ} (λ (v : ℤ). Some (v, rest)) (number_of sign n.digits) ≡ Some (z, rest)
    found sign e =
        let same : signed_digits_value 10 (sign ++ n.digits) ≡ z = ap (signed_digits_value 10) (sym e) ∙ sym n.value in
        let fit : fits (signed_digits_value 10 (sign ++ n.digits)) ≡ true = ap fits same ∙ fits-from_FitsSigned z n.fits in
        ap (option_and_then {U = ℤ × List ℕ} (λ (v : ℤ). Some (v, rest))) (number_of_complete sign n.digits n.numeral.0 n.short fit) ∙ ap (λ (v : ℤ). let r : Reading ℤ = Some (v, rest) in r) same

    by_sign : (front ≡ n.digits) ⊎ (front ≡ 45 ∷ n.digits) → number_read (front ++ rest) ≡ Some (z, rest)
    by_sign (inl e) =
        let other : starts_with_minus (n.digits ++ rest) ≡ false = no_minus n.digits rest n.numeral.0 all in
        let signed : sign_of (n.digits ++ rest) ≡ [] = ap (λ (b : Bool). cond b (45 ∷ []) []) other in
        let behind : unsigned (n.digits ++ rest) ≡ n.digits ++ rest = rw other refl in
        ap (λ (l : List ℕ). number_read (l ++ rest)) e ∙ by_parts (n.digits ++ rest) [] n.digits rest signed behind all stops ∙ found [] e
    by_sign (inr e) =
        ap (λ (l : List ℕ). number_read (l ++ rest)) e ∙ by_parts (45 ∷ (n.digits ++ rest)) (45 ∷ []) n.digits rest refl refl all stops ∙ found (45 ∷ []) e

-- the word of a truth value
abbrev pub IsTruth : List ℕ → Bool → Type 0
IsTruth front true = front ≡ codes "true"
IsTruth front false = front ≡ codes "false"

pub truth_sound : (bytes : List ℕ) (b : Bool) (rest : List ℕ) → truth_read bytes ≡ Some (b, rest) → IsRead IsTruth bytes b rest
unfolding truth_read
truth_sound bytes b rest h = by_word (behind_word (codes "true") bytes) refl
  where
    is_truth : (word : List ℕ) (v : Bool) (left : List ℕ) → IsTruth word v → behind_word word bytes ≡ Some left → ◌≡◌ {A = Reading Bool} (Some (v, left)) (Some (b, rest)) → IsRead IsTruth bytes b rest
    is_truth word v left meant is e =
        let parts = some_pair_parts v b left rest e in
        record { front = word; meant = subst (IsTruth word) parts.0 meant; whole = word_sound word bytes left is ∙ ap (λ (l : List ℕ). word ++ l) parts.1 }

    by_word : (o : Option (List ℕ)) → behind_word (codes "true") bytes ≡ o → IsRead IsTruth bytes b rest
    by_word (Some left) is = is_truth (codes "true") true left refl is (rw is at h)
    by_word None is = option_and_then_some (λ (left : List ℕ). Some (false, left)) (behind_word (codes "false") bytes) (b, rest) (rw is at h)
        (λ left there e. is_truth (codes "false") false left refl there e)

-- ---- the number that the standard library reads

pub sign_is : (bytes : List ℕ) → (sign_of bytes ≡ []) ⊎ (sign_of bytes ≡ 45 ∷ [])
sign_is bytes = elim (cases_Bool (starts_with_minus bytes)) [
  | inl minus ↦ inr (ap (λ (b : Bool). cond b (45 ∷ []) []) minus)
  | inr other ↦ inl (ap (λ (b : Bool). cond b (45 ∷ []) []) other)
]

no_sign : (digits : List ℕ) → list_all is_digit digits ≡ true → without_leading_sign digits ≡ digits
no_sign [] all = refl
no_sign (c ∷ digits) all =
    let range = digit_range c (and_parts (is_digit c) (list_all is_digit digits) all).0 in
    cond-false (c == 45) _ _ (ne_eqb c 45 (λ e. absurd (omega (arith, range.0))))
    ∙ ap (λ (b : Bool). drop (cond b 1 0) (c ∷ digits)) (ne_eqb c 43 (λ e. absurd (omega (arith, range.0))))

without_sign : (sign digits : List ℕ) → (sign ≡ []) ⊎ (sign ≡ 45 ∷ []) → list_all is_digit digits ≡ true → without_leading_sign (sign ++ digits) ≡ digits
without_sign sign digits (inl e) all = ap (λ (l : List ℕ). without_leading_sign (l ++ digits)) e ∙ no_sign digits all
without_sign sign digits (inr e) all = ap (λ (l : List ℕ). without_leading_sign (l ++ digits)) e

pub parsed_number : {F : Type 0} (sign digits : List ℕ) (r : Result ℤ F) → (sign ≡ []) ⊎ (sign ≡ 45 ∷ []) → list_all is_digit digits ≡ true → length digits ≤ 19 →
    ParsesSigned w64 10 (sign ++ digits) r → MatchResult r (λ z. (number_of sign digits ≡ Some z) × FitsSigned w64 z) (λ _. number_of sign digits ≡ None)
parsed_number sign digits (Ok z) signed all short h =
    let numeral : IsNumeral 10 digits = subst (IsNumeral 10) (without_sign sign digits signed all) h.0.0 in
    let fit = fits-from_FitsSigned (signed_digits_value 10 (sign ++ digits)) h.0.1 in
    (number_of_complete sign digits numeral.0 short fit ∙ ap (λ (w : ℤ). Some w) (sym h.1), subst (FitsSigned w64) (sym h.1) h.0.1)
parsed_number sign digits (Err e) signed all short h = by_number (number_of sign digits) refl
  where
    by_number : (o : Option ℤ) → number_of sign digits ≡ o → o ≡ None
    by_number None is = refl
    by_number (Some z) is =
        let known = number_of_sound sign digits z is in
        let numeral : IsNumeral 10 (without_leading_sign (sign ++ digits)) = subst (IsNumeral 10) (sym (without_sign sign digits signed all)) (known.0, digits_from_all digits all) in
        absurd (h (numeral, FitsSigned-from_fits (signed_digits_value 10 (sign ++ digits)) (ap fits (sym known.3) ∙ known.2)))

pub too_long : (sign digits : List ℕ) → 19 < length digits → number_of sign digits ≡ None
too_long sign digits long = by_number (number_of sign digits) refl
  where
    by_number : (o : Option ℤ) → number_of sign digits ≡ o → o ≡ None
    by_number None is = refl
    by_number (Some z) is = let known = number_of_sound sign digits z is in absurd (omega (arith, known.1))
