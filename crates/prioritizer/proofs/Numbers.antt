-- `parse` reads at a signed number of 64 bits the numbers of specs/Number.antt, and these are what std writes.
use Rattle.std.proofs.Common.{◌≡◌, ℕ, ◌<◌, ◌≤◌, ◌^◌, ◌==◌, ◌&&◌, nat_lt, Bool, true, false, List, [], ◌∷◌, length, Some, None, Result, Ok, Err, ℤ, pos, negsuc, neg_ℤ, refl, ap, sym, ◌∙◌, suc, arith, rules}
use Rattle.std.specs.Prelude.{if◌then◌else◌}
use Rattle.std.specs.Fmt.{decimal}
use Rattle.std.specs.Int.{w64}
use Rattle.std.specs.Result.{OkIff, result_ok}
use Rattle.std.specs.Str.{all_ascii_digits}
use Rattle.std.specs.Str.Parse.{ParsesSigned}
use Rattle.std.specs.Cmp.{first_so, second_so}
use Rattle.std.proofs.lemmas.Bool.{ltb-true, leb-true, lt-ltb, le-leb, eqb-true, eqb-false, and_from, ne_eqb}
use Rattle.std.proofs.lemmas.Fmt.{decimal_nonempty, digits_decimal, digits_value-decimal}
use Rattle.std.proofs.lemmas.Str.Parse.{IsNumeralModel, numerals_by_weight, tells_all_ascii_digits, parse_signed_minus, parse_signed_plain, parse_signed_plus}
use Rattle.prioritizer.specs.Laws.{WrittenNumbersRead, PlusAndZerosTellNothing}
use Rattle.prioritizer.specs.Number.{number_of, is_numeral, value_of, below_zero, from_zero}

own : IsNumeralModel (λ text. all_ascii_digits text ≡ true) value_of
own = numerals_by_weight _ tells_all_ascii_digits value_of (search rules)

-- an answer that comes where Q holds comes where a test of Q is passed
tested : {E Q : Type 0} (value : ℤ) (r : Result ℤ E) (test : Bool) → OkIff r Q value → (test ≡ true → Q) → (Q → test ≡ true) → result_ok r ≡ (if test then Some value else None)
tested value (Ok x) true h f g = ap Some h.1
tested value (Ok x) false h f g = cc (g h.0)
tested value (Err e) true h f g = absurd (h (f refl))
tested value (Err e) false h f g = refl

numeral-parts : (text : List ℕ) (fits : Bool) (Fits : Type 0) → (fits ≡ true → Fits) → (is_numeral text && fits) ≡ true → (all_ascii_digits text ≡ true) × (0 < length text) × Fits
numeral-parts text fits Fits f h =
    let numeral = first_so (is_numeral text) fits h in
    (second_so _ _ numeral, ltb-true _ _ (first_so _ _ numeral), f (second_so _ _ h))

numeral-whole : (text : List ℕ) (fits : Bool) (Fits : Type 0) → (Fits → fits ≡ true) → (all_ascii_digits text ≡ true) × (0 < length text) × Fits → (is_numeral text && fits) ≡ true
numeral-whole text fits Fits f h = and_from _ _ (and_from _ _ (lt-ltb _ _ h.1) h.0) (f h.2)

signed-by : {E : Type 0} (first : ℕ) (rest : List ℕ) (r : Result ℤ E) (minus plus : Bool) → (first == 45) ≡ minus → (first == 43) ≡ plus → ParsesSigned w64 10 (first ∷ rest) r
    → result_ok r ≡ (if minus then below_zero rest else if plus then from_zero rest else from_zero (first ∷ rest))
signed-by first rest r true plus m p h =
    tested _ r _ (parse_signed_minus own w64 (first ∷ rest) r h (eqb-true _ _ m)) (numeral-parts rest _ _ (leb-true _ _)) (numeral-whole rest _ _ (le-leb _ _))
signed-by first rest r false true m p h =
    tested _ r _ (parse_signed_plus own w64 (first ∷ rest) r h (eqb-true _ _ p)) (numeral-parts rest _ _ (ltb-true _ _)) (numeral-whole rest _ _ (lt-ltb _ _))
signed-by first rest r false false m p h =
    tested _ r _ (parse_signed_plain own w64 (first ∷ rest) r h (eqb-false _ _ p) (eqb-false _ _ m)) (numeral-parts (first ∷ rest) _ _ (ltb-true _ _)) (numeral-whole (first ∷ rest) _ _ (lt-ltb _ _))

pub parsed-number : {E : Type 0} (text : List ℕ) (r : Result ℤ E) → ParsesSigned w64 10 text r → result_ok r ≡ number_of text
unfolding number_of
parsed-number [] r h =
    tested (pos 0) r false (parse_signed_plain own w64 [] r h (λ e. cc e) (λ e. cc e)) (λ e. cc e) (λ h. lt-ltb 0 0 h.1)
parsed-number (first ∷ rest) r h = signed-by first rest r _ _ refl refl h

-- ---- digits with no sign, and what std writes

digits-unsigned : (text : List ℕ) → is_numeral text ≡ true → number_of text ≡ from_zero text
unfolding number_of
digits-unsigned [] h = refl
digits-unsigned (first ∷ rest) h =
    let digit = (tells_all_ascii_digits.parts first rest (second_so (nat_lt 0 (length (first ∷ rest))) (all_ascii_digits (first ∷ rest)) h)).0 in
    ap (λ minus. if minus then below_zero rest else if first == 43 then from_zero rest else from_zero (first ∷ rest)) (ne_eqb first 45 (λ e. omega arith))
    ∙ ap (λ plus. if plus then from_zero rest else from_zero (first ∷ rest)) (ne_eqb first 43 (λ e. omega arith))

from_zero-is : (text : List ℕ) (n : ℕ) → is_numeral text ≡ true → value_of text ≡ n → n < 2 ^ 63 → from_zero text ≡ Some (pos n)
from_zero-is text n numeral value small =
    let fits : value_of text < 2 ^ 63 = omega arith in
    ap (λ test. if test then Some (pos (value_of text)) else None) (and_from _ _ numeral (lt-ltb _ _ fits)) ∙ ap (λ n. Some (pos n)) value

below_zero-is : (text : List ℕ) (n : ℕ) → is_numeral text ≡ true → value_of text ≡ n → n ≤ 2 ^ 63 → below_zero text ≡ Some (neg_ℤ (pos n))
below_zero-is text n numeral value small =
    let fits : value_of text ≤ 2 ^ 63 = omega arith in
    ap (λ test. if test then Some (neg_ℤ (pos (value_of text))) else None) (and_from _ _ numeral (le-leb _ _ fits)) ∙ ap (λ n. Some (neg_ℤ (pos n))) value

decimal-numeral : (n : ℕ) → n < 2 ^ 64 → is_numeral (decimal n) ≡ true
decimal-numeral n h = and_from _ _ (lt-ltb _ _ (decimal_nonempty n h)) (digits_decimal own n h)

pub written-read : WrittenNumbersRead
unfolding number_of
written-read (pos n) h =
    let below : n < 2 ^ 63 = h.sfits in
    let fits : n < 2 ^ 64 = omega arith in
    digits-unsigned (decimal n) (decimal-numeral n fits) ∙ from_zero-is (decimal n) n (decimal-numeral n fits) (digits_value-decimal own n fits) below
written-read (negsuc n) h =
    let below : n < 2 ^ 63 = h.sfits in
    let fits : suc n < 2 ^ 64 = omega arith in
    below_zero-is (decimal (suc n)) (suc n) (decimal-numeral (suc n) fits) (digits_value-decimal own (suc n) fits) (omega arith)

from_zero-same : (text other : List ℕ) → is_numeral text ≡ is_numeral other → value_of text ≡ value_of other → from_zero text ≡ from_zero other
from_zero-same text other p q = λ i. if (p i && nat_lt (q i) (2 ^ 63)) then Some (pos (q i)) else None

zero-numeral : (digits : List ℕ) → is_numeral digits ≡ true → is_numeral (48 ∷ digits) ≡ true
zero-numeral digits h =
    let some : 0 < length (48 ∷ digits) = omega arith in
    and_from (nat_lt 0 (length (48 ∷ digits))) (all_ascii_digits (48 ∷ digits)) (lt-ltb _ _ some) (second_so (nat_lt 0 (length digits)) (all_ascii_digits digits) h)

pub plus-zeros : PlusAndZerosTellNothing
unfolding number_of
plus-zeros digits h =
    let unsigned : number_of digits ≡ from_zero digits = digits-unsigned digits h in
    let numeral : is_numeral (48 ∷ digits) ≡ true = zero-numeral digits h in
    let same : is_numeral (48 ∷ digits) ≡ is_numeral digits = numeral ∙ sym h in
    let value : value_of (48 ∷ digits) ≡ value_of digits = omega arith in
    (sym unsigned, from_zero-same (48 ∷ digits) digits same value ∙ sym unsigned)
