-- A number of 64 signed bits: the test of the definitions, and the range of the integer type.
use Rattle.std.proofs.Common.{◌≡◌, ℕ, ℤ, pos, negsuc, Bool, true, false, ◌&&◌, List, length, Ok, Err, refl, if◌then◌else◌}
use Rattle.std.proofs.lemmas.Bool.{ltb-true, lt-ltb, false_from_ne_true}
use Rattle.std.proofs.lemmas.Str.Parse.{IsNumeralModel, numerals_by_value, tells_all_ascii_digits}
use Rattle.std.specs.Prelude.{FitsSigned, nat_lt}
use Rattle.std.specs.Int.{w64}
use Rattle.std.specs.Str.{all_ascii_digits}
use Rattle.std.specs.Str.Parse.{IsNumeral, digits_value, signed_digits_value, without_leading_sign}
use Rattle.expr_lang.specs.declared.error.EvalError.TheVariants.{NotANumber, Overflow}
use Rattle.expr_lang.specs.Value.{Answer, text, fits, fitting, as_number}

pub FitsSigned-from_fits : (z : ℤ) → fits z ≡ true → FitsSigned w64 z
FitsSigned-from_fits (pos n) e = record { sfits = ltb-true _ _ e }
FitsSigned-from_fits (negsuc n) e = record { sfits = ltb-true _ _ e }

pub fits-from_FitsSigned : (z : ℤ) → FitsSigned w64 z → fits z ≡ true
fits-from_FitsSigned (pos n) h = lt-ltb _ _ h.sfits
fits-from_FitsSigned (negsuc n) h = lt-ltb _ _ h.sfits

pub not_fits : (z : ℤ) → (FitsSigned w64 z → ⊥) → fits z ≡ false
not_fits z h = false_from_ne_true (fits z) (λ e. h (FitsSigned-from_fits z e))

pub fitting_none : (z : ℤ) → (FitsSigned w64 z → ⊥) → fitting z ≡ Err Overflow
fitting_none z h = let e = not_fits z h in rw e refl

-- texts of digits
pub digits : IsNumeralModel (λ ds. all_ascii_digits ds ≡ true) (digits_value 10)
digits = numerals_by_value _ tells_all_ascii_digits

-- a text that `parse` reads is a number, and no other is
pub is_number : (s : List ℕ) → IsNumeral 10 (without_leading_sign s) → FitsSigned w64 (signed_digits_value 10 s)
    → as_number (text s) ≡ Ok (signed_digits_value 10 s)
is_number s numeral fit =
    let some = lt-ltb 0 (length (without_leading_sign s)) numeral.0 in
    let all = digits.from (without_leading_sign s) numeral.1 in
    let e = fits-from_FitsSigned (signed_digits_value 10 s) fit in
    rw (some, all, e) refl

none_of : (a b c : Bool) (z : ℤ) → (a ≡ true → b ≡ true → c ≡ true → ⊥)
    → ◌≡◌ {A = Answer ℤ} (if a && b && c then Ok z else Err NotANumber) (Err NotANumber)
none_of true true true z h = absurd (h refl refl refl)
none_of true true false z h = refl
none_of true false c z h = refl
none_of false b c z h = refl

pub no_number : (s : List ℕ) → (IsNumeral 10 (without_leading_sign s) × FitsSigned w64 (signed_digits_value 10 s) → ⊥)
    → as_number (text s) ≡ Err NotANumber
no_number s h =
    none_of (nat_lt 0 (length (without_leading_sign s))) (all_ascii_digits (without_leading_sign s)) (fits (signed_digits_value 10 s)) (signed_digits_value 10 s)
    (λ some all e. h ((ltb-true _ _ some, digits.to (without_leading_sign s) all), FitsSigned-from_fits _ e))
