use Rattle.std.proofs.Common.{◌≡◌, ◌≢◌, ◌⊎◌, ◌^◌, ◌<◌, ◌≤◌, ℕ, List, [], ◌∷◌, length, get_or, Some, None, Result, Ok, Err, IfSome, refl, sym, ap, ◌∙◌, zero, suc, arith, lit<}
use Rattle.std.specs.List.{slice_get}
use Rattle.std.specs.Result.{result_ok}
use Rattle.std.specs.Fmt.{decimal}
use Rattle.std.specs.Str.Parse.{AllDigits, ParsesUnsigned, digits_value}
use Rattle.std.proofs.lemmas.Bool.{true≢false}
use Rattle.std.proofs.lemmas.Fmt.{decimal_digit, decimal_injective, decimal_nonempty, decimal-digits_value, digits_decimal, first_decimal, parse-decimal}
use Rattle.std.proofs.lemmas.Option.{get_or_from_slice_get}
use Rattle.std.proofs.lemmas.Result.{OkIff-at_ok}
use Rattle.std.proofs.lemmas.Slice.Eq.{bytes_eq-Decides}
use Rattle.std.proofs.lemmas.Str.Parse.{IsNumeralModel, digit_at, parse_plain}
use Rattle.world_real.proofs.numbered.read_number.Goals as goal

own : IsNumeralModel (AllDigits 10) (digits_value 10)
own = record { to = λ ds h. h; from = λ ds h. h; same = λ ds h. refl }

-- a text that is read as a number, and begins with none of `+` and `0`
number_text : {E : Type 0} (text : List ℕ) (first : ℕ) (answer : Result ℕ E) (number : ℕ) → ParsesUnsigned 64 10 text answer → slice_get text 0 ≡ Some first → 49 ≤ first → answer ≡ Ok number → text ≡ decimal number
number_text text first answer number parses is low ok =
    let begins = get_or_from_slice_get text 0 first 0 is in
    let no_plus : get_or text 0 0 ≢ 43 = λ plus. omega (arith, begins, plus, low) in
    let read = OkIff-at_ok answer _ _ number (parse_plain own 64 text answer parses no_plus) ok in
    let no_zero : get_or text 0 0 ≡ 48 → length text ≡ 1 = λ naught. omega (arith, begins, naught, low) in
    rw read.1 (sym (decimal-digits_value own text read.0.0 read.0.1 no_zero read.0.2))

when_read : {E : Type 0} (P : ℕ → Type 0) (answer : Result ℕ E) → ((number : ℕ) → answer ≡ Ok number → P number) → IfSome (result_ok answer) P
when_read P (Ok number) here = here number refl
when_read P (Err e) here = tt

-- the text `0` is that of no other number
only_zero : (text : List ℕ) (number : ℕ) → number < 2 ^ 64 → text ≡ decimal number → text ≡ 48 ∷ [] → 0 ≡ number
only_zero text number fits is one = sym (decimal_injective number 0 fits (lit< tt) (sym is ∙ one ∙ sym (decimal_digit 0 (lit< tt))))

-- a number's text is `0`, or begins with one of `1` to `9`
no_number : (text : List ℕ) (first number : ℕ) → text ≢ 48 ∷ [] → slice_get text 0 ≡ Some first → (first < 49) ⊎ ((49 ≤ first) × (57 < first)) → number < 2 ^ 64 → text ≡ decimal number → ⊥
no_number text first zero other begins out fits is = other (is ∙ decimal_digit 0 (lit< tt))
no_number text first (suc number) other begins out fits is =
    let low = first_decimal (suc number) (omega arith) fits in
    let high = digit_at (decimal (suc number)) 0 (digits_decimal own (suc number) fits) (decimal_nonempty (suc number) fits) in
    let at = get_or_from_slice_get (decimal (suc number)) 0 first 0 (rw (← is) begins) in
    omega (arith, low, high, at, out)

no_first : (text : List ℕ) → 0 < length text → None ≡ slice_get text 0 → ⊥
no_first [] some none = omega arith
no_first (first ∷ rest) some none = cc

pub returns-then-eq-clause-written : goal.returns-then-eq-clause-written
returns-then-eq-clause-written c = (bytes_eq-Decides c.args.digits.now (48 ∷ [])).0 (sym c.eq.ensures ∙ c.if-eq.true) ∙ sym (decimal_digit 0 (omega arith))

pub returns-then-eq-clause-read : goal.returns-then-eq-clause-read
returns-then-eq-clause-read c number fits is = ap Some (only_zero _ number fits is ((bytes_eq-Decides c.args.digits.now (48 ∷ [])).0 (sym c.eq.ensures ∙ c.if-eq.true)))

pub returns-clause-written : goal.returns-clause-written
returns-clause-written c =
    let is : slice_get c.args.digits.now 0 ≡ Some c.in_ok-first.field-0.now = rw (← c.as_bytes.ensures.value) (sym c.in_ok-first.ensures.value) in
    rw c.ok.ensures.value (when_read _ c.parse.result (λ number ok. number_text _ _ _ number c.parse.ensures.value.0 is c.if-first-lt49.false ok))

pub returns-clause-read : goal.returns-clause-read
returns-clause-read c number fits is = rw (c.ok.ensures.value, parse-decimal 64 number _ c.parse.result fits fits is c.parse.ensures.value.0) refl

pub returns-in_err-first-clause-read : goal.returns-in_err-first-clause-read
returns-in_err-first-clause-read c number fits is =
    let none : None ≡ slice_get c.args.digits.now 0 = rw (← c.as_bytes.ensures.value) c.in_err-first.ensures.value in
    absurd (no_first c.args.digits.now (rw is (decimal_nonempty number fits)) none)

pub returns-then-first-lt49-clause-read : goal.returns-then-first-lt49-clause-read
returns-then-first-lt49-clause-read c number fits is =
    let begins : slice_get c.args.digits.now 0 ≡ Some c.in_ok-first.field-0.now = rw (← c.as_bytes.ensures.value) (sym c.in_ok-first.ensures.value) in
    let other : c.args.digits.now ≢ 48 ∷ [] = λ same. true≢false (sym ((bytes_eq-Decides c.args.digits.now (48 ∷ [])).1 same) ∙ sym c.eq.ensures ∙ c.if-eq.false) in
    absurd (no_number _ _ number other begins c.then-first-lt49.either fits is)
