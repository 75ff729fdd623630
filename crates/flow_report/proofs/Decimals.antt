-- The digits of a sum.
use Rattle.std.proofs.Common.{◌≡◌, ℕ, ◌+◌, ◌/◌, ◌%◌, ◌<◌, ◌≤◌, ◌^◌, List, [], ◌∷◌, ◌++◌, sym, ap, ◌∙◌, arith}
use Rattle.std.specs.Fmt.{decimal}
use Rattle.std.proofs.lemmas.Fmt.{decimal_digit, decimal_step_wide}

-- the tens, and the ones behind them
pub decimal-sum : (one other : ℕ) → one < 2 ^ 128 → other < 2 ^ 128 → 10 ≤ one + other
    → decimal (one / 10 + other / 10 + (one % 10 + other % 10) / 10) ++ decimal ((one % 10 + other % 10) % 10) ≡ decimal (one + other)
decimal-sum one other small also large =
    let last : ℕ = (one % 10 + other % 10) % 10 in
    let tens : ℕ = one / 10 + other / 10 + (one % 10 + other % 10) / 10 in
    let quotient : (one + other) / 10 ≡ tens = omega arith in
    let remainder : (one + other) % 10 ≡ last = omega arith in
    let digit : last < 10 = omega arith in
    let fits : one + other < 10 ^ 64 = omega (arith, small, also) in
    ap (λ (l : List ℕ). decimal tens ++ l) (decimal_digit last digit) ∙ ap (λ (n : ℕ). decimal n ++ ((48 + last) ∷ [])) (sym quotient)
    ∙ ap (λ (n : ℕ). decimal ((one + other) / 10) ++ ((48 + n) ∷ [])) (sym remainder) ∙ sym (decimal_step_wide (one + other) large fits)

-- no tens
pub decimal-small : (one other : ℕ) → one + other < 10 → decimal (one % 10 + other % 10) ≡ decimal (one + other)
decimal-small one other small = ap decimal (omega (arith, small))
