-- The first or the last number below a bound that passes a test.
use Rattle.std.specs.Prelude.{◌≡◌, ℕ, zero, suc, ◌<◌, Bool, true, false, Option, None, Some, if◌then◌else◌}

-- the greatest number below a bound that passes
unfoldable pub greatest_below : (ℕ → Bool) → ℕ → Option ℕ
greatest_below passes zero = None
greatest_below passes (suc n) = if passes n then Some n else greatest_below passes n

-- what is there, or else this
abbrev or_else : Option ℕ → Option ℕ → Option ℕ
or_else None other = other
or_else (Some n) other = Some n

-- the least number below a bound that passes
unfoldable pub least_below : (ℕ → Bool) → ℕ → Option ℕ
least_below passes zero = None
least_below passes (suc n) = or_else (least_below passes n) (if passes n then Some n else None)

-- a search for the greatest answers this
pub record IsGreatestBelow (passes : ℕ → Bool) (bound : ℕ) (found : Option ℕ) : Type 0 where
  pub below : (n : ℕ) → found ≡ Some n → n < bound
  pub passing : (n : ℕ) → found ≡ Some n → passes n ≡ true
  pub past : (n m : ℕ) → found ≡ Some n → n < m → m < bound → passes m ≡ false
  pub none : found ≡ None → (m : ℕ) → m < bound → passes m ≡ false

-- a search for the least answers this
pub record IsLeastBelow (passes : ℕ → Bool) (bound : ℕ) (found : Option ℕ) : Type 0 where
  pub below : (n : ℕ) → found ≡ Some n → n < bound
  pub passing : (n : ℕ) → found ≡ Some n → passes n ≡ true
  pub past : (n m : ℕ) → found ≡ Some n → m < n → passes m ≡ false
  pub none : found ≡ None → (m : ℕ) → m < bound → passes m ≡ false

-- two tests agree on the numbers below a bound
abbrev pub AgreeBelow : (ℕ → Bool) → (ℕ → Bool) → ℕ → Type 0
AgreeBelow p q bound = (m : ℕ) → m < bound → p m ≡ q m
