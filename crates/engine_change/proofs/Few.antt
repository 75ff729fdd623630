-- There are no more numbers below a bound than it says, where each stands once.
use Rattle.std.proofs.Common.{◌≡◌, ◌≢◌, ℕ, ◌+◌, ◌<◌, ◌≤◌, ◌==◌, Bool, true, false, cond, List, [], ◌∷◌, length, refl, arith}
use Rattle.std.specs.Prelude.{All, filter}
use Rattle.std.specs.List.{AllPairs, enumerate_from, range_with_len}
use Rattle.std.proofs.lemmas.List.FromFn.{length-enumerate_from, length-range_with_len}
use Rattle.machine_model.proofs.Keyed.{once_from_differ}
use Rattle.machine_model.proofs.Tally.{bit, tally, tally-le}
use Rattle.engine_change.proofs.Counts.{by_place}

counted : {X : Type 0} (xs : List X) → tally (λ (x : X). 1) xs ≡ length xs
counted [] = refl
counted (x ∷ xs) = omega (arith, counted xs)

passing : {X : Type 0} (p : X → Bool) (xs : List X) → tally (λ (x : X). 1) (filter p xs) ≡ tally (λ x. bit (p x)) xs
passing p [] = refl
passing p (x ∷ xs) = by (p x) (passing p xs)
  where
    by : (b : Bool) → tally (λ x. 1) (filter p xs) ≡ tally (λ x. bit (p x)) xs → tally (λ x. 1) (cond b (x ∷ filter p xs) (filter p xs)) ≡ bit b + tally (λ x. bit (p x)) xs
    by true rest = omega (arith, rest)
    by false rest = omega (arith, rest)

pub few_below : (most : ℕ) (numbers : List ℕ) → AllPairs (λ one other. one ≢ other) numbers → All (λ n. n < most) numbers → length numbers ≤ most
few_below most numbers differ below =
    let row = range_with_len 0 most in
    let places = enumerate_from 0 row in
    let same : length row ≡ most = length-range_with_len 0 most in
    let within : All (λ n. n < length row) numbers = λ i d lt. let one = below i d lt in omega (arith, one, same) in
    omega (
      arith,
      counted numbers,
      by_place (λ (n : ℕ). 1) (λ (n : ℕ). n) row numbers within,
      tally-le (λ (q : ℕ × ℕ). tally (λ (n : ℕ). 1) (filter (λ n. n == q.0) numbers)) (λ (q : ℕ × ℕ). 1)
          (λ q. omega (arith, passing (λ (n : ℕ). n == q.0) numbers, once_from_differ (λ (n : ℕ). n) numbers differ q.0)) places,
      counted places,
      length-enumerate_from 0 row,
      same,
    )
