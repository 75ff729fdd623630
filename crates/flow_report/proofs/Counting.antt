-- Sums over some items of a list.
use Rattle.std.proofs.Common.{◌≡◌, ℕ, ◌+◌, ◌*◌, ◌≤◌, Bool, true, false, cond, List, ◌∷◌, filter, length, sym, ap, ◌∙◌, arith}
use Rattle.std.specs.Prelude.{if◌then◌else◌}
use Rattle.std.specs.List.{sum_by}
use Rattle.std.proofs.lemmas.List.Sums.{sum_by-cons}

-- one item more, that may be among them
sum-more : {X : Type 0} (p : X → Bool) (f : X → ℕ) (x : X) (rest : List X) (b : Bool) → b ≡ p x → sum_by f (filter p (x ∷ rest)) ≡ cond b (f x) 0 + sum_by f (filter p rest)
sum-more p f x rest true is = ap (λ (c : Bool). sum_by f (cond c (x ∷ filter p rest) (filter p rest))) (sym is) ∙ sum_by-cons f x (filter p rest)
sum-more p f x rest false is = ap (λ (c : Bool). sum_by f (cond c (x ∷ filter p rest) (filter p rest))) (sym is) ∙ omega arith

count-more : {X : Type 0} (p : X → Bool) (x : X) (rest : List X) (b : Bool) → b ≡ p x → length (filter p (x ∷ rest)) ≡ cond b 1 0 + length (filter p rest)
count-more p x rest true is = ap (λ (c : Bool). length (cond c (x ∷ filter p rest) (filter p rest))) (sym is) ∙ omega arith
count-more p x rest false is = ap (λ (c : Bool). length (cond c (x ∷ filter p rest) (filter p rest))) (sym is) ∙ omega arith

with-more : (b : Bool) (before n new rest total : ℕ) → new ≡ (if b then before + n else before) → before + (cond b n 0 + rest) ≡ total → new + rest ≡ total
with-more true before n new rest total is so_far = omega (arith, is, so_far)
with-more false before n new rest total is so_far = omega (arith, is, so_far)

pub sum-step : {X : Type 0} (p : X → Bool) (f : X → ℕ) (x : X) (xs rest : List X) (b : Bool) (before new total : ℕ) → xs ≡ x ∷ rest → b ≡ p x → new ≡ (if b then before + f x else before)
    → before + sum_by f (filter p xs) ≡ total → new + sum_by f (filter p rest) ≡ total
sum-step p f x xs rest b before new total split here is so_far =
    with-more b before (f x) new (sum_by f (filter p rest)) total is (ap (λ (n : ℕ). before + n) (sym (ap (λ (l : List _). sum_by f (filter p l)) split ∙ sum-more p f x rest b here)) ∙ so_far)

pub count-step : {X : Type 0} (p : X → Bool) (x : X) (xs rest : List X) (b : Bool) (before new total : ℕ) → xs ≡ x ∷ rest → b ≡ p x → new ≡ (if b then before + 1 else before)
    → before + length (filter p xs) ≡ total → new + length (filter p rest) ≡ total
count-step p x xs rest b before new total split here is so_far =
    with-more b before 1 new (length (filter p rest)) total is (ap (λ (n : ℕ). before + n) (sym (ap (λ (l : List _). length (filter p l)) split ∙ count-more p x rest b here)) ∙ so_far)

-- so many items are left at most, each of at most so much
pub bound-step : {X : Type 0} (x : X) (xs rest : List X) (b : Bool) (before n new total : ℕ) (most : ℕ) → xs ≡ x ∷ rest → n ≤ most → new ≡ (if b then before + n else before)
    → before + length xs * most ≤ total → new + length rest * most ≤ total
bound-step x xs rest true before n new total most split small is so_far =
    let more : length xs * most ≡ most + length rest * most = ap (λ (l : List _). length l * most) split ∙ omega arith in omega (arith, is, so_far, small, more)
bound-step x xs rest false before n new total most split small is so_far =
    let more : length xs * most ≡ most + length rest * most = ap (λ (l : List _). length l * most) split ∙ omega arith in omega (arith, is, so_far, small, more)
