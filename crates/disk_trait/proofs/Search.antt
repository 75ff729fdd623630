-- What the searches below a bound find.
use Rattle.std.proofs.Common.{◌≡◌, ◌⊎◌, inl, inr, ⊎_elim, ℕ, zero, suc, ◌<◌, ◌≤◌, Bool, true, false, Option, None, Some, refl, sym, ◌∙◌, ap, subst, arith}
use Rattle.std.proofs.lemmas.Bool.{cases_Bool, cases_lt, cond-true, cond-false}
use Rattle.disk_trait.specs.Search.{greatest_below, least_below, IsGreatestBelow, IsLeastBelow, AgreeBelow}

some_is : {a b : ℕ} → ◌≡◌ {A = Option ℕ} (Some a) (Some b) → a ≡ b
some_is is = cc

-- ---- the greatest

module _ (passes : ℕ → Bool) (n : ℕ) where
  greatest_here : passes n ≡ true → greatest_below passes (suc n) ≡ Some n
  unfolding greatest_below
  greatest_here here = cond-true (passes n) _ _ here

  greatest_before : passes n ≡ false → greatest_below passes (suc n) ≡ greatest_below passes n
  unfolding greatest_below
  greatest_before here = cond-false (passes n) _ _ here

greatest_nothing : (passes : ℕ → Bool) → greatest_below passes 0 ≡ None
unfolding greatest_below
greatest_nothing passes = refl

pub greatest_found : (passes : ℕ → Bool) (bound : ℕ) → IsGreatestBelow passes bound (greatest_below passes bound)
greatest_found passes zero =
    let nothing = greatest_nothing passes in
    record { below = λ n is. cc; passing = λ n is. cc; past = λ n m is up lt. absurd (omega (arith, lt)); none = λ is m lt. absurd (omega (arith, lt)) }
greatest_found passes (suc n) =
    let rest = greatest_found passes n in
    ⊎_elim
    (λ (here : passes n ≡ true). let found = greatest_here passes n here in record {
      below = λ m is. let same : n ≡ m = some_is (sym found ∙ is) in omega (arith, same);
      passing = λ m is. let same : n ≡ m = some_is (sym found ∙ is) in subst (λ (k : ℕ). passes k ≡ true) same here;
      past = λ m k is up lt. let same : n ≡ m = some_is (sym found ∙ is) in absurd (omega (arith, same, up, lt));
      none = λ is. absurd cc;
    })
    (λ (there : passes n ≡ false). let found = greatest_before passes n there in record {
      below = λ m is. let lt = rest.below m (sym found ∙ is) in omega (arith, lt);
      passing = λ m is. rest.passing m (sym found ∙ is);
      past = λ m k is up lt. ⊎_elim
          (λ (low : k < n). rest.past m k (sym found ∙ is) up low)
          (λ (high : n ≤ k). let same : n ≡ k = omega (arith, high, lt) in subst (λ (j : ℕ). passes j ≡ false) same there)
          (cases_lt k n);
      none = λ is k lt. ⊎_elim
          (λ (low : k < n). rest.none (sym found ∙ is) k low)
          (λ (high : n ≤ k). let same : n ≡ k = omega (arith, high, lt) in subst (λ (j : ℕ). passes j ≡ false) same there)
          (cases_lt k n);
    })
    (cases_Bool (passes n))

-- nothing passes
pub greatest_none : (passes : ℕ → Bool) (bound : ℕ) → ((m : ℕ) → m < bound → passes m ≡ false) → greatest_below passes bound ≡ None
greatest_none passes zero fails = greatest_nothing passes
greatest_none passes (suc n) fails = greatest_before passes n (fails n (omega arith)) ∙ greatest_none passes n (λ m lt. fails m (omega (arith, lt)))

-- this one passes, and none above it
pub greatest_is : (passes : ℕ → Bool) (bound n : ℕ) → n < bound → passes n ≡ true → ((m : ℕ) → n < m → m < bound → passes m ≡ false) → greatest_below passes bound ≡ Some n
greatest_is passes zero n below here fails = absurd (omega (arith, below))
greatest_is passes (suc k) n below here fails = ⊎_elim
    (λ (low : n < k). greatest_before passes k (fails k low (omega arith)) ∙ greatest_is passes k n low here (λ m up lt. fails m up (omega (arith, lt))))
    (λ (high : k ≤ n). let same : n ≡ k = omega (arith, below, high) in greatest_here passes k (subst (λ (j : ℕ). passes j ≡ true) same here) ∙ ap Some (sym same))
    (cases_lt n k)

-- tests that agree below the bound find the same
pub greatest_agrees : (p q : ℕ → Bool) (bound : ℕ) → AgreeBelow p q bound → greatest_below p bound ≡ greatest_below q bound
greatest_agrees p q zero agree = greatest_nothing p ∙ sym (greatest_nothing q)
greatest_agrees p q (suc n) agree =
    let same = agree n (omega arith) in
    ⊎_elim
    (λ (here : q n ≡ true). greatest_here p n (same ∙ here) ∙ sym (greatest_here q n here))
    (λ (there : q n ≡ false). greatest_before p n (same ∙ there) ∙ greatest_agrees p q n (λ m lt. agree m (omega (arith, lt))) ∙ sym (greatest_before q n there))
    (cases_Bool (q n))

-- ---- the least

module _ (passes : ℕ → Bool) (n : ℕ) where
  least_before : (m : ℕ) → least_below passes n ≡ Some m → least_below passes (suc n) ≡ Some m
  unfolding least_below
  least_before m found = rw found refl

  least_here : least_below passes n ≡ None → passes n ≡ true → least_below passes (suc n) ≡ Some n
  unfolding least_below
  least_here none here = rw (none, here) refl

  least_nowhere : least_below passes n ≡ None → passes n ≡ false → least_below passes (suc n) ≡ None
  unfolding least_below
  least_nowhere none there = rw (none, there) refl

least_nothing : (passes : ℕ → Bool) → least_below passes 0 ≡ None
unfolding least_below
least_nothing passes = refl

some_or_none : (o : Option ℕ) → ((m : ℕ) × (o ≡ Some m)) ⊎ (o ≡ None)
some_or_none None = inr refl
some_or_none (Some m) = inl (m, refl)

pub least_found : (passes : ℕ → Bool) (bound : ℕ) → IsLeastBelow passes bound (least_below passes bound)
least_found passes zero =
    let nothing = least_nothing passes in
    record { below = λ n is. cc; passing = λ n is. cc; past = λ n m is up. cc; none = λ is m lt. absurd (omega (arith, lt)) }
least_found passes (suc n) =
    let rest = least_found passes n in
    ⊎_elim
    (λ (some : (m : ℕ) × (least_below passes n ≡ Some m)).
    let found = least_before passes n some.0 some.1 in record {
      below = λ m is. let same : some.0 ≡ m = some_is (sym found ∙ is) in omega (arith, same, rest.below some.0 some.1);
      passing = λ m is. let same : some.0 ≡ m = some_is (sym found ∙ is) in rest.passing m (some.1 ∙ ap Some same);
      past = λ m k is up. let same : some.0 ≡ m = some_is (sym found ∙ is) in rest.past m k (some.1 ∙ ap Some same) up;
      none = λ is. absurd cc;
    })
    (λ (none : least_below passes n ≡ None). ⊎_elim
    (λ (here : passes n ≡ true). let found = least_here passes n none here in record {
      below = λ m is. let same : n ≡ m = some_is (sym found ∙ is) in omega (arith, same);
      passing = λ m is. let same : n ≡ m = some_is (sym found ∙ is) in subst (λ (k : ℕ). passes k ≡ true) same here;
      past = λ m k is up. let same : n ≡ m = some_is (sym found ∙ is) in rest.none none k (omega (arith, same, up));
      none = λ is. absurd cc;
    })
    (λ (there : passes n ≡ false). let found = least_nowhere passes n none there in record {
      below = λ m is. absurd cc;
      passing = λ m is. absurd cc;
      past = λ m k is up. absurd cc;
      none = λ is k lt. ⊎_elim
          (λ (low : k < n). rest.none none k low)
          (λ (high : n ≤ k). let same : n ≡ k = omega (arith, high, lt) in subst (λ (j : ℕ). passes j ≡ false) same there)
          (cases_lt k n);
    })
    (cases_Bool (passes n)))
    (some_or_none (least_below passes n))

-- nothing passes
pub least_none : (passes : ℕ → Bool) (bound : ℕ) → ((m : ℕ) → m < bound → passes m ≡ false) → least_below passes bound ≡ None
least_none passes zero fails = least_nothing passes
least_none passes (suc n) fails = least_nowhere passes n (least_none passes n (λ m lt. fails m (omega (arith, lt)))) (fails n (omega arith))

-- this one passes, and none below it
pub least_is : (passes : ℕ → Bool) (bound n : ℕ) → n < bound → passes n ≡ true → ((m : ℕ) → m < n → passes m ≡ false) → least_below passes bound ≡ Some n
least_is passes zero n below here fails = absurd (omega (arith, below))
least_is passes (suc k) n below here fails = ⊎_elim
    (λ (low : n < k). least_before passes k n (least_is passes k n low here fails))
    (λ (high : k ≤ n). let same : n ≡ k = omega (arith, below, high) in
    least_here passes k (least_none passes k (λ m lt. fails m (omega (arith, same, lt)))) (subst (λ (j : ℕ). passes j ≡ true) same here) ∙ ap Some (sym same))
    (cases_lt n k)

-- tests that agree below the bound find the same
pub least_agrees : (p q : ℕ → Bool) (bound : ℕ) → AgreeBelow p q bound → least_below p bound ≡ least_below q bound
least_agrees p q zero agree = least_nothing p ∙ sym (least_nothing q)
least_agrees p q (suc n) agree =
    let before = least_agrees p q n (λ m lt. agree m (omega (arith, lt))) in
    let same = agree n (omega arith) in
    ⊎_elim
    (λ (some : (m : ℕ) × (least_below q n ≡ Some m)). least_before p n some.0 (before ∙ some.1) ∙ sym (least_before q n some.0 some.1))
    (λ (none : least_below q n ≡ None). ⊎_elim
    (λ (here : q n ≡ true). least_here p n (before ∙ none) (same ∙ here) ∙ sym (least_here q n none here))
    (λ (there : q n ≡ false). least_nowhere p n (before ∙ none) (same ∙ there) ∙ sym (least_nowhere q n none there))
    (cases_Bool (q n)))
    (some_or_none (least_below q n))
