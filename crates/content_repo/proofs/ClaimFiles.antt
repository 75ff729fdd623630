-- Steps on the files of claims, one after another.
use Rattle.std.proofs.Common.{◌≡◌, ◌⊎◌, ℕ, List, take, refl, sym, ap, subst, ◌∙◌, inl, inr, arith}
use Rattle.std.proofs.lemmas.Bool.{cases_eq}
use Rattle.std.proofs.lemmas.List.{take-take}
use Rattle.disk_trait.specs.Files.{Files, At, Shortened}
use Rattle.disk_trait.specs.Images.{After, Since, Stays}
use Rattle.disk_trait.proofs.Moments.{wider, nothing, only_read, step_after_step}
use Rattle.disk_trait.specs.declared.file_name.FileName.{FileName}
use Rattle.content_repo.specs.Claims.{claim, OnClaims}

pub Shortened-refl : (n : ℕ) (bytes : List ℕ) → Shortened n bytes bytes
Shortened-refl n bytes = record { front = refl; no_shorter = omega arith; no_longer = omega arith }

pub Shortened-trans : (n : ℕ) (a b c : List ℕ) → Shortened n a b → Shortened n b c → Shortened n a c
Shortened-trans n a b c first second = record {
  front = second.front ∙ first.front;
  no_shorter = omega (arith, first.no_shorter, second.no_shorter);
  no_longer = omega (arith, first.no_longer, second.no_longer);
}

-- a file is as it was, or cut to its end
abbrev pub MaybeCut : ℕ → List ℕ → List ℕ → Type 0
MaybeCut end old new = (new ≡ old) ⊎ (new ≡ take end old)

pub MaybeCut-trans : (n : ℕ) (a b c : List ℕ) → MaybeCut n a b → MaybeCut n b c → MaybeCut n a c
MaybeCut-trans n a b c (inl p) (inl q) = inl (q ∙ p)
MaybeCut-trans n a b c (inl p) (inr q) = inr (q ∙ ap (take n) p)
MaybeCut-trans n a b c (inr p) (inl q) = inr (q ∙ p)
MaybeCut-trans n a b c (inr p) (inr q) = inr (q ∙ ap (take n) p ∙ take-take n n a (omega arith))

module _ (step : ℕ → List ℕ → List ℕ → Type 0) (same : (k : ℕ) (a : List ℕ) → step k a a) where
  pub OnClaims-refl : (files : Files) → OnClaims step files files
  OnClaims-refl files = record { claims = λ k. same k (files (claim k)); others = λ f other. refl }

  pub OnClaims-one : (k : ℕ) (old new : Files) → At (claim k) (step k) old new → OnClaims step old new
  OnClaims-one k old new one = record {
    claims = λ j.
        elim (cases_eq j k) [
          | inl here ↦ subst (λ (i : ℕ). step i (old (claim i)) (new (claim i))) (sym here) one.here
          | inr differs ↦
              let kept = one.others (claim j) (λ e. differs (ap (λ (f : FileName). f.number) e)) in
              subst (λ (bytes : List ℕ). step j (old (claim j)) bytes) (sym kept) (same j (old (claim j)))
        ];
    others = λ f other. one.others f (λ e. other (ap (λ (g : FileName). g.kind) e));
  }

  module _ (onward : (k : ℕ) (a b c : List ℕ) → step k a b → step k b c → step k a c) where
    pub OnClaims-trans : (a b c : Files) → OnClaims step a b → OnClaims step b c → OnClaims step a c
    OnClaims-trans a b c first second = record {
      claims = λ k. onward k (a (claim k)) (b (claim k)) (c (claim k)) (first.claims k) (second.claims k);
      others = λ f other. second.others f other ∙ first.others f other;
    }

    module _ {D : Type 0} (moment : D → ℕ) (images : D → ℕ → Files → Type 0) where
      pub since_nothing : (disk : D) → Since moment images disk disk (After (OnClaims step) (images disk (moment disk)))
      since_nothing disk = wider moment images disk disk (images disk (moment disk)) (After (OnClaims step) (images disk (moment disk))) (nothing moment images disk) (λ c left. (c, left, OnClaims-refl c))

      pub since_read : (held : D → Files) (old new : D) → Stays held moment images old new
          → Since moment images old new (After (OnClaims step) (images old (moment old)))
      since_read held old new stays =
          wider moment images old new (images old (moment old)) (After (OnClaims step) (images old (moment old))) (only_read moment images held old new stays) (λ c left. (c, left, OnClaims-refl c))

      pub since_more : (old mid new : D) (k : ℕ) (one : List ℕ → List ℕ → Type 0)
          → Since moment images old mid (After (OnClaims step) (images old (moment old)))
          → Since moment images mid new (After (At (claim k) one) (images mid (moment mid)))
          → ((a b : List ℕ) → one a b → step k a b)
          → Since moment images old new (After (OnClaims step) (images old (moment old)))
      since_more old mid new k one first second is =
          step_after_step moment images old mid new (OnClaims step) (At (claim k) one) (OnClaims step) (images old (moment old)) first second
          (λ d c r. r)
          (λ d e c r s. OnClaims-trans d e c r (OnClaims-one k e c (record { here = is (e (claim k)) (c (claim k)) s.here; others = s.others })))

-- another step that follows from the first
pub OnClaims-wider : (step wide : ℕ → List ℕ → List ℕ → Type 0) (old new : Files) → ((k : ℕ) (a b : List ℕ) → step k a b → wide k a b)
    → OnClaims step old new → OnClaims wide old new
OnClaims-wider step wide old new to on = record {
  claims = λ k. to k (old (claim k)) (new (claim k)) (on.claims k);
  others = on.others;
}
