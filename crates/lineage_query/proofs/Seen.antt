-- The files that were seen, as a set and as a list.
use Rattle.std.proofs.Common.{◌≡◌, ℕ, ◌==◌, ◌||◌, not, Bool, true, false, cond, List, [], ◌∷◌, ◌++◌, refl, sym, ap, ◌∙◌}
use lib.Dec.{eqb}
use Rattle.std.specs.List.{list_any, IsDistinct}
use Rattle.std.specs.Ordering.{nat_cmp, is_eq}
use Rattle.std.specs.Cmp.{unsigned_tied}
use Rattle.std.proofs.lemmas.List.Folds.{list_any-append}
use Rattle.flowfile_record.proofs.ByNumber.{eqb_comm}

pub not-true : (b : Bool) → not b ≡ true → b ≡ false
not-true false is = refl
not-true true is = absurd cc

pub none-apart : IsDistinct eqb []
unfolding IsDistinct
none-apart = tt

or-false : (a b : Bool) → cond a true b ≡ (b || (a || false))
or-false true true = refl
or-false true false = refl
or-false false true = refl
or-false false false = refl

-- a new file joins both
pub seen-new : (before after : ℕ → Bool) (files now : List ℕ) (file : ℕ) → now ≡ files ++ file ∷ [] → ((q : ℕ) → before q ≡ list_any (λ f. q == f) files)
    → ((q : ℕ) → after q ≡ cond (is_eq (nat_cmp file q)) true (before q)) → (q : ℕ) → after q ≡ list_any (λ f. q == f) now
seen-new before after files now file is seen updates q =
    updates q ∙ ap (λ b. cond b true (before q)) (unsigned_tied file q ∙ eqb_comm file q) ∙ ap (cond (q == file) true) (seen q) ∙ or-false (q == file) (list_any (λ f. q == f) files)
    ∙ sym (list_any-append (λ f. q == f) files (file ∷ [])) ∙ ap (list_any (λ f. q == f)) (sym is)
