-- Files that join those that were found.
use Rattle.std.proofs.Common.{◌≡◌, ℕ, ◌==◌, Bool, true, false, cond, List, [], ◌∷◌, ◌++◌, ◌⊎◌, inl, inr, refl, sym, ap, subst, ◌∙◌, append_assoc}
use Rattle.std.specs.List.{list_any}
use Rattle.std.proofs.lemmas.List.{append-nil}
use Rattle.lineage_query.specs.Walk.{with_new, with_all}
use Rattle.lineage_query.proofs.Members.{Among, on-left, on-right, on-either, from-any_flipped}

abbrev Extends : List ℕ → List ℕ → Type 0
Extends found now = (rest : List ℕ) × (now ≡ found ++ rest)

new-extends : (found : List ℕ) (file : ℕ) → Extends found (with_new found file)
new-extends found file =
    elim (list_any (λ f. file == f) found) as (λ b. Extends found (cond b found (found ++ file ∷ []))) [
      | true ↦ ([], sym (append-nil found))
      | false ↦ (file ∷ [], refl)
    ]

-- those that were found stay in their places
pub all-extends : (found files : List ℕ) → Extends found (with_all found files)
all-extends found [] = ([], sym (append-nil found))
all-extends found (file ∷ files) =
    let one = new-extends found file in
    let more = all-extends (with_new found file) files in
    (one.0 ++ more.0, more.1 ∙ ap (λ (l : List ℕ). l ++ more.0) one.1 ∙ append_assoc found one.0 more.0)

pub all-keeps : (o : ℕ) (found files : List ℕ) → Among o found → Among o (with_all found files)
all-keeps o found files a =
    let more = all-extends found files in
    subst (λ (l : List ℕ). Among o l) (sym more.1) (on-left o found more.0 a)

new-has : (found : List ℕ) (file : ℕ) → Among file (with_new found file)
new-has found file =
    elim (list_any (λ f. file == f) found) as (λ b. list_any (λ f. file == f) found ≡ b → Among file (cond b found (found ++ file ∷ []))) [
      | true ↦ λ is. from-any_flipped file found is
      | false ↦ λ _. on-right file found (file ∷ []) (inl refl)
    ] refl

pub all-has : (o : ℕ) (found files : List ℕ) → Among o files → Among o (with_all found files)
all-has o found [] a = absurd a
all-has o found (file ∷ files) (inl is) = all-keeps o (with_new found file) files (subst (λ (f : ℕ). Among f (with_new found file)) is (new-has found file))
all-has o found (file ∷ files) (inr a) = all-has o (with_new found file) files a

new-only : (o : ℕ) (found : List ℕ) (file : ℕ) → Among o (with_new found file) → Among o found ⊎ (file ≡ o)
new-only o found file a =
    elim (list_any (λ f. file == f) found) as (λ b. Among o (cond b found (found ++ file ∷ [])) → Among o found ⊎ (file ≡ o)) [
      | true ↦ λ h. inl h
      | false ↦ λ h. elim (on-either o found (file ∷ []) h) [ inl b ↦ inl b | inr b ↦ elim b [ inl is ↦ inr is | inr none ↦ absurd none ] ]
    ] a

pub all-only : (o : ℕ) (found files : List ℕ) → Among o (with_all found files) → Among o found ⊎ Among o files
all-only o found [] a = inl a
all-only o found (file ∷ files) a =
    elim (all-only o (with_new found file) files a) [
      | inl b ↦ elim (new-only o found file b) [ inl c ↦ inl c | inr is ↦ inr (inl is) ]
      | inr b ↦ inr (inr b)
    ]

pub all-append : (found first second : List ℕ) → with_all found (first ++ second) ≡ with_all (with_all found first) second
all-append found [] second = refl
all-append found (file ∷ first) second = all-append (with_new found file) first second
