-- Quoted texts.
use Rattle.std.proofs.Common.{◌≡◌, ◌≢◌, ◌⊎◌, ℕ, Bool, true, false, cond, ◌==◌, List, [], ◌∷◌, ◌++◌, Some, refl, ap, sym, ◌∙◌, subst, inl, inr, arith, append_assoc}
use Rattle.std.proofs.lemmas.Bool.{cases_Bool, or_cases, eqb-true, eqb-false, eq-eqb, ne_eqb}
use Rattle.std.proofs.lemmas.Option.{none-some, option_and_then_some, some_pair_parts}
use Rattle.expr_lang.specs.Bytes.{escaped}
use Rattle.expr_lang.specs.Grammar.{IsBody, IsQuoted}
use Rattle.expr_lang.specs.Reading.{Reading, with_front, body_from, body_read, is_mark, quoted_read}
use Rattle.expr_lang.proofs.Fronts.{IsRead}

-- what a body read from these bytes says of them, where a backslash stands before them or doesn't
abbrev Said : ℕ → Bool → List ℕ → List ℕ → List ℕ → Type 0
Said mark true bytes s rest = (inner : List ℕ) × IsBody mark (92 ∷ inner) s × (bytes ≡ inner ++ (mark ∷ rest))
Said mark false bytes s rest = (inner : List ℕ) × IsBody mark inner s × (bytes ≡ inner ++ (mark ∷ rest))

one_more : (c : ℕ) (reading : Reading (List ℕ)) (s rest : List ℕ) → with_front (c ∷ []) reading ≡ Some (s, rest) → (t : List ℕ) × (reading ≡ Some (t, rest)) × (s ≡ c ∷ t)
one_more c reading s rest h = option_and_then_some (λ (x : List ℕ × List ℕ). Some ((c ∷ []) ++ x.0, x.1)) reading (s, rest) h (λ x is e.
    let parts = some_pair_parts ((c ∷ []) ++ x.0) s x.1 rest e in
    let there : reading ≡ Some (x.0, rest) = is ∙ ap (λ (l : List ℕ). Some (x.0, l)) parts.1 in
    (x.0, there, sym parts.0))

body_sound : (mark : ℕ) (bytes : List ℕ) (escape : Bool) (s rest : List ℕ) → body_from mark bytes escape ≡ Some (s, rest) → Said mark escape bytes s rest
unfolding body_from
body_sound mark [] true s rest h = absurd (none-some (s, rest) h)
body_sound mark [] false s rest h = absurd (none-some (s, rest) h)
body_sound mark (c ∷ bytes) true s rest h =
    option_and_then_some (λ (d : ℕ). with_front (d ∷ []) (body_from mark bytes false)) (escaped c) (s, rest) h (λ d is e.
    let more = one_more d (body_from mark bytes false) s rest e in
    let inside = body_sound mark bytes false more.0 rest more.1 in
    let here : IsBody mark (92 ∷ c ∷ inside.0) s = subst (λ (l : List ℕ). IsBody mark (92 ∷ c ∷ inside.0) l) (sym more.2) (IsBody.escape c d inside.0 more.0 is inside.1) in
    (c ∷ inside.0, here, ap (λ (l : List ℕ). c ∷ l) inside.2))
body_sound mark (c ∷ bytes) false s rest h = elim (cases_Bool (c == mark)) [
  | inl marks ↦
      let e : ◌≡◌ {A = Reading (List ℕ)} (Some ([], bytes)) (Some (s, rest)) = rw marks at h in
      let parts = some_pair_parts [] s bytes rest e in
      ([], subst (λ (l : List ℕ). IsBody mark [] l) parts.0 IsBody.nothing, ap (λ (l : List ℕ). c ∷ l) parts.1 ∙ ap (λ (b : ℕ). b ∷ rest) (eqb-true c mark marks))
  | inr other ↦
      let h' : cond (c == 92) (body_from mark bytes true) (with_front (c ∷ []) (body_from mark bytes false)) ≡ Some (s, rest) = rw other at h in
      elim (cases_Bool (c == 92)) [
        | inl slash ↦
            let inside = body_sound mark bytes true s rest (rw slash at h') in
            (92 ∷ inside.0, inside.1, ap (λ (b : ℕ). b ∷ bytes) (eqb-true c 92 slash) ∙ ap (λ (l : List ℕ). 92 ∷ l) inside.2)
        | inr plain ↦
            let more = one_more c (body_from mark bytes false) s rest (rw plain at h') in
            let inside = body_sound mark bytes false more.0 rest more.1 in
            let here : IsBody mark (c ∷ inside.0) s = subst (λ (l : List ℕ). IsBody mark (c ∷ inside.0) l) (sym more.2) (IsBody.plain c inside.0 more.0 (eqb-false c mark other) (eqb-false c 92 plain) inside.1) in
            (c ∷ inside.0, here, ap (λ (l : List ℕ). c ∷ l) inside.2)
      ]
]

body_complete : (mark : ℕ) (inner s rest : List ℕ) → mark ≢ 92 → IsBody mark inner s → body_read mark (inner ++ (mark ∷ rest)) ≡ Some (s, rest)
unfolding body_from
body_complete mark _ _ rest ne IsBody.nothing = rw (eq-eqb mark mark refl) refl
body_complete mark _ _ rest ne (IsBody.plain c bytes s no_mark no_slash inside) =
    rw (ne_eqb c mark no_mark, ne_eqb c 92 no_slash, body_complete mark bytes s rest ne inside) refl
body_complete mark _ _ rest ne (IsBody.escape c d bytes s is inside) =
    rw (ne_eqb 92 mark (λ e. ne (sym e)), is, body_complete mark bytes s rest ne inside) refl

pub mark_cases : (c : ℕ) → is_mark c ≡ true → (c ≡ 39) ⊎ (c ≡ 34)
mark_cases c h = elim (or_cases (c == 39) (c == 34) h) [
  | inl one ↦ inl (eqb-true c 39 one)
  | inr two ↦ inr (eqb-true c 34 two)
]

pub quoted_sound : (bytes s rest : List ℕ) → quoted_read bytes ≡ Some (s, rest) → IsRead IsQuoted bytes s rest
unfolding quoted_read
quoted_sound [] s rest h = absurd (none-some (s, rest) h)
quoted_sound (c ∷ bytes) s rest h = elim (cases_Bool (is_mark c)) [
  | inl marks ↦
      let inside = body_sound c bytes false s rest (rw marks at h) in
      record {
        front = c ∷ (inside.0 ++ (c ∷ []));
        meant = record { mark = c; body = inside.0; is_mark = mark_cases c marks; is_body = inside.1; whole = refl };
        whole = ap (λ (l : List ℕ). c ∷ l) (inside.2 ∙ sym (append_assoc inside.0 (c ∷ []) rest));
      }
  | inr other ↦ absurd (none-some (s, rest) (rw other at h))
]

behind_mark : (mark : ℕ) (inner s rest : List ℕ) → is_mark mark ≡ true → mark ≢ 92 → IsBody mark inner s → quoted_read (mark ∷ (inner ++ (mark ∷ rest))) ≡ Some (s, rest)
unfolding quoted_read
behind_mark mark inner s rest marks ne inside = rw marks (body_complete mark inner s rest ne inside)

pub quoted_complete : (bytes s rest : List ℕ) → IsQuoted bytes s → quoted_read (bytes ++ rest) ≡ Some (s, rest)
quoted_complete bytes s rest q =
    let joined : bytes ++ rest ≡ q.mark ∷ (q.body ++ (q.mark ∷ rest)) =
    ap (λ (l : List ℕ). l ++ rest) q.whole ∙ ap (λ (l : List ℕ). q.mark ∷ l) (append_assoc q.body (q.mark ∷ []) rest) in
    ap quoted_read joined ∙ by_mark q.mark q.is_mark q.is_body
  where
    by_mark : (mark : ℕ) → (mark ≡ 39) ⊎ (mark ≡ 34) → IsBody mark q.body s → quoted_read (mark ∷ (q.body ++ (mark ∷ rest))) ≡ Some (s, rest)
    by_mark mark (inl e) inside = behind_mark mark q.body s rest (ap is_mark e) (λ e'. absurd (omega arith)) inside
    by_mark mark (inr e) inside = behind_mark mark q.body s rest (ap is_mark e) (λ e'. absurd (omega arith)) inside
