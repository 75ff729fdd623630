-- How a text is read piece by piece.
use Rattle.std.proofs.Common.{◌≡◌, ℕ, ◌≤◌, List, [], ◌++◌, length, take, sym, ◌∙◌, ap, arith, append_assoc}
use Rattle.std.proofs.lemmas.List.{append-nil, take_all, take-append-le}
use Rattle.std.specs.Prelude.{Err, Result}
use Rattle.disk_trait.specs.Faults.{CountsFaults}

-- one piece more
pub text_more : (text old_rest piece rest : List ℕ) → old_rest ≡ piece ++ rest → text ++ old_rest ≡ (text ++ piece) ++ rest
text_more text old_rest piece rest is = ap (λ (r : List ℕ). text ++ r) is ∙ sym (append_assoc text piece rest)

-- with nothing behind it, the text is all
pub text_ends : (all text rest : List ℕ) (most : ℕ) → all ≡ text ++ rest → rest ≡ [] → length text ≤ most → text ≡ take most all
text_ends all text rest most is none within =
    let same : all ≡ text = is ∙ ap (λ (r : List ℕ). text ++ r) none ∙ append-nil text in
    sym (ap (take most) same ∙ take_all most text within)

-- a text of the greatest length is the front of all
pub text_full : (all text rest : List ℕ) (most : ℕ) → all ≡ text ++ rest → length text ≤ most → most ≤ length text → text ≡ take most all
text_full all text rest most is within full =
    sym (ap (take most) is ∙ take-append-le most text rest full ∙ take_all most text within)

-- faults in turn
pub faults_in_turn : {P Q : Type 0} (a b c : ℕ) → a ≤ b → CountsFaults b c P → (Q → P) → CountsFaults a c Q
faults_in_turn a b c first then to = record {
  never_falls = let later = then.never_falls in omega arith;
  rose = λ failed small. let later = then.rose (to failed) small in omega arith;
}

pub err_is : {A E : Type 0} {a b : E} → ◌≡◌ {A = Result A E} (Err a) (Err b) → a ≡ b
err_is is = cc
