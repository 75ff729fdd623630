-- Parts written one after the other.
use Rattle.std.proofs.Common.{◌≡◌, ℕ, List, ◌++◌, ap, ◌∙◌, append_assoc}

regroup4 : (out a b c d : List ℕ) → (((out ++ a) ++ b) ++ c) ++ d ≡ out ++ (((a ++ b) ++ c) ++ d)
regroup4 out a b c d = simp append_assoc

regroup5 : (out a b c d e : List ℕ) → ((((out ++ a) ++ b) ++ c) ++ d) ++ e ≡ out ++ ((((a ++ b) ++ c) ++ d) ++ e)
regroup5 out a b c d e = simp append_assoc

pub written4 : (out a b c d x y z w : List ℕ) → x ≡ out ++ a → y ≡ x ++ b → z ≡ y ++ c → w ≡ z ++ d → w ≡ out ++ (((a ++ b) ++ c) ++ d)
written4 out a b c d x y z w p q r s = s ∙ ap (λ (l : List ℕ). l ++ d) (r ∙ ap (λ (l : List ℕ). l ++ c) (q ∙ ap (λ (l : List ℕ). l ++ b) p)) ∙ regroup4 out a b c d

pub written5 : (out a b c d e x y z w v : List ℕ) → x ≡ out ++ a → y ≡ x ++ b → z ≡ y ++ c → w ≡ z ++ d → v ≡ w ++ e → v ≡ out ++ ((((a ++ b) ++ c) ++ d) ++ e)
written5 out a b c d e x y z w v p q r s t = t ∙ ap (λ (l : List ℕ). l ++ e) (s ∙ ap (λ (l : List ℕ). l ++ d) (r ∙ ap (λ (l : List ℕ). l ++ c) (q ∙ ap (λ (l : List ℕ). l ++ b) p))) ∙ regroup5 out a b c d e

-- four parts and four more
pub regroup8 : (a b c d e f g h : List ℕ) → (((a ++ b) ++ c) ++ d) ++ (((e ++ f) ++ g) ++ h) ≡ a ++ (b ++ (c ++ (d ++ (e ++ (f ++ (g ++ h))))))
regroup8 a b c d e f g h = simp append_assoc
