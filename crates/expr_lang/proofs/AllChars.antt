-- Each character of a text passes a test just where each byte does, for a test that ASCII alone passes.
use Rattle.std.proofs.Common.{◌≡◌, ℕ, ◌<◌, ◌≤◌, Bool, true, false, ◌&&◌, List, [], ◌∷◌, length, refl, ap, sym, ◌∙◌, inl, inr, arith, encode_utf8}
use Rattle.std.specs.Prelude.{encode_utf8_all}
use Rattle.std.proofs.lemmas.Bool.{cases_lt, false_from_ne_true}
use Rattle.std.proofs.lemmas.Bool.Decides.{nat_tests}
use Rattle.std.proofs.lemmas.List.Folds.{list_all-append}
use Rattle.std.proofs.lemmas.Str.{encode_ascii, length-encode, len_utf8_bounds, encodes-chars}
use Rattle.std.specs.List.{list_all}
use Rattle.std.specs.Str.{IsUtf8, chars}
use Rattle.expr_lang.specs.Bytes.{is_space}
use Rattle.expr_lang.proofs.Chars.{AllHigh, none, more, encode_high, IsLow}

pub is_space-IsLow : IsLow is_space
is_space-IsLow = record { low = λ c e. grind (arith, nat_tests) }

module _ (p : ℕ → Bool) (low : IsLow p) where
  high_fails : (c : ℕ) → 128 ≤ c → p c ≡ false
  high_fails c high = false_from_ne_true (p c) (λ e. let l = low.low c e in omega arith)

  some_high : (bytes : List ℕ) → AllHigh bytes → 0 < length bytes → list_all p bytes ≡ false
  some_high _ none some = absurd (omega arith)
  some_high _ (more b bytes high rest) some = rw (high_fails b high) refl

  and_true : (b : Bool) → (b && true) ≡ b
  and_true true = refl
  and_true false = refl

  one_char : (c : ℕ) → list_all p (encode_utf8 c) ≡ p c
  one_char c = elim (cases_lt c 128) [
    | inl small ↦ ap (list_all p) (encode_ascii c small) ∙ and_true (p c)
    | inr high ↦ some_high (encode_utf8 c) (encode_high c high) (omega (arith, length-encode c, len_utf8_bounds c)) ∙ sym (high_fails c high)
  ]

  all_encoded : (cs : List ℕ) → list_all p (encode_utf8_all cs) ≡ list_all p cs
  all_encoded [] = refl
  all_encoded (c ∷ cs) = list_all-append p (encode_utf8 c) (encode_utf8_all cs) ∙ ap (λ b. b && list_all p (encode_utf8_all cs)) (one_char c) ∙ ap (λ b. p c && b) (all_encoded cs)

  pub all_chars : (bs : List ℕ) → IsUtf8 bs → list_all p (chars bs) ≡ list_all p bs
  all_chars bs is_text = sym (all_encoded (chars bs)) ∙ ap (list_all p) (encodes-chars bs is_text)
