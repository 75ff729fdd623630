-- That what a pattern and its groups match in a text is a text.
use Rattle.std.proofs.Common.{◌≡◌, ℕ, zero, suc, ◌+◌, ◌-◌, ◌*◌, ◌/◌, ◌<◌, ◌≤◌, ◌==◌, Bool, true, false, cond, inl, inr, ⊎_elim, List, [], ◌∷◌, take, drop, length, refl, sym, ap, ap₂, ◌∙◌, subst, arith, ne_eqb}
use Rattle.std.specs.Prelude.{All, IfSome, Some, None, nat_lt, slice_index}
use Rattle.std.specs.Fmt.{is_char_start}
use Rattle.std.specs.Fmt.Cut.{floor_char_boundary}
use Rattle.std.specs.Option.{option_or}
use Rattle.std.specs.Str.{IsUtf8, IsCharBoundary}
use Rattle.std.proofs.lemmas.Bool.{and_parts, cases_lt, cond-false}
use Rattle.std.proofs.lemmas.Bool.Decides.{nat_tests}
use Rattle.std.proofs.lemmas.List.{take_all}
use Rattle.std.proofs.lemmas.List.Elements.{All-nil, All-cons, All-append}
use Rattle.std.proofs.lemmas.Str.{IsUtf8-between, IsUtf8-nil, IsUtf8-take}
use lib.Utf8.{scalar, scalars, scalar_cases, encode, encodes, next}
use Rattle.regex_hir.specs.Find.{Match, find_str, last_write, slot_of}
use Rattle.regex_hir.specs.Re.{Re}
use Rattle.regex_hir.specs.Text.{is_boundary}
use Rattle.regex_hir.proofs.AttemptLemmas.{cond_some}
use Rattle.regex_hir.proofs.FindLemmas.{IsFirst-of_first_between}
use Rattle.regex_hir.proofs.OptionLemmas.{option_or-None}
use Rattle.regex_meta.proofs.LeftmostLemmas.{attempt_fits}
use Rattle.regex.specs.Patterns.{span}
use Rattle.regex.specs.Writes.{HasTextParts, IsTidy, both, group_of}
use Rattle.regex.proofs.Utf8Lemmas.{IsCharBoundary-of_test, match_ends_cleanly}
use Rattle.regex.proofs.WritesLemmas.{last_write_has, writes_are_tidy_in_text}
use Rattle.machine_model.specs.declared.limits.TheConstants.{EXTRACTED_MAX}
use Rattle.machine_model.specs.ExtractText.{value_between, group_in}

-- ---- bytes of texts

abbrev IsByte : ℕ → Type 0
IsByte b = b < 256

either-bytes : (b : Bool) (xs ys : List ℕ) → (b ≡ true → All IsByte xs) → (b ≡ false → All IsByte ys) → All IsByte (cond b xs ys)
either-bytes true xs ys h k = h refl
either-bytes false xs ys h k = k refl

next-byte : (n : ℕ) → next n < 256
next-byte n = omega arith

one-byte : (a : ℕ) → a < 256 → All IsByte (a ∷ [])
one-byte a h = All-cons IsByte a [] h (All-nil IsByte)

char-bytes : (c : ℕ) → scalar c ≡ true → All IsByte (encode c)
unfolding encode
char-bytes c is =
    let small : c < 1114112 = ⊎_elim (λ low. omega arith) (λ high. high.1) (scalar_cases c is) in
    let last = one-byte (next c) (next-byte c) in
    let two = (192 + c / 64) ∷ next c ∷ [] in
    let three = (224 + c / 4096) ∷ next (c / 64) ∷ next c ∷ [] in
    let four = (240 + c / 262144) ∷ next (c / 4096) ∷ next (c / 64) ∷ next c ∷ [] in
    let last_two = All-cons IsByte (next (c / 64)) (next c ∷ []) (next-byte (c / 64)) last in
    either-bytes (nat_lt c 128) (c ∷ []) (cond (nat_lt c 2048) two (cond (nat_lt c 65536) three four))
    (λ lt. let low : c < 128 = grind (arith, nat_tests) in one-byte c (omega arith))
    (λ ge. either-bytes (nat_lt c 2048) two (cond (nat_lt c 65536) three four)
    (λ lt. let low : c < 2048 = grind (arith, nat_tests) in All-cons IsByte (192 + c / 64) (next c ∷ []) (omega arith) last)
    (λ ge. either-bytes (nat_lt c 65536) three four
    (λ lt. let low : c < 65536 = grind (arith, nat_tests) in All-cons IsByte (224 + c / 4096) (next (c / 64) ∷ next c ∷ []) (omega arith) last_two)
    (λ ge. All-cons IsByte (240 + c / 262144) (next (c / 4096) ∷ next (c / 64) ∷ next c ∷ []) (omega arith)
    (All-cons IsByte (next (c / 4096)) (next (c / 64) ∷ next c ∷ []) (next-byte (c / 4096)) last_two))))

chars-bytes : (cs : List ℕ) → scalars cs ≡ true → All IsByte (encodes cs)
chars-bytes [] is = All-nil IsByte
chars-bytes (c ∷ cs) is =
    let parts = and_parts (scalar c) (scalars cs) is in
    All-append IsByte (encode c) (encodes cs) (char-bytes c parts.0) (chars-bytes cs parts.1)

text-bytes : (text : List ℕ) → IsUtf8 text → All IsByte text
text-bytes text is = subst (All IsByte) is.1.1 (chars-bytes is.0 is.1.0)

-- ---- where a match and its groups stand

-- two places of a text in their order, between characters
pub record CutsText (text : List ℕ) (places : ℕ × ℕ) : Type 0 where
  pub ordered : places.0 ≤ places.1
  pub start : IsCharBoundary text places.0
  pub end : IsCharBoundary text places.1

slot-is : (m : Match) (slot : ℕ) → 2 ≤ slot → slot_of m slot ≡ last_write m.trace.writes slot
unfolding slot_of
slot-is m slot high =
    ap₂ option_or
    (ap (option_or (last_write m.trace.writes slot)) (cond-false (1 == slot) (Some m.trace.end) None (ne_eqb 1 slot (omega arith)))
    ∙ option_or-None (last_write m.trace.writes slot))
    (cond-false (0 == slot) (Some m.start) None (ne_eqb 0 slot (omega arith)))
    ∙ option_or-None (last_write m.trace.writes slot)

module _ (re : Re) (text : List ℕ) (is : IsUtf8 text) (parts : HasTextParts re) (m : Match) (found : find_str re text 0 ≡ Some m) where
  record Stands : Type 0 where
    whole : CutsText text (span m)
    writes : IsTidy (IsCharBoundary text) m.start m.trace.end m.trace.writes

  stands : Stands
  unfolding find_str
  stands =
      let first = IsFirst-of_first_between _ 0 (length text) m found in
      let here = cond_some (is_boundary text m.start) _ m.trace first.here in
      let cut = IsCharBoundary-of_test text m.start first.to here.0 in
      let fits = attempt_fits re text m.start m.trace first.to here.1 in
      record {
        whole = record {
          ordered = fits.0;
          start = cut;
          end = match_ends_cleanly re text (text-bytes text is) ∣ parts ∣₁ is m.start m.trace cut here.1;
        };
        writes = writes_are_tidy_in_text text re m.start m.trace is parts cut here.1;
      }

  pub whole-cuts : CutsText text (span m)
  whole-cuts = stands.whole

  pub group-cuts : (n : ℕ) → 1 ≤ n → IfSome (group_of m n) (CutsText text)
  group-cuts n some =
      let writes = m.trace.writes in
      let Placed : ℕ → Type 0 = λ i. (m.start ≤ i) × (i ≤ m.trace.end) × IsCharBoundary text i in
      let low = slot-is m (2 * n) (omega arith) in
      let high = slot-is m (2 * n + 1) (omega arith) in
      ⊎_elim
      (λ unset. let none : group_of m n ≡ None = ap₂ both (low ∙ unset.0) (high ∙ unset.1) in
      subst (λ o. IfSome o (CutsText text)) (sym none) tt)
      (λ set. let there : group_of m n ≡ Some (set.0, set.1) = ap₂ both (low ∙ set.2) (high ∙ set.3) in
      subst (λ o. IfSome o (CutsText text)) (sym there)
      (record {
        ordered = set.4;
        start = (last_write_has Placed writes (2 * n) set.0 stands.writes.placed set.2).2;
        end = (last_write_has Placed writes (2 * n + 1) set.1 stands.writes.placed set.3).2;
      }))
      (stands.writes.paired n)

  pub cuts-in : (group : ℕ) → IfSome (group_in m group) (CutsText text)
  cuts-in zero = whole-cuts
  cuts-in (suc group) =
      let later : (suc group == 0) ≡ false = ne_eqb (suc group) 0 (λ e. omega arith) in
      subst (λ o. IfSome o (CutsText text)) (sym (cond-false (suc group == 0) (Some (span m)) (group_of m (suc group)) later))
      (group-cuts (suc group) (omega arith))

-- ---- values

floor-text : (text : List ℕ) → IsUtf8 text → (most : ℕ) → IsUtf8 (take (floor_char_boundary text most) text)
unfolding floor_char_boundary
floor-text text is zero = IsUtf8-nil
floor-text text is (suc most) =
    let starts = is_char_start (slice_index text (suc most)) in
    elim starts as (λ b. starts ≡ b → IsUtf8 (take (cond b (suc most) (floor_char_boundary text most)) text)) [
      | true ↦ λ first. elim (cases_lt (length text) (suc most)) [
        | inl past ↦ subst IsUtf8 (sym (take_all (suc most) text (omega arith))) is
        | inr within ↦ IsUtf8-take text (suc most) is (within, λ below high. grind (arith, nat_tests))
      ]
      | false ↦ λ inside. floor-text text is most
    ] refl

pub value-text : (text : List ℕ) → IsUtf8 text → (places : ℕ × ℕ) → CutsText text places → IsUtf8 (value_between text places)
value-text text is places cuts =
    floor-text (take (places.1 - places.0) (drop places.0 text)) (IsUtf8-between text places.0 places.1 is cuts.ordered cuts.start cuts.end) EXTRACTED_MAX
