-- The current log, looked for from the greatest number down.
use Rattle.std.proofs.Common.{◌≡◌, ◌⊎◌, inl, inr, ⊎_elim, ℕ, zero, suc, ◌<◌, ◌^◌, ◌==◌, true, false, List, [], ◌∷◌, ◌++◌, length, length-append, get_or, sym, ◌∙◌, subst, arith}
use Rattle.std.specs.Prelude.{None, Some}
use Rattle.std.specs.List.{AllPairs, Contains}
use Rattle.std.proofs.Math.Seq.{get_or-append_seam}
use Rattle.std.proofs.lemmas.Bool.{and_parts, ltb-true, cases_Bool, false≢true}
use Rattle.std.proofs.lemmas.List.{get_or_append_left}
use Rattle.std.proofs.lemmas.List.Elements.{Contains-append_cases}
use Rattle.disk_trait.specs.Files.{Files, named}
use Rattle.disk_trait.specs.declared.file_name.FileKind.TheVariants.{Log}
use Rattle.disk_trait.proofs.Search.{greatest_is, greatest_none}
use Rattle.record_codec.specs.declared.log.TheConstants.{OPEN_GATE}
use Rattle.record_codec.specs.Frames.{counts}
use Rattle.flowfile_wal.specs.Current.{current_number}

abbrev pub Rises : List ℕ → Type 0
Rises xs = AllPairs (λ x y. x < y) xs

pub rises_front : (xs : List ℕ) (n : ℕ) → Rises (xs ++ n ∷ []) → Rises xs
rises_front xs n rises = λ (i j d : ℕ) (lt : i < j) (within : j < length xs).
    let at_i = get_or_append_left xs (n ∷ []) d i (omega (arith, lt, within)) in
    let at_j = get_or_append_left xs (n ∷ []) d j within in
    omega (arith, rises i j d lt (omega (arith, within, length-append xs (n ∷ []))), at_i, at_j)

pub last_above : (xs : List ℕ) (n m : ℕ) → Rises (xs ++ n ∷ []) → Contains xs m → m < n
last_above xs n m rises has =
    let at_k = get_or_append_left xs (n ∷ []) m has.0 has.1 in
    let seam = get_or-append_seam xs n [] m in
    omega (arith, rises has.0 (length xs) m has.1 (omega (arith, length-append xs (n ∷ []))), at_k, seam, has.2)

only_one : (n m k : ℕ) → k < 1 → get_or (n ∷ []) k m ≡ m → m ≡ n
only_one n m zero lt is = sym is
only_one n m (suc k) lt is = absurd (omega arith)

front_or_last : (xs : List ℕ) (n m : ℕ) → Contains (xs ++ n ∷ []) m → Contains xs m ⊎ (m ≡ n)
front_or_last xs n m has = ⊎_elim
    (λ (front : Contains xs m). inl front)
    (λ (last : Contains (n ∷ []) m). inr (only_one n m last.0 last.1 last.2))
    (Contains-append_cases xs (n ∷ []) m has)

-- a log that counts isn't empty
pub counted_some : (bytes : List ℕ) → counts bytes ≡ true → 0 < length bytes
counted_some bytes is =
    let long : 1 < length bytes = ltb-true 1 (length bytes) (and_parts (get_or bytes 0 0 == OPEN_GATE) _ is).1 in omega arith

module _ (files : Files) where
  -- each log that counts is in the list
  abbrev pub AllCounted : List ℕ → Type 0
  AllCounted xs = (m : ℕ) → m < 2 ^ 64 → counts (files (named Log m)) ≡ true → Contains xs m

  pub found_last : (xs : List ℕ) (n : ℕ) → Rises (xs ++ n ∷ []) → AllCounted (xs ++ n ∷ []) → n < 2 ^ 64 → counts (files (named Log n)) ≡ true → current_number files ≡ Some n
  unfolding current_number
  found_last xs n rises all below here = greatest_is (λ m. counts (files (named Log m))) (2 ^ 64) n below here
      (λ m up lt. ⊎_elim
      (λ (counted : counts (files (named Log m)) ≡ true). ⊎_elim
      (λ (front : Contains xs m). absurd (omega (arith, last_above xs n m rises front, up)))
      (λ (last : m ≡ n). absurd (omega (arith, last, up)))
      (front_or_last xs n m (all m lt counted)))
      (λ (passed : counts (files (named Log m)) ≡ false). passed)
      (cases_Bool (counts (files (named Log m)))))

  pub none_left : (xs : List ℕ) → length xs ≡ 0 → AllCounted xs → current_number files ≡ None
  unfolding current_number
  none_left xs none all = greatest_none (λ m. counts (files (named Log m))) (2 ^ 64)
      (λ m lt. ⊎_elim
      (λ (counted : counts (files (named Log m)) ≡ true). let has = all m lt counted in absurd (omega (arith, has.1, none)))
      (λ (passed : counts (files (named Log m)) ≡ false). passed)
      (cases_Bool (counts (files (named Log m)))))

  pub passed_last : (xs : List ℕ) (n : ℕ) → AllCounted (xs ++ n ∷ []) → counts (files (named Log n)) ≡ false → AllCounted xs
  passed_last xs n all passed = λ (m : ℕ) (lt : m < 2 ^ 64) (counted : counts (files (named Log m)) ≡ true). ⊎_elim
      (λ (front : Contains xs m). front)
      (λ (last : m ≡ n). absurd (false≢true (sym passed ∙ subst (λ (k : ℕ). counts (files (named Log k)) ≡ true) last counted)))
      (front_or_last xs n m (all m lt counted))
