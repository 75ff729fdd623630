-- How many references to a slot there are, once a session is applied.
use Rattle.std.proofs.Common.{◌≡◌, ◌≢◌, ℕ, ◌+◌, ◌==◌, eqb, ◌&&◌, not, true, false, cond, List, [], ◌∷◌, length, map, Option, None, Some, is_some, refl, sym, ap, ◌∙◌, arith}
use Rattle.std.specs.Prelude.{option_map}
use Rattle.std.specs.List.{sum, list_any, cons_option}
use Rattle.std.proofs.lemmas.Bool.{and_parts, or_parts, not-true, eq-eqb, false≢true}
use Rattle.std.proofs.lemmas.List.Sums.{sum_by-cons}
use Rattle.flowfile_record.specs.NumberedItems.{with_item, without_item, AscendsByNumber}
use Rattle.flowfile_record.specs.Stored.{Kept}
use Rattle.flowfile_record.specs.declared.content.ContentRef.{ContentRef}
use Rattle.flowfile_record.specs.declared.stored.ActiveFile.{ActiveFile}
use Rattle.record_codec.specs.declared.entry.SessionEntry.{SessionEntry}
use Rattle.content_repo.specs.Slots.{references_to}
use Rattle.kept_state.specs.Applied.{active_number, left_after, with_files, session_applied}
use Rattle.kept_state.specs.Fits.{active_of, are_distinct_numbers}
use Rattle.kept_state.specs.Moves.{are_all_active}
use Rattle.kept_state.proofs.Going.{count_gone}
use Rattle.kept_state.proofs.Items.{item_of-without_other, sum-without, sum-with}
use Rattle.kept_state.proofs.Keeping.{ascends-filter, length-with_files}
use Rattle.kept_state.proofs.Moving.{left_after-cons, left_after-nil}
use Rattle.store_core.specs.Placing.{contents_of}
use Rattle.store_core.proofs.Sound.{content_of}

module _ (w : ActiveFile → ℕ) where
  abbrev pub weight_at : Option ActiveFile → ℕ
  weight_at None = 0
  weight_at (Some a) = w a

  pub weight_with : (placed files : List ActiveFile) → sum (map w (with_files placed files)) ≡ sum (map w files) + sum (map w placed)
  weight_with [] files = omega arith
  weight_with (a ∷ placed) files =
      omega (arith, weight_with placed (with_item active_number a files), sum-with active_number w a files, sum_by-cons (λ y. y) (w a) (map w placed))

  others_stay : (n : ℕ) (files : List ActiveFile) (ns : List ℕ) → list_any (λ m. m == n) ns ≡ false
      → (are_all_active (without_item active_number n files) ns ≡ are_all_active files ns) × (map (λ m. weight_at (active_of m (without_item active_number n files))) ns ≡ map (λ m. weight_at (active_of m files)) ns)
  others_stay n files [] other = (refl, refl)
  others_stay n files (m ∷ ns) other =
      let parts = or_parts (m == n) (list_any (λ m. m == n) ns) other in
      let ne : m ≢ n = λ e. false≢true (sym parts.0 ∙ eq-eqb m n e) in
      let same = item_of-without_other active_number m n files ne in
      let rest = others_stay n files ns parts.1 in (
        ap (λ (a : Option ActiveFile). is_some a && are_all_active (without_item active_number n files) ns) same ∙ ap (λ b. is_some (active_of m files) && b) rest.0,
        ap (λ (a : Option ActiveFile). weight_at a ∷ map (λ k. weight_at (active_of k (without_item active_number n files))) ns) same ∙ ap (λ (sizes : List ℕ). weight_at (active_of m files) ∷ sizes) rest.1,
      )

  found : (a : Option ActiveFile) → is_some a ≡ true → (x : ActiveFile) × (a ≡ Some x)
  found None is = absurd cc
  found (Some x) is = (x, refl)

  pub weight_gone : (gone : List ℕ) (files : List ActiveFile) → AscendsByNumber active_number files → are_distinct_numbers gone ≡ true → are_all_active files gone ≡ true
      → sum (map (λ n. weight_at (active_of n files)) gone) + sum (map w (left_after gone files)) ≡ sum (map w files)
  weight_gone [] files ascends distinct active = omega (arith, ap (λ l. sum (map w l)) (left_after-nil files))
  weight_gone (n ∷ ns) files ascends distinct active =
      let d = and_parts (not (list_any (λ m. m == n) ns)) (are_distinct_numbers ns) distinct in
      let a = and_parts (is_some (active_of n files)) (are_all_active files ns) active in
      let x = found (active_of n files) a.0 in
      let same = others_stay n files ns (not-true (list_any (λ m. m == n) ns) d.0) in
      let rest = weight_gone ns (without_item active_number n files) (ascends-filter active_number (λ b. not (active_number b == n)) files ascends) d.1 (same.0 ∙ a.1) in
      omega (
        arith,
        rest,
        sum-without active_number w n files x.0 ascends x.1,
        ap weight_at x.1,
        ap (λ l. sum (map w l)) (left_after-cons n ns files),
        ap sum same.1,
        sum_by-cons (λ y. y) (weight_at (active_of n files)) (map (λ m. weight_at (active_of m files)) ns),
      )

-- ---- references to a slot

abbrev refers : ℕ → ActiveFile → ℕ
refers k a = cond (eqb a.file.content.slot k) 1 0

refers-sum : (k : ℕ) (files : List ActiveFile) → references_to k (map content_of files) ≡ sum (map (refers k) files)
refers-sum k [] = refl
refers-sum k (a ∷ files) =
    omega (
      arith,
      refers-sum k files,
      sum_by-cons (λ (r : ContentRef). cond (eqb r.slot k) 1 0) (content_of a) (map content_of files),
      sum_by-cons (λ y. y) (refers k a) (map (refers k) files),
    )

gone-one : (k : ℕ) (a : Option ActiveFile) (refs : List ContentRef)
    → references_to k (cons_option (option_map content_of a) refs) ≡ weight_at (refers k) a + references_to k refs
gone-one k None refs = omega arith
gone-one k (Some a) refs = sum_by-cons (λ (r : ContentRef). cond (eqb r.slot k) 1 0) (content_of a) refs

gone-sum : (k : ℕ) (files : List ActiveFile) (gone : List ℕ) → references_to k (contents_of files gone) ≡ sum (map (λ n. weight_at (refers k) (active_of n files)) gone)
gone-sum k files [] = refl
gone-sum k files (n ∷ gone) =
    omega (
      arith,
      gone-sum k files gone,
      gone-one k (active_of n files) (contents_of files gone),
      sum_by-cons (λ y. y) (weight_at (refers k) (active_of n files)) (map (λ m. weight_at (refers k) (active_of m files)) gone),
    )

length-one : (a : Option ActiveFile) (refs : List ContentRef) → is_some a ≡ true → length (cons_option (option_map content_of a) refs) ≡ length refs + 1
length-one None refs is = absurd cc
length-one (Some a) refs is = omega arith

pub length-gone : (files : List ActiveFile) (gone : List ℕ) → are_all_active files gone ≡ true → length (contents_of files gone) ≡ length gone
length-gone files [] active = refl
length-gone files (n ∷ gone) active =
    let a = and_parts (is_some (active_of n files)) (are_all_active files gone) active in
    omega (arith, length-one (active_of n files) (contents_of files gone) a.0, length-gone files gone a.1)

-- those that go and those that are left are all
pub references_left : (k : ℕ) (gone : List ℕ) (files : List ActiveFile) → AscendsByNumber active_number files → are_distinct_numbers gone ≡ true → are_all_active files gone ≡ true
    → references_to k (contents_of files gone) + references_to k (map content_of (left_after gone files)) ≡ references_to k (map content_of files)
references_left k gone files ascends distinct active =
    omega (arith, weight_gone (refers k) gone files ascends distinct active, gone-sum k files gone, refers-sum k (left_after gone files), refers-sum k files)

pub references_applied : (k : ℕ) (kept : Kept) (s : SessionEntry) → AscendsByNumber active_number kept.files → are_distinct_numbers s.gone ≡ true → are_all_active kept.files s.gone ≡ true
    → references_to k (map content_of (session_applied kept s).files) + references_to k (contents_of kept.files s.gone)
    ≡ references_to k (map content_of kept.files) + references_to k (map content_of s.placed)
references_applied k kept s ascends distinct active =
    let left = left_after s.gone kept.files in
    omega (
      arith,
      references_left k s.gone kept.files ascends distinct active,
      weight_with (refers k) s.placed left,
      refers-sum k (with_files s.placed left),
      refers-sum k left,
      refers-sum k s.placed,
    )

pub length_applied : (kept : Kept) (s : SessionEntry) → AscendsByNumber active_number kept.files → are_distinct_numbers s.gone ≡ true → are_all_active kept.files s.gone ≡ true
    → length (session_applied kept s).files + length (contents_of kept.files s.gone) ≡ length kept.files + length s.placed
length_applied kept s ascends distinct active =
    omega (arith, count_gone s.gone kept.files ascends distinct active, length-gone kept.files s.gone active, length-with_files s.placed (left_after s.gone kept.files))
