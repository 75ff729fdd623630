-- Files that go and files that are placed.
use Rattle.std.proofs.Common.{◌≡◌, ◌≢◌, ℕ, ◌==◌, true, false, List, [], ◌∷◌, map, refl, sym, ap, ◌∙◌, inl, inr}
use Rattle.std.specs.List.{list_any}
use Rattle.std.proofs.lemmas.Bool.{cases_Bool, or_parts, false≢true, eq-eqb}
use Rattle.flowfile_record.specs.NumberedItems.{with_item, without_item}
use Rattle.flowfile_record.specs.declared.stored.ActiveFile.{ActiveFile}
use Rattle.kept_state.specs.Applied.{active_number, is_file_among, left_after, with_files}
use Rattle.kept_state.specs.Fits.{active_of}
use Rattle.kept_state.proofs.Items.{eqb_comm, item_of-without_other, item_of-with}

pub left_after-cons : (n : ℕ) (ns : List ℕ) (files : List ActiveFile) → left_after (n ∷ ns) files ≡ left_after ns (without_item active_number n files)
left_after-cons n ns [] = refl
left_after-cons n ns (a ∷ files) =
    let rest = left_after-cons n ns files in
    elim (cases_Bool (n == a.file.number)) [
      | inl t ↦
          let other : (a.file.number == n) ≡ true = eqb_comm a.file.number n ∙ t in
          rw (t, other) rest
      | inr f ↦
          let other : (a.file.number == n) ≡ false = eqb_comm a.file.number n ∙ f in
          rw (f, other) (elim (cases_Bool (is_file_among ns a)) [ inl s ↦ rw s rest | inr o ↦ rw o (ap (λ (l : List ActiveFile). a ∷ l) rest) ])
    ]

pub left_after-nil : (files : List ActiveFile) → left_after [] files ≡ files
left_after-nil [] = refl
left_after-nil (a ∷ files) = ap (λ (l : List ActiveFile). a ∷ l) (left_after-nil files)

-- ---- a file that is named neither among those that go nor among those that are placed

pub stays_after : (n : ℕ) (gone : List ℕ) (files : List ActiveFile) → list_any (λ m. m == n) gone ≡ false → active_of n (left_after gone files) ≡ active_of n files
stays_after n [] files other = ap (active_of n) (left_after-nil files)
stays_after n (m ∷ gone) files other =
    let parts = or_parts (m == n) (list_any (λ m. m == n) gone) other in
    let ne : n ≢ m = λ e. false≢true (sym parts.0 ∙ eq-eqb m n (sym e)) in
    ap (active_of n) (left_after-cons m gone files) ∙ stays_after n gone (without_item active_number m files) parts.1 ∙ item_of-without_other active_number n m files ne

pub stays_with : (n : ℕ) (placed files : List ActiveFile) → list_any (λ m. m == n) (map active_number placed) ≡ false → active_of n (with_files placed files) ≡ active_of n files
stays_with n [] files other = refl
stays_with n (a ∷ placed) files other =
    let parts = or_parts (a.file.number == n) (list_any (λ m. m == n) (map active_number placed)) other in
    let here : active_of n (a ∷ files) ≡ active_of n files = rw parts.0 refl in
    stays_with n placed (with_item active_number a files) parts.1 ∙ item_of-with active_number n a files ∙ here
