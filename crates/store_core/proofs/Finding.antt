-- The first file of a kind, among those that a disk lists.
use Rattle.std.proofs.Common.{◌≡◌, ⊎_elim, ℕ, ◌^◌, ◌<◌, ◌≤◌, Bool, true, List, length, get_or, ap, ◌∙◌, arith}
use Rattle.std.specs.Prelude.{◌↔◌, Option, None, Some, Result, Ok, Err, IfOk, All, Contains, nat_le, nat_lt, ◌&&◌, option_map}
use Rattle.std.specs.List.{AllPairs}
use Rattle.std.proofs.lemmas.Bool.{cases_lt, and_parts, leb-true, le-leb, ltb-true, lt-ltb, false_from_ne_true}
use Rattle.std.proofs.lemmas.List.{get_or_default}
use Rattle.disk_trait.specs.Files.{Files, named}
use Rattle.disk_trait.specs.declared.file_name.FileKind.{FileKind}
use Rattle.disk_trait.specs.declared.file_name.FileKind.TheVariants.{Log, Snapshot, Swap, Claim, Events}
use Rattle.disk_trait.specs.declared.file_name.FileName.{FileName}
use Rattle.disk_trait.proofs.Search.{least_is, least_none}
use Rattle.store_core.specs.New.{holds_from, first_from, file_or, first_stray}

both : (p q : Bool) → p ≡ true → q ≡ true → (p && q) ≡ true
both p q is also = ap (λ (x : Bool). x && q) is ∙ also

module _ (kind : FileKind) (from : ℕ) (files : Files) (numbers : List ℕ)
    (listed : (n : ℕ) → n < 2 ^ 64 → Contains numbers n ↔ (0 < length (files (named kind n))))
    (rising : AllPairs (λ x y. x < y) numbers) (below : All (λ n. n < 2 ^ 64) numbers) where
  abbrev number : ℕ → ℕ
  number i = get_or numbers i 0

  -- a file that is there is listed
  at_place : (n : ℕ) → n < 2 ^ 64 → holds_from kind from files n ≡ true → (i : ℕ) × (i < length numbers) × (number i ≡ n) × (from ≤ n)
  at_place n lt holds =
      let parts = and_parts (nat_le from n) (nat_lt 0 (length (files (named kind n)))) holds in
      let found = (listed n lt).1 (ltb-true 0 (length (files (named kind n))) parts.1) in
      (found.0, found.1, get_or_default numbers found.0 0 n found.1 ∙ found.2, leb-true from n parts.0)

  is_there : (i : ℕ) → i < length numbers → from ≤ number i → holds_from kind from files (number i) ≡ true
  is_there i within le =
      let some = (listed (number i) (below i 0 within)).0 (i, within, get_or_default numbers i (number i) 0 within) in
      both (nat_le from (number i)) (nat_lt 0 (length (files (named kind (number i))))) (le-leb from (number i) le) (lt-ltb 0 (length (files (named kind (number i)))) some)

  pub first_is : (i : ℕ) → i < length numbers → from ≤ number i → ((j : ℕ) → j < i → number j < from) → first_from kind from files ≡ Some (named kind (number i))
  first_is i within le before =
      ap (option_map (named kind))
      (least_is (holds_from kind from files) (2 ^ 64) (number i) (below i 0 within) (is_there i within le)
      (λ m up. false_from_ne_true (holds_from kind from files m)
      (λ (holds : holds_from kind from files m ≡ true).
      let at = at_place m (omega (arith, up, below i 0 within)) holds in
      ⊎_elim
      (λ (early : at.0 < i). omega (arith, before at.0 early, at.2, at.3))
      (λ (late : i ≤ at.0). ⊎_elim
      (λ (later : i < at.0). omega (arith, rising i at.0 0 later at.1, at.2, up))
      (λ (same : at.0 ≤ i).
      let here : at.0 ≡ i = omega (arith, late, same) in
      omega (arith, ap number here, at.2, up))
      (cases_lt i at.0))
      (cases_lt at.0 i))))

  pub none_is : ((j : ℕ) → j < length numbers → number j < from) → first_from kind from files ≡ None
  none_is before =
      ap (option_map (named kind))
      (least_none (holds_from kind from files) (2 ^ 64)
      (λ m lt. false_from_ne_true (holds_from kind from files m)
      (λ (holds : holds_from kind from files m ≡ true).
      let at = at_place m lt holds in omega (arith, before at.0 at.1, at.2, at.3))))

-- which file is the first of all kinds
pub stray_is : (files : Files) (a b c d e : Option FileName) → first_from Log 2 files ≡ a → first_from Snapshot 2 files ≡ b → first_from Swap 0 files ≡ c
    → first_from Claim 0 files ≡ d → first_from Events 0 files ≡ e → first_stray files ≡ file_or a (file_or b (file_or c (file_or d e)))
unfolding first_stray
stray_is files a b c d e p q r s t = λ i. file_or (p i) (file_or (q i) (file_or (r i) (file_or (s i) (t i))))

pub if_ok : {A E : Type 0} (r : Result A E) (P Q : A → Type 0) → ((x : A) → P x → Q x) → IfOk r P → IfOk r Q
if_ok (Ok x) P Q to p = to x p
if_ok (Err e) P Q to p = tt
