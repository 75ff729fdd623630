-- Files by name, where one is removed.
use Rattle.std.proofs.Common.{◌≡◌, ℕ, Bool, true, false, cond, List, [], ◌∷◌, Option, Some, bytes_eq, not, inl, inr, refl, sym, ap, ◌∙◌, subst}
use Rattle.std.proofs.lemmas.Bool.{cases_Bool}
use Rattle.std.proofs.lemmas.Slice.Eq.{bytes_eq-Decides}
use Rattle.flowfile_record.specs.NamedFile.{NamedFile, bytes_of, without}

-- a text isn't both of two that differ
apart : (text name other : List ℕ) → bytes_eq name other ≡ false → bytes_eq text name ≡ true → bytes_eq text other ≡ false
apart text name other differs same =
    let P : List ℕ → Type 0 = λ t. bytes_eq t other ≡ false in
    subst P (sym ((bytes_eq-Decides text name).0 same)) differs

-- the bytes of each other file stay where one is removed
pub bytes_of-without : (name other : List ℕ) (files : List NamedFile) → bytes_eq name other ≡ false → bytes_of (without name files) other ≡ bytes_of files other
bytes_of-without name other [] differs = refl
bytes_of-without name other (f ∷ fs) differs =
    let more = bytes_of-without name other fs differs in
    let before : Bool → Option (List ℕ) = λ gone. bytes_of (cond (not gone) (f ∷ without name fs) (without name fs)) other in
    let after : Bool → Option (List ℕ) = λ here. cond here (Some f.bytes) (bytes_of fs other) in
    let front : Option (List ℕ) → Option (List ℕ) = λ rest. cond (bytes_eq f.name other) (Some f.bytes) rest in
    elim (cases_Bool (bytes_eq f.name name)) [
      | inl gone ↦ ap before gone ∙ more ∙ sym (ap after (apart f.name name other differs gone))
      | inr stays ↦ ap before stays ∙ ap front more
    ]
