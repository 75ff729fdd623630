-- Which names are gone from the inbox.
use Rattle.std.proofs.Common.{◌≡◌, ◌⊎◌, inl, inr, ⊎_elim, ℕ, Bool, true, false, cond, not, List, [], ◌∷◌, ◌++◌, map, bytes_eq, refl, sym, ◌∙◌, ap, subst}
use Rattle.std.proofs.lemmas.Bool.{cond-true, cond-false}
use Rattle.std.proofs.lemmas.Slice.Eq.{bytes_eq-Decides}
use Rattle.std.specs.Prelude.{Option, None, Some, IsSome, IsNone, filter, ◌||◌}
use Rattle.flowfile_record.specs.NamedFile.{NamedFile, bytes_of, without}
use Rattle.machine_model.specs.declared.flow.Flow.{Flow}
use Rattle.machine_model.specs.declared.journal.Entry.{Entry}
use Rattle.machine_model.specs.Kinds.{is_among}
use Rattle.machine_model.specs.Laws.{names_of_step}
use Rattle.run_law.specs.Journal.{WasGot}
use Rattle.run_law.specs.Run.{IsGoneByEntry}
use Rattle.run_law.proofs.Journals.{was_got-before, was_got-last}
use Rattle.run_law.proofs.Left.{takes_one}

bool_cases : (b : Bool) → (b ≡ true) ⊎ (b ≡ false)
bool_cases true = inl refl
bool_cases false = inr refl

same_or_apart : (name other : List ℕ) → (name ≡ other) ⊎ (bytes_eq name other ≡ false)
same_or_apart name other = ⊎_elim (λ (same : bytes_eq name other ≡ true). inl ((bytes_eq-Decides name other).0 same)) (λ (apart : bytes_eq name other ≡ false). inr apart) (bool_cases (bytes_eq name other))

neither : (o : Option (List ℕ)) → IsSome o → IsNone o → ⊥
neither None some none = cc
neither (Some bytes) some none = cc

-- the bytes of each other file stay where one is removed
others_stay : (name other : List ℕ) (files : List NamedFile) → bytes_eq name other ≡ false → bytes_of (without name files) other ≡ bytes_of files other
others_stay name other [] apart = refl
others_stay name other (file ∷ files) apart =
    let rest = others_stay name other files apart in
    ⊎_elim
    (λ (same : bytes_eq file.name name ≡ true).
    let isnt : bytes_eq file.name other ≡ false = subst (λ (n : List ℕ). bytes_eq n other ≡ false) (sym ((bytes_eq-Decides file.name name).0 same)) apart in
    ap (λ (b : Bool). bytes_of (cond (not b) (file ∷ without name files) (without name files)) other) same ∙ rest ∙ sym (cond-false _ _ _ isnt))
    (λ (differs : bytes_eq file.name name ≡ false).
    ap (λ (b : Bool). bytes_of (cond (not b) (file ∷ without name files) (without name files)) other) differs
    ∙ ap (λ (o : Option (List ℕ)). cond (bytes_eq file.name other) (Some file.bytes) o) rest)
    (bool_cases (bytes_eq file.name name))

-- at first none is
pub none_gone : (flow : Flow) (left : List NamedFile) → IsGoneByEntry flow left left []
none_gone flow left name here none = absurd (neither (bytes_of left name) here none)

-- those that were gone stay so
pub still_gone : (flow : Flow) (before left : List NamedFile) (journal : List Entry) (entry : Entry) → IsGoneByEntry flow before left journal → IsGoneByEntry flow before left (journal ++ entry ∷ [])
still_gone flow before left journal entry gone name here none = was_got-before flow name journal entry (gone name here none)

-- and that of an acknowledged entry is
pub gone_without : (flow : Flow) (before left : List NamedFile) (name : List ℕ) (journal : List Entry) (entry : Entry) → IsGoneByEntry flow before left journal → names_of_step flow entry.step ≡ name ∷ [] → IsSome entry.acked
    → IsGoneByEntry flow before (without name left) (journal ++ entry ∷ [])
gone_without flow before left name journal entry gone is some n here none = ⊎_elim
    (λ (same : name ≡ n). subst (λ (m : List ℕ). WasGot flow m (journal ++ entry ∷ [])) same (was_got-last flow name journal entry (takes_one flow entry.step name is) some))
    (λ (apart : bytes_eq name n ≡ false). was_got-before flow n journal entry (gone n here (subst (λ (o : Option (List ℕ)). IsNone o) (others_stay name n left apart) none)))
    (same_or_apart name n)

-- ---- the files of the inbox at first

-- each of the files' own names is among them
all_among : (names : List (List ℕ)) (files : List NamedFile) → ((name : List ℕ) → is_among name (map (λ file. file.name) files) ≡ true → is_among name names ≡ true)
    → filter (λ file. is_among file.name names) files ≡ files
all_among names [] to = refl
all_among names (file ∷ files) to =
    let rest = filter (λ f. is_among f.name names) files in
    let here : is_among file.name names ≡ true = to file.name (ap (λ (b : Bool). b || is_among file.name (map (λ f. f.name) files)) ((bytes_eq-Decides file.name file.name).1 refl)) in
    cond-true _ (file ∷ rest) rest here
    ∙ ap (λ (l : List NamedFile). file ∷ l) (all_among names files (λ name is. to name (later (bytes_eq name file.name) is)))
  where
    later : (b : Bool) {x : Bool} → x ≡ true → (b || x) ≡ true
    later true is = refl
    later false is = is

pub all_left : (left : List NamedFile) → filter (λ file. is_among file.name (map (λ f. f.name) left)) left ≡ left
all_left left = all_among (map (λ f. f.name) left) left (λ name is. is)
