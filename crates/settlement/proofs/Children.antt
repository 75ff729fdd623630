-- The children of each file are found in one pass over the files.
use Rattle.std.proofs.Common.{◌≡◌, ℕ, zero, suc, ◌+◌, ◌<◌, ◌≤◌, Bool, true, false, cond, List, [], ◌∷◌, ◌++◌, map, length, get_or, set, take, replicate, refl, sym, ap, ◌∙◌, arith, append-nil, inl, inr}
use Rattle.std.specs.Prelude.{Option, Some, None, filter, ◌==◌}
use Rattle.std.specs.Option.{option_map_or}
use Rattle.std.specs.List.{range_with_len}
use Rattle.std.proofs.lemmas.Bool.{cases_eq, eq-eqb, eqb-true, false_from_ne_true}
use Rattle.std.proofs.lemmas.List.{ext_get_or, get_or-set_same, get_or-set_other, length-set, map-append, take_more, take_all}
use Rattle.std.proofs.lemmas.List.Elements.{filter-append}
use Rattle.std.proofs.lemmas.List.FromFn.{length-map-range_with_len, get_or-map-range_with_len}
use Rattle.flowfile_record.specs.declared.worked.Origin.{Origin}
use Rattle.flowfile_record.specs.declared.worked.Origin.TheVariants as origin
use Rattle.settlement.specs.Telling.{children_of, is_child, parent_of, with_child_number}
use Rattle.settlement.specs.declared.file.EndedFile.{EndedFile}
use Rattle.settlement.specs.declared.offspring.Kinship.{Kinship}
use Rattle.settlement.specs.declared.offspring.Kinship.TheVariants.{Forked, Cloned}

child_by : (kinship : Kinship) (place : ℕ) (o : Origin) → is_child kinship place o ≡ option_map_or (λ parent. parent == place) (parent_of kinship o) false
child_by Forked place (origin.Taken of) = refl
child_by Forked place origin.Created = refl
child_by Forked place origin.Received = refl
child_by Forked place (origin.Forked parent) = refl
child_by Forked place (origin.Part parent) = refl
child_by Forked place (origin.Joined parents) = refl
child_by Forked place (origin.Cloned parent) = refl
child_by Cloned place (origin.Taken of) = refl
child_by Cloned place origin.Created = refl
child_by Cloned place origin.Received = refl
child_by Cloned place (origin.Forked parent) = refl
child_by Cloned place (origin.Part parent) = refl
child_by Cloned place (origin.Joined parents) = refl
child_by Cloned place (origin.Cloned parent) = refl

number_if : (file : EndedFile) (b : Bool) → map (λ (file : EndedFile). file.number) (cond b (file ∷ []) []) ≡ cond b (file.number ∷ []) []
number_if file true = refl
number_if file false = refl

-- the children of a file among files and one more
children_push : (kinship : Kinship) (files : List EndedFile) (file : EndedFile) (parent : Option ℕ) (place : ℕ) → parent_of kinship file.worked.origin ≡ parent
    → children_of kinship (files ++ file ∷ []) place ≡ children_of kinship files place ++ cond (option_map_or (λ p. p == place) parent false) (file.number ∷ []) []
children_push kinship files file parent place is =
    let p : EndedFile → Bool = λ file. is_child kinship place file.worked.origin in
    let number : EndedFile → ℕ = λ file. file.number in
    let test : is_child kinship place file.worked.origin ≡ option_map_or (λ p. p == place) parent false =
    child_by kinship place file.worked.origin ∙ ap (λ parent. option_map_or (λ p. p == place) parent false) is in
    ap (map number) (filter-append p files (file ∷ []))
    ∙ map-append number (filter p files) (filter p (file ∷ []))
    ∙ ap (λ xs. children_of kinship files place ++ xs)
    (number_if file (is_child kinship place file.worked.origin) ∙ ap (λ b. cond b (file.number ∷ []) []) test)

abbrev lists : Kinship → List EndedFile → ℕ → List (List ℕ)
lists kinship files n = map (children_of kinship files) (range_with_len 0 n)

at_parent : (old : List (List ℕ)) (i parent number : ℕ) → i < length old → i ≡ parent
    → get_or (set old parent (get_or old parent [] ++ number ∷ [])) i [] ≡ get_or old i [] ++ cond (parent == i) (number ∷ []) []
at_parent old i parent number h same =
    ap (λ j. get_or (set old parent (get_or old parent [] ++ number ∷ [])) j []) same
    ∙ get_or-set_same old parent (get_or old parent [] ++ number ∷ []) [] (omega arith)
    ∙ ap (λ j. get_or old j [] ++ number ∷ []) (sym same)
    ∙ ap (λ b. get_or old i [] ++ cond b (number ∷ []) []) (sym (eq-eqb parent i (sym same)))

elsewhere : (old : List (List ℕ)) (i parent number : ℕ) → (i ≡ parent → ⊥)
    → get_or (set old parent (get_or old parent [] ++ number ∷ [])) i [] ≡ get_or old i [] ++ cond (parent == i) (number ∷ []) []
elsewhere old i parent number other =
    get_or-set_other old parent i (get_or old parent [] ++ number ∷ []) [] other
    ∙ sym (append-nil (get_or old i []))
    ∙ ap (λ b. get_or old i [] ++ cond b (number ∷ []) []) (sym (false_from_ne_true (parent == i) (λ same. other (sym (eqb-true parent i same)))))

set_at : (old : List (List ℕ)) (i parent number : ℕ) → i < length old
    → get_or (set old parent (get_or old parent [] ++ number ∷ [])) i [] ≡ get_or old i [] ++ cond (parent == i) (number ∷ []) []
set_at old i parent number h = elim (cases_eq i parent) [
  | inl same ↦ at_parent old i parent number h same
  | inr other ↦ elsewhere old i parent number other
]

with_child_is : (kinship : Kinship) (files : List EndedFile) (file : EndedFile) (parent : Option ℕ) (n : ℕ) → parent_of kinship file.worked.origin ≡ parent
    → with_child_number parent file.number (lists kinship files n) ≡ lists kinship (files ++ file ∷ []) n
with_child_is kinship files file None n is =
    let same : (place : ℕ) → children_of kinship files place ≡ children_of kinship (files ++ file ∷ []) place =
    λ place. sym (children_push kinship files file None place is ∙ append-nil (children_of kinship files place)) in
    λ j. map (λ place. same place j) (range_with_len 0 n)
with_child_is kinship files file (Some parent) n is =
    let old : List (List ℕ) = lists kinship files n in
    let new : List (List ℕ) = lists kinship (files ++ file ∷ []) n in
    let put : List (List ℕ) = set old parent (get_or old parent [] ++ file.number ∷ []) in
    let count : length old ≡ n = length-map-range_with_len (children_of kinship files) 0 n in
    let count_put : length put ≡ length old = length-set old parent (get_or old parent [] ++ file.number ∷ []) in
    let count_new : length new ≡ n = length-map-range_with_len (children_of kinship (files ++ file ∷ [])) 0 n in
    ext_get_or [] put new (count_put ∙ count ∙ sym count_new) (λ i h.
    set_at old i parent file.number (omega arith)
    ∙ ap (λ xs. xs ++ cond (parent == i) (file.number ∷ []) []) (get_or-map-range_with_len (children_of kinship files) 0 n i i [] (omega arith) (omega arith))
    ∙ sym (children_push kinship files file (Some parent) i is)
    ∙ sym (get_or-map-range_with_len (children_of kinship (files ++ file ∷ [])) 0 n i i [] (omega arith) (omega arith)))

-- one file more
pub lists_more : (kinship : Kinship) (files : List EndedFile) (i : ℕ) (file : EndedFile) (n : ℕ) (old new : List (List ℕ)) → i < length files → file ≡ get_or files i file
    → new ≡ with_child_number (parent_of kinship file.worked.origin) file.number old → old ≡ map (children_of kinship (take i files)) (range_with_len 0 n)
    → new ≡ map (children_of kinship (take (i + 1) files)) (range_with_len 0 n)
lists_more kinship files i file n old new h is added before =
    added
    ∙ ap (with_child_number (parent_of kinship file.worked.origin) file.number) before
    ∙ with_child_is kinship (take i files) file (parent_of kinship file.worked.origin) n refl
    ∙ ap (λ x. lists kinship (take i files ++ x ∷ []) n) is
    ∙ ap (λ xs. lists kinship xs n) (sym (take_more files i file h))

pub lists_all : (kinship : Kinship) (files : List EndedFile) (i : ℕ) (old : List (List ℕ)) → length files ≤ i
    → old ≡ map (children_of kinship (take i files)) (range_with_len 0 (length files)) → old ≡ map (children_of kinship files) (range_with_len 0 (length files))
lists_all kinship files i old h is = is ∙ ap (λ xs. lists kinship xs (length files)) (take_all i files h)

-- none is found among no files
pub childless_is : (kinship : Kinship) (from n : ℕ) → replicate n [] ≡ map (children_of kinship []) (range_with_len from n)
childless_is kinship from zero = refl
childless_is kinship from (suc n) = ap (λ (xs : List (List ℕ)). [] ∷ xs) (childless_is kinship (from + 1) n)
