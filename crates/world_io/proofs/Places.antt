-- Files in memory: where one stands, and what is left without it.
use Rattle.std.proofs.Common.{◌≡◌, ℕ, zero, suc, ◌<◌, ◌≤◌, Bool, true, false, not, cond, List, [], ◌∷◌, length, map, filter, get_or, Option, None, Some, Vec, IsSome, position, bytes_eq, refl, inl, inr, sym, ap, ◌∙◌, subst, arith}
use Rattle.std.specs.List.{AllByRecursion, position_or_len, remove}
use Rattle.std.specs.declared.alloc.Global.{Global}
use Rattle.std.specs.Ordering.{nat_cmp, is_eq}
use Rattle.std.specs.declared.cmp.Ordering.TheVariants.{Less}
use Rattle.std.specs.Cmp.Lexicographic.{slice_cmp, texts_ties, nat_list_eq_equiv}
use Rattle.std.proofs.lemmas.Bool.{cond-true, cond-false, cases_lt, lt-ltb, le-ltb, false≢true}
use Rattle.std.proofs.lemmas.List.Quantifiers.{position-Some}
use Rattle.std.proofs.lemmas.Bool.Decides.{nat_tests}
use Rattle.std.proofs.lemmas.Slice.Eq.{bytes_eq-Decides}
use Rattle.flowfile_record.specs.NamedFile.{NamedFile, bytes_of, without}
use Rattle.world_io.specs.Inbox.{IsAscending}
use Rattle.world_io.specs.Memory.{file_of, IsPlaceOf}

abbrev pub Stored : Type 0
Stored = List ℕ × Vec ℕ Global

abbrev pub is_of : List ℕ → Stored → Bool
is_of name file = bytes_eq file.0 name

-- a file that isn't there has no bytes
pub bytes_of-none : (name : List ℕ) (files : List Stored) → length files ≤ position_or_len (is_of name) files → bytes_of (map file_of files) name ≡ None
bytes_of-none name [] h = refl
bytes_of-none name (f ∷ fs) h = grind (arith, nat_tests, bytes_of-none name fs)

-- the bytes of the file at its place
pub bytes_of-at : (name : List ℕ) (files : List Stored) (i : ℕ) (d : Stored) → i < length files → is_of name (get_or files i d) ≡ true → ((k : ℕ) → k < i → is_of name (get_or files k d) ≡ false) → bytes_of (map file_of files) name ≡ Some (get_or files i d).1.items
bytes_of-at name [] i d h e first = absurd (omega arith)
bytes_of-at name (f ∷ fs) zero d h e first = cond-true _ _ _ e
bytes_of-at name (f ∷ fs) (suc i) d h e first =
    cond-false _ _ _ (first 0 (omega arith)) ∙ bytes_of-at name fs i d (omega arith) e (λ k l. first (suc k) (omega arith))

-- a name that goes before another one differs from it
pub apart : (name later : List ℕ) → slice_cmp nat_cmp name later ≡ Less → bytes_eq name later ≡ false
apart name later less = texts_ties name later ∙ ap is_eq less

pub apart-back : (name later : List ℕ) → slice_cmp nat_cmp name later ≡ Less → bytes_eq later name ≡ false
apart-back name later less = nat_list_eq_equiv.symm later name ∙ apart name later less

all-at : (P : List ℕ → Type 0) (files : List Stored) (i : ℕ) (d : Stored) → AllByRecursion P (map (λ file. file.name) (map file_of files)) → i < length files → P (get_or files i d).0
all-at P [] i d all h = absurd (omega arith)
all-at P (f ∷ fs) zero d all h = all.0
all-at P (f ∷ fs) (suc i) d all h = all-at P fs i d all.1 (omega arith)

-- nothing goes where all names come later
without-later : (name : List ℕ) (files : List Stored) → AllByRecursion (λ later. slice_cmp nat_cmp name later ≡ Less) (map (λ file. file.name) (map file_of files)) → without name (map file_of files) ≡ map file_of files
without-later name [] all = refl
without-later name (f ∷ fs) all =
    cond-true _ _ _ (ap not (apart-back name f.0 all.0)) ∙ ap (λ (l : List NamedFile). file_of f ∷ l) (without-later name fs all.1)

-- what is left without the file at a place
pub without-at : (name : List ℕ) (files : List Stored) (i : ℕ) (d : Stored) → IsAscending (map (λ file. file.name) (map file_of files)) → i < length files → is_of name (get_or files i d) ≡ true → without name (map file_of files) ≡ map file_of (remove files i)
without-at name [] i d up h e = absurd (omega arith)
without-at name (f ∷ fs) zero d up h e =
    let same : f.0 ≡ name = (bytes_eq-Decides f.0 name).0 e in
    let P : List ℕ → Type 0 = λ n. AllByRecursion (λ later. slice_cmp nat_cmp n later ≡ Less) (map (λ file. file.name) (map file_of fs)) in
    cond-false _ _ _ (ap not e) ∙ without-later name fs (subst P same up.0)
without-at name (f ∷ fs) (suc i) d up h e =
    let same : (get_or fs i d).0 ≡ name = (bytes_eq-Decides (get_or fs i d).0 name).0 e in
    let less = all-at (λ later. slice_cmp nat_cmp f.0 later ≡ Less) fs i d up.0 (omega arith) in
    let P : List ℕ → Type 0 = λ n. slice_cmp nat_cmp f.0 n ≡ Less in
    cond-true _ _ _ (ap not (apart f.0 name (subst P same less))) ∙ ap (λ (l : List NamedFile). file_of f ∷ l) (without-at name fs i d up.1 (omega arith) e)

all-filter : (P : List ℕ → Type 0) (p : NamedFile → Bool) (files : List NamedFile) → AllByRecursion P (map (λ file. file.name) files) → AllByRecursion P (map (λ file. file.name) (filter p files))
all-filter P p [] all = tt
all-filter P p (f ∷ fs) all = elim (p f) as (λ b. AllByRecursion P (map (λ file. file.name) (cond b (f ∷ filter p fs) (filter p fs)))) [ true ↦ (all.0, all-filter P p fs all.1) | false ↦ all-filter P p fs all.1 ]

-- some of the files ascend as all did
pub ascending-filter : (p : NamedFile → Bool) (files : List NamedFile) → IsAscending (map (λ file. file.name) files) → IsAscending (map (λ file. file.name) (filter p files))
ascending-filter p [] up = tt
ascending-filter p (f ∷ fs) up = elim (p f) as (λ b. IsAscending (map (λ file. file.name) (cond b (f ∷ filter p fs) (filter p fs)))) [ true ↦ (all-filter (λ later. slice_cmp nat_cmp f.name later ≡ Less) p fs up.0, ascending-filter p fs up.1) | false ↦ ascending-filter p fs up.1 ]

-- the place of a file that is there
pub place-some : (name : List ℕ) (files : List Stored) (place : Option ℕ) → place ≡ position (is_of name) files → IsSome (bytes_of (map file_of files) name) → IsSome place
place-some name files place is there =
    let found : Option ℕ → Type 0 = λ o. IsSome o in
    let bytes : Option (List ℕ) → Type 0 = λ o. IsSome o in
    elim (cases_lt (position_or_len (is_of name) files) (length files)) [
      | inl within ↦ subst found (sym (is ∙ cond-true _ _ _ (lt-ltb _ _ within))) refl
      | inr past ↦ absurd (false≢true (subst bytes (bytes_of-none name files past) there))
    ]

pub place-within : (p : Stored → Bool) (files : List Stored) (i : ℕ) → position p files ≡ Some i → i < length files
place-within p files i is =
    elim (cases_lt (position_or_len p files) (length files)) [
      | inl within ↦ let e : Some (position_or_len p files) ≡ Some i = sym (cond-true _ _ _ (lt-ltb _ _ within)) ∙ is in let same : position_or_len p files ≡ i = cc in omega arith
      | inr past ↦ let e : None ≡ Some i = sym (cond-false _ _ _ (le-ltb _ _ past)) ∙ is in absurd (cc)
    ]

pub place-of : (name : List ℕ) (files : List Stored) (i : ℕ) → position (is_of name) files ≡ Some i → IsPlaceOf name files i
place-of name files i is = record {
  within = place-within (is_of name) files i is;
  here = λ d. (position-Some (is_of name) files i d is).1;
  first = λ k d before. (position-Some (is_of name) files i d is).2 k before;
}

pub bytes_of-place : (name : List ℕ) (files : List Stored) (i : ℕ) (d : Stored) → IsPlaceOf name files i → bytes_of (map file_of files) name ≡ Some (get_or files i d).1.items
bytes_of-place name files i d at = bytes_of-at name files i d at.within (at.here d) (λ k before. at.first k d before)

-- the files without one of them
pub left-without : (name : List ℕ) (files read new : List Stored) (i : ℕ) (d : Stored) → IsAscending (map (λ file. file.name) (map file_of files)) → read ≡ files → IsPlaceOf name read i → new ≡ remove files i → (map file_of new ≡ without name (map file_of files)) × IsAscending (map (λ file. file.name) (map file_of new))
left-without name files read new i d up all found is =
    let place : List Stored → Type 0 = λ l. IsPlaceOf name l i in
    let at : IsPlaceOf name files i = subst place all found in
    let same : map file_of new ≡ without name (map file_of files) = ap (λ (l : List Stored). map file_of l) is ∙ sym (without-at name files i d up at.within (at.here d)) in
    let ascends : List NamedFile → Type 0 = λ l. IsAscending (map (λ file. file.name) l) in
    (same, subst ascends (sym same) (ascending-filter (λ file. not (bytes_eq file.name name)) (map file_of files) up))

-- the names of the files, as an inbox shows them
pub names-of : (files : List Stored) → map (λ file. file.0) files ≡ map (λ file. file.name) (map file_of files)
names-of [] = refl
names-of (f ∷ fs) = ap (λ (l : List (List ℕ)). f.0 ∷ l) (names-of fs)
