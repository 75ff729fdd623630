-- What stands under each name, before and after a file is put.
use Rattle.std.proofs.Common.{◌≡◌, ◌≢◌, ℕ, zero, suc, ◌<◌, ◌≤◌, Bool, true, false, cond, List, [], ◌∷◌, ◌++◌, length, map, get_or, Option, None, Some, is_some, position, bytes_eq, refl, inl, inr, sym, ap, ◌∙◌, subst, arith}
use Rattle.std.proofs.Math.ListN.{set}
use Rattle.std.specs.List.{position_or_len, list_any, IsDistinct}
use Rattle.std.specs.Cmp.Lexicographic.{nat_list_eq_equiv}
use Rattle.std.proofs.lemmas.Bool.{cond-true, cond-false, cases_lt, lt-ltb, or_from, false_from_ne_true, true≢false}
use Rattle.std.proofs.lemmas.List.{map-append}
use Rattle.std.proofs.Math.Seq.{map-set_same}
use Rattle.std.proofs.lemmas.Map.Keys.{IsDistinct-push}
use Rattle.std.proofs.lemmas.Bool.Decides.{nat_tests}
use Rattle.std.proofs.lemmas.Slice.Eq.{bytes_eq-Decides}
use Rattle.flowfile_record.specs.NamedFile.{bytes_of, with_file}
use Rattle.world_io.specs.Memory.{file_of, names_of, IsPlaceOf}
use Rattle.world_io.proofs.Places.{Stored, is_of, bytes_of-none, bytes_of-place, place-of}

abbrev Standing : Type 0
Standing = Option (List ℕ)

-- no place: each file has another name
pub place-none : (p : Stored → Bool) (files : List Stored) → position p files ≡ None → length files ≤ position_or_len p files
place-none p files is =
    elim (cases_lt (position_or_len p files) (length files)) [
      | inl within ↦ let e : Some (position_or_len p files) ≡ None = sym (cond-true _ _ _ (lt-ltb _ _ within)) ∙ is in absurd (cc)
      | inr past ↦ past
    ]

-- whether a place was found tells whether the name stands
pub found-stands : (name : List ℕ) (files : List Stored) (place : Option ℕ) → place ≡ position (is_of name) files → is_some place ≡ is_some (bytes_of (map file_of files) name)
found-stands name [] place is = ap is_some is
found-stands name (f ∷ fs) None is = ap is_some (sym (bytes_of-none name (f ∷ fs) (place-none (is_of name) (f ∷ fs) (sym is))))
found-stands name (f ∷ fs) (Some i) is = ap is_some (sym (bytes_of-place name (f ∷ fs) i f (place-of name (f ∷ fs) i (sym is))))

-- the first of two tests that exclude each other goes first or last
swapped : (here there : Bool) (x y z : Standing) → (here ≡ true → there ≡ false) → cond here x (cond there y z) ≡ cond there y (cond here x z)
swapped true true x y z apart = absurd (true≢false (apart refl))
swapped true false x y z apart = refl
swapped false there x y z apart = refl

apart : (other name from : List ℕ) → bytes_eq from name ≡ false → bytes_eq from other ≡ true → bytes_eq other name ≡ false
apart other name from differs same =
    let P : List ℕ → Type 0 = λ text. bytes_eq text name ≡ false in subst P ((bytes_eq-Decides from other).0 same) differs

-- at the place of a name: the new bytes instead of the old ones
here-set : (same : Bool) (new old rest : Standing) → cond same new rest ≡ cond same new (cond same old rest)
here-set true new old rest = refl
here-set false new old rest = refl

pub set-at : (name bytes : List ℕ) (files : List Stored) (i : ℕ) (d new : Stored) → i < length files → (get_or files i d).0 ≡ name → new.0 ≡ name → new.1.items ≡ bytes → ((k : ℕ) → k < i → is_of name (get_or files k d) ≡ false) → (other : List ℕ) → bytes_of (map file_of (set files i new)) other ≡ with_file (bytes_of (map file_of files)) name bytes other
set-at name bytes [] i d new h at is has first other = absurd (omega arith)
set-at name bytes (f ∷ fs) zero d new h at is has first other =
    let rest = bytes_of (map file_of fs) other in
    let here : List ℕ → List ℕ → Standing = λ from held. cond (bytes_eq from other) (Some held) rest in
    let old : List ℕ → Standing = λ from. cond (bytes_eq name other) (Some bytes) (cond (bytes_eq from other) (Some f.1.items) rest) in
    let flip : Bool → Standing = λ same. cond same (Some bytes) (cond (bytes_eq f.0 other) (Some f.1.items) rest) in
    ap (λ (from : List ℕ). here from new.1.items) is ∙ ap (here name) has
    ∙ here-set (bytes_eq name other) (Some bytes) (Some f.1.items) rest
    ∙ ap old (sym at) ∙ ap flip (nat_list_eq_equiv.symm name other)
set-at name bytes (f ∷ fs) (suc i) d new h at is has first other =
    let mine : Standing → Standing = λ rest. cond (bytes_eq f.0 other) (Some f.1.items) rest in
    ap mine (set-at name bytes fs i d new (omega arith) at is has (λ k l. first (suc k) (omega arith)) other)
    ∙ swapped (bytes_eq f.0 other) (bytes_eq other name) (Some f.1.items) (Some bytes) (bytes_of (map file_of fs) other) (apart other name f.0 (first 0 (omega arith)))

-- the front file has another name, where no place was found
front : (name : List ℕ) (f : Stored) (fs : List Stored) → length (f ∷ fs) ≤ position_or_len (is_of name) (f ∷ fs) → (is_of name f ≡ false) × (length fs ≤ position_or_len (is_of name) fs)
front name f fs past = (grind (arith, nat_tests), grind (arith, nat_tests))

pub push-at : (name bytes : List ℕ) (files : List Stored) (new : Stored) → new.0 ≡ name → new.1.items ≡ bytes → length files ≤ position_or_len (is_of name) files → (other : List ℕ) → bytes_of (map file_of (files ++ new ∷ [])) other ≡ with_file (bytes_of (map file_of files)) name bytes other
push-at name bytes [] new is has past other =
    let here : List ℕ → List ℕ → Standing = λ from held. cond (bytes_eq from other) (Some held) None in
    let flip : Bool → Standing = λ same. cond same (Some bytes) None in
    ap (λ (from : List ℕ). here from new.1.items) is ∙ ap (here name) has ∙ ap flip (nat_list_eq_equiv.symm name other)
push-at name bytes (f ∷ fs) new is has past other =
    let mine : Standing → Standing = λ rest. cond (bytes_eq f.0 other) (Some f.1.items) rest in
    ap mine (push-at name bytes fs new is has (front name f fs past).1 other)
    ∙ swapped (bytes_eq f.0 other) (bytes_eq other name) (Some f.1.items) (Some bytes) (bytes_of (map file_of fs) other) (apart other name f.0 (front name f fs past).0)

-- no file has the name that wasn't found
pub none-named : (name : List ℕ) (files : List Stored) → length files ≤ position_or_len (is_of name) files → list_any (bytes_eq name) (names_of files) ≡ false
none-named name [] past = refl
none-named name (f ∷ fs) past =
    or_from _ _ (nat_list_eq_equiv.symm name f.0 ∙ (front name f fs past).0) (none-named name fs (front name f fs past).1)

-- under each other name stands what stood there
pub with_file-other : (files : List ℕ → Option (List ℕ)) (name bytes other : List ℕ) → other ≢ name → with_file files name bytes other ≡ files other
with_file-other files name bytes other differs = cond-false _ _ _ (false_from_ne_true _ (λ e. differs ((bytes_eq-Decides other name).0 e)))

-- a place that was found in what was read is the place in the files
pub seen : (name : List ℕ) (files read : List Stored) (place found : Option ℕ) → read ≡ files → place ≡ position (is_of name) read → place ≡ found → position (is_of name) files ≡ found
seen name files read place found same is was =
    let at : List Stored → Option ℕ = λ l. position (is_of name) l in ap at (sym same) ∙ sym is ∙ was

-- a file is put in the place of the one of its name
pub put-in-place : (name bytes : List ℕ) (files read : List Stored) (place : Option ℕ) (i : ℕ) (old new : Stored) → read ≡ files → place ≡ position (is_of name) read → place ≡ Some i → old ≡ get_or files i old → new.0 ≡ old.0 → new.1.items ≡ bytes → bytes_of (map file_of (set files i new)) ≡ with_file (bytes_of (map file_of files)) name bytes
put-in-place name bytes files read place i old new same is was held named has =
    let at : IsPlaceOf name files i = place-of name files i (seen name files read place (Some i) same is was) in
    let stood : (get_or files i old).0 ≡ name = (bytes_eq-Decides (get_or files i old).0 name).0 (at.here old) in
    let name_of : Stored → List ℕ = λ file. file.0 in
    λ k other. set-at name bytes files i old new at.within stood (named ∙ ap name_of held ∙ stood) has (λ n before. at.first n old before) other k

pub once-in-place : (files : List Stored) (i : ℕ) (old new : Stored) → old ≡ get_or files i old → new.0 ≡ old.0 → IsDistinct bytes_eq (names_of files) → IsDistinct bytes_eq (names_of (set files i new))
once-in-place files i old new held named once =
    let name_of : Stored → List ℕ = λ file. file.0 in
    let distinct : List (List ℕ) → Type 0 = λ names. IsDistinct bytes_eq names in
    subst distinct (sym (map-set_same name_of files i new old (named ∙ ap name_of held))) once

-- a file is put behind the others
pub put-behind : (name bytes : List ℕ) (files read new : List Stored) (place : Option ℕ) (file : Stored) → read ≡ files → place ≡ position (is_of name) read → place ≡ None → new ≡ files ++ file ∷ [] → file.0 ≡ name → file.1.items ≡ bytes → bytes_of (map file_of new) ≡ with_file (bytes_of (map file_of files)) name bytes
put-behind name bytes files read new place file same is was longer named has =
    let past = place-none (is_of name) files (seen name files read place None same is was) in
    let standing : List Stored → List ℕ → Option (List ℕ) = λ l. bytes_of (map file_of l) in
    ap standing longer ∙ (λ k other. push-at name bytes files file named has past other k)

pub once-behind : (name : List ℕ) (files read new : List Stored) (place : Option ℕ) (file : Stored) → read ≡ files → place ≡ position (is_of name) read → place ≡ None → new ≡ files ++ file ∷ [] → file.0 ≡ name → IsDistinct bytes_eq (names_of files) → IsDistinct bytes_eq (names_of new)
once-behind name files read new place file same is was longer named once =
    let past = place-none (is_of name) files (seen name files read place None same is was) in
    let name_of : Stored → List ℕ = λ stored. stored.0 in
    let distinct : List (List ℕ) → Type 0 = λ names. IsDistinct bytes_eq names in
    let behind : List ℕ → List (List ℕ) = λ n. names_of files ++ n ∷ [] in
    let all : names_of new ≡ names_of files ++ name ∷ [] = ap (λ (l : List Stored). map name_of l) longer ∙ map-append name_of files (file ∷ []) ∙ ap behind named in
    subst distinct (sym all) (IsDistinct-push nat_list_eq_equiv (names_of files) name once (none-named name files past))

-- what stands under a name, by its place
pub standing-at : (name : List ℕ) (files read : List Stored) (place : Option ℕ) (i : ℕ) (file : Stored) → read ≡ files → place ≡ position (is_of name) read → place ≡ Some i → file ≡ get_or files i file → Some file.1.items ≡ bytes_of (map file_of files) name
standing-at name files read place i file same is was held =
    ap (λ (stored : Stored). Some stored.1.items) held ∙ sym (bytes_of-place name files i file (place-of name files i (seen name files read place (Some i) same is was)))

pub standing-none : (name : List ℕ) (files read : List Stored) (place : Option ℕ) → read ≡ files → place ≡ position (is_of name) read → place ≡ None → None ≡ bytes_of (map file_of files) name
standing-none name files read place same is was =
    sym (bytes_of-none name files (place-none (is_of name) files (seen name files read place None same is was)))
