-- The places of files by their names, where a file is added and where one is put in another's place.
use Rattle.std.proofs.Common.{◌≡◌, ℕ, zero, suc, ◌+◌, ◌<◌, ◌≤◌, Bool, true, false, cond, List, [], ◌∷◌, ◌++◌, length, map, get_or, take, Option, None, Some, Result, Ok, Err, position, bytes_eq, refl, inl, inr, sym, ap, ◌∙◌, subst, not, ltb, arith}
use Rattle.std.proofs.Math.ListN.{set}
use Rattle.std.specs.Result.{IfOk, result_ok}
use Rattle.std.specs.BTreeMap.{BTreeMap, Updates, get}
use Rattle.std.specs.Cmp.Lexicographic.{slice_cmp, nat_list_eq_equiv}
use Rattle.std.specs.List.{AllByRecursion, position_or_len, IsDistinct}
use Rattle.std.specs.Ordering.{is_eq, nat_cmp}
use Rattle.std.proofs.lemmas.Bool.{cond-true, cond-false, cases_Bool, cases_lt, lt-ltb, le-ltb}
use Rattle.std.proofs.lemmas.Bool.Decides.{nat_tests}
use Rattle.std.proofs.lemmas.List.{length-set, length-take-le, length_push, take_more}
use Rattle.std.proofs.lemmas.List.Sums.{prefix_len-le-length}
use Rattle.std.proofs.lemmas.List.Folds.{position_or_len_push, position_or_len-set}
use Rattle.std.specs.Map.{lookup}
use Rattle.std.proofs.lemmas.Map.Keys.{IsDistinct-head, IsDistinct-tail}
use Rattle.std.proofs.lemmas.Map.Text.{is_eq-slice_cmp}
use Rattle.std.proofs.lemmas.Slice.Eq.{bytes_eq-Decides}
use Rattle.world_io.specs.Memory.{Indexes, names_of}
use Rattle.world_io.proofs.Places.{Stored, is_of}
use Rattle.world_io.proofs.Standing.{place-none}

-- the first place in a list that is one longer
position-push : (p : Stored → Bool) (files : List Stored) (file : Stored) → position p (files ++ file ∷ []) ≡ cond (ltb (position_or_len p files) (length files)) (position p files) (cond (p file) (Some (length files)) None)
position-push p files file =
    let longer = length_push files file in
    let at = position_or_len_push p files file in
    let most = prefix_len-le-length (λ x. not (p x)) files in
    grind (arith, nat_tests)

-- a new place counts where the name has none
noted : (here : Bool) (k n : ℕ) → (here ≡ true → n ≤ k) → cond here (Some n) (cond (ltb k n) (Some k) None) ≡ cond (ltb k n) (cond (ltb k n) (Some k) None) (cond here (Some n) None)
noted true k n past = sym (cond-false _ _ _ (le-ltb _ _ (past refl)))
noted false k n past = elim (ltb k n) as (λ (b : Bool). cond b (Some k) None ≡ cond b (cond b (Some k) None) None) [ true ↦ refl | false ↦ refl ]

-- the map that has the places of some files, and the place of one more behind them, under a new name
pub indexed-more : (before now : BTreeMap (List ℕ) ℕ) (files : List Stored) (file : Stored) → Indexes (Some before) files → position (is_of file.0) files ≡ None → Updates (slice_cmp nat_cmp) before now file.0 (Some (length files)) → Indexes (Some now) (files ++ file ∷ [])
indexed-more before now files file all new updates = λ name.
    let here = bytes_eq file.0 name in
    let n = length files in
    let none : (name : List ℕ) → bytes_eq file.0 name ≡ true → n ≤ position_or_len (is_of name) files =
    λ name same. let P : List ℕ → Type 0 = λ text. n ≤ position_or_len (is_of text) files in
    subst P ((bytes_eq-Decides file.0 name).0 same) (place-none (is_of file.0) files new) in
    let is : get (slice_cmp nat_cmp) now name ≡ cond here (Some n) (position (is_of name) files) =
    updates.0 name ∙ ap (λ (same : Bool). cond same (Some n) (get (slice_cmp nat_cmp) before name)) (is_eq-slice_cmp file.0 name)
    ∙ ap (λ (found : Option ℕ). cond here (Some n) found) (all name) in
    is ∙ noted here (position_or_len (is_of name) files) n (λ same. none name same) ∙ sym (position-push (is_of name) files file)

-- no file has the name of a later one
skipped : (p : Stored → Bool) (file : Stored) (files : List Stored) → p file ≡ false → position p files ≡ None → position p (file ∷ files) ≡ None
skipped p file files differs none =
    let past = place-none p files none in
    let behind : length (file ∷ files) ≤ position_or_len p (file ∷ files) = grind (arith, nat_tests) in cond-false _ _ _ (le-ltb _ _ behind)

differs-at : (name : List ℕ) (files : List Stored) (i : ℕ) (d : Stored) → AllByRecursion (λ other. bytes_eq name other ≡ false) (names_of files) → i < length files → bytes_eq name (get_or files i d).0 ≡ false
differs-at name [] i d all within = absurd (omega arith)
differs-at name (f ∷ fs) zero d all within = all.0
differs-at name (f ∷ fs) (suc i) d all within = differs-at name fs i d all.1 (omega arith)

pub new-name : (files : List Stored) (i : ℕ) (d : Stored) → IsDistinct bytes_eq (names_of files) → i < length files → position (is_of (get_or files i d).0) (take i files) ≡ None
new-name [] i d once within = absurd (omega arith)
new-name (f ∷ fs) zero d once within = refl
new-name (f ∷ fs) (suc i) d once within =
    let p = is_of (get_or fs i d).0 in
    skipped p f (take i fs) (differs-at f.0 fs i d (IsDistinct-head bytes_eq f.0 (names_of fs) once) (omega arith)) (new-name fs i d (IsDistinct-tail bytes_eq f.0 (names_of fs) once) (omega arith))

-- the map that has the places of the first files, and that of the next one
pub indexed-next : (before now : BTreeMap (List ℕ) ℕ) (files : List Stored) (i : ℕ) (file : Stored) (name : List ℕ) → IsDistinct bytes_eq (names_of files) → i < length files → file ≡ get_or files i file → name ≡ file.0 → Indexes (Some before) (take i files) → Updates (slice_cmp nat_cmp) before now name (Some i) → Indexes (Some now) (take (i + 1) files)
indexed-next before now files i file name once within held named all updates =
    let indexed : List Stored → Type 0 = λ l. Indexes (Some now) l in
    let none : Stored → Type 0 = λ one. position (is_of one.0) (take i files) ≡ None in
    let noted : List ℕ → ℕ → Type 0 = λ text place. Updates (slice_cmp nat_cmp) before now text (Some place) in
    let more : take (i + 1) files ≡ take i files ++ file ∷ [] = take_more files i file within ∙ ap (λ (one : Stored). take i files ++ one ∷ []) (sym held) in
    subst indexed (sym more)
    (indexed-more before now (take i files) file all (subst none (sym held) (new-name files i file once within))
    (subst (noted file.0) (sym (length-take-le i files (omega arith))) (subst (λ (text : List ℕ). noted text i) named updates)))

-- the empty map has the places of no files
pub indexed-none : (places : BTreeMap (List ℕ) ℕ) → places.entries ≡ [] → Indexes (Some places) []
indexed-none places none = λ name. ap (λ (entries : List (List ℕ × ℕ)). lookup (λ other. is_eq (slice_cmp nat_cmp name other)) entries) none

-- a file that is put in the place of one of its name leaves all places
pub indexed-set : (places : Option (BTreeMap (List ℕ) ℕ)) (files : List Stored) (i : ℕ) (old new : Stored) → old ≡ get_or files i old → new.0 ≡ old.0 → Indexes places files → Indexes places (set files i new)
indexed-set None files i old new held named all = tt
indexed-set (Some places) files i old new held named all = λ name.
    let p = is_of name in
    let seen : ℕ → ℕ → Option ℕ = λ at len. cond (ltb at len) (Some at) None in
    let same : position_or_len p (set files i new) ≡ position_or_len p files =
    position_or_len-set p files i new old (ap (λ (text : List ℕ). bytes_eq text name) (named ∙ ap (λ (file : Stored). file.0) held)) in
    all name ∙ sym (ap (λ (at : ℕ). seen at (length (set files i new))) same ∙ ap (seen (position_or_len p files)) (length-set files i new))

-- what was made, where anything was
made-ok : {E : Type 0} (made : Result (BTreeMap (List ℕ) ℕ) E) (files : List Stored) → IfOk made (λ places. Indexes (Some places) files) → Indexes (result_ok made) files
made-ok (Ok places) files all = all
made-ok (Err e) files all = tt

pub indexed-ok : {E : Type 0} (made : Result (BTreeMap (List ℕ) ℕ) E) (places : Option (BTreeMap (List ℕ) ℕ)) (read files : List Stored) → read ≡ files → IfOk made (λ places. Indexes (Some places) read) → places ≡ result_ok made → Indexes places files
indexed-ok made places read files same all is =
    let indexed : Option (BTreeMap (List ℕ) ℕ) → Type 0 = λ o. Indexes o files in
    let among : List Stored → Type 0 = λ l. Indexes (result_ok made) l in
    subst indexed (sym is) (subst among same (made-ok made read all))
