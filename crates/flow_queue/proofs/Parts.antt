-- The numbers of the first file of each fragment, and those of the parts of a whole.
use Rattle.std.proofs.Common.{◌≡◌, ℕ, zero, suc, ◌+◌, ◌-◌, ◌<◌, ◌≤◌, Bool, true, false, cond, ◌&&◌, List, [], ◌∷◌, ◌++◌, Option, Some, None, Result, Ok, Err, IfOk, not, append_assoc, refl, sym, ap, subst, ◌∙◌, arith}
use Rattle.std.specs.Prelude.{◌==◌, bytes_eq, find, is_some}
use Rattle.std.specs.BTreeMap.{BTreeMap}
use Rattle.std.specs.BTreeSet.{BTreeSet, contains}
use Rattle.std.specs.Option.{option_map, option_or}
use Rattle.std.specs.Ordering.{is_eq}
use Rattle.std.proofs.lemmas.Bool.{true≢false}
use Rattle.std.proofs.lemmas.List.{append-nil}
use Rattle.std.proofs.lemmas.List.Folds.{find-append}
use Rattle.machine_model.specs.Due.{numbers_of}
use Rattle.machine_model.specs.Taking.{Fragment, fragment_of, is_fragment_at, fragment_at, joined_option, fragments_from, whole_of, first_some}
use Rattle.machine_model.specs.View.{FileView}
use Rattle.machine_model.specs.declared.fragment.Whole.{Whole}
use Rattle.machine_model.specs.declared.fragment.Fragment.{Fragment as Part}
use Rattle.machine_model.specs.Fragments.{fragment_seen}
use Rattle.flow_queue.specs.Fragments.{whole_cmp, part_cmp, part_number, AreFirst, IsNoted, added, part_numbers_from, files_of_whole, AreMissing}
use Rattle.flow_queue.specs.Picking.{Picks}
use Rattle.flow_queue.proofs.Compared.{same-parts, one-number, one-whole}

abbrev number_of : FileView → ℕ
number_of file = file.number

-- ---- noting a number

or_none : {X : Type 0} (o : Option X) → option_or o None ≡ o
or_none None = refl
or_none (Some x) = refl

map-or : (a b : Option FileView) → option_map number_of (option_or a b) ≡ option_or (option_map number_of a) (option_map number_of b)
map-or None b = refl
map-or (Some x) b = refl

find-one : (p : FileView → Bool) (file : FileView) → option_map number_of (find p (file ∷ [])) ≡ cond (p file) (Some file.number) None
find-one p file = elim (p file) as (λ b. option_map number_of (cond b (Some file) None) ≡ cond b (Some file.number) None) [ true ↦ refl | false ↦ refl ]

-- one more file, and what it is of a part
abbrev is_part : Part → FileView → Bool
is_part part file = is_fragment_at (fragment_seen part) part.index (fragment_of file.attributes)

more : (part : Part) (files : List FileView) (file : FileView) → option_map number_of (fragment_at (fragment_seen part) part.index (files ++ file ∷ []))
    ≡ option_or (option_map number_of (fragment_at (fragment_seen part) part.index files)) (cond (is_part part file) (Some file.number) None)
more part files file =
    ap (option_map number_of) (find-append (is_part part) files (file ∷ []))
    ∙ map-or (find (is_part part) files) (find (is_part part) (file ∷ []))
    ∙ ap (option_or (option_map number_of (find (is_part part) files))) (find-one (is_part part) file)

pub first-noted : (noted : Part) (before after : BTreeMap Part ℕ) (files : List FileView) (file : FileView) → Some (fragment_seen noted) ≡ fragment_of file.attributes
    → AreFirst before files → IsNoted noted file.number before after → AreFirst after (files ++ file ∷ [])
first-noted noted before after files file is first h part =
    let same : is_part part file ≡ is_eq (part_cmp noted part)
    = ap (is_fragment_at (fragment_seen part) part.index) (sym is) ∙ sym (same-parts noted part) in
    h part
    ∙ (λ j. option_or (first part j) (cond (is_eq (part_cmp noted part)) (Some file.number) None))
    ∙ ap (λ b. option_or (option_map number_of (fragment_at (fragment_seen part) part.index files)) (cond b (Some file.number) None)) (sym same)
    ∙ sym (more part files file)

pub first-other : (numbers : BTreeMap Part ℕ) (files : List FileView) (file : FileView) → None ≡ fragment_of file.attributes → AreFirst numbers files → AreFirst numbers (files ++ file ∷ [])
first-other numbers files file is first part =
    let no : is_part part file ≡ false = ap (is_fragment_at (fragment_seen part) part.index) (sym is) in
    first part
    ∙ sym (or_none (option_map number_of (fragment_at (fragment_seen part) part.index files)))
    ∙ ap (λ b. option_or (option_map number_of (fragment_at (fragment_seen part) part.index files)) (cond b (Some file.number) None)) (sym no)
    ∙ sym (more part files file)

pub noted-new : (noted : Part) (number : ℕ) (before after : BTreeMap Part ℕ) → is_some (part_number noted before) ≡ false
    → ((part : Part) → part_number part after ≡ cond (is_eq (part_cmp noted part)) (Some number) (part_number part before)) → IsNoted noted number before after
noted-new noted number before after none changed part =
    changed part ∙ (elim (is_eq (part_cmp noted part)) as (λ b. is_eq (part_cmp noted part) ≡ b
    → cond b (Some number) (part_number part before) ≡ option_or (part_number part before) (cond b (Some number) None)) [
      | true ↦ λ same. was_none (part_number part before) (ap is_some (sym (one-number before noted part same)) ∙ none)
      | false ↦ λ other. sym (or_none (part_number part before))
    ] refl)
  where
    was_none : (o : Option ℕ) → is_some o ≡ false → Some number ≡ option_or o (Some number)
    was_none None h = refl
    was_none (Some n) h = absurd (true≢false h)

pub noted-kept : (noted : Part) (number : ℕ) (before : BTreeMap Part ℕ) → is_some (part_number noted before) ≡ true → IsNoted noted number before before
noted-kept noted number before some part =
    elim (is_eq (part_cmp noted part)) as (λ b. is_eq (part_cmp noted part) ≡ b → part_number part before ≡ option_or (part_number part before) (cond b (Some number) None)) [
      | true ↦ λ same. was_some (part_number part before) (ap is_some (sym (one-number before noted part same)) ∙ some)
      | false ↦ λ other. sym (or_none (part_number part before))
    ] refl
  where
    was_some : (o : Option ℕ) → is_some o ≡ true → o ≡ option_or o (Some number)
    was_some None h = absurd (true≢false (sym h))
    was_some (Some n) h = refl

-- ---- the parts of a whole

-- which part it is of a whole doesn't matter
same_at : (one other : Fragment) (index : ℕ) → one.identifier ≡ other.identifier → one.count ≡ other.count → (found : Option Fragment) → is_fragment_at one index found ≡ is_fragment_at other index found
same_at one other index a b None = refl
same_at one other index a b (Some found) = λ j. bytes_eq found.identifier (a j) && (found.count == b j) && (found.index == index)

same_there : (one other : Fragment) (index : ℕ) (files : List FileView) → one.identifier ≡ other.identifier → one.count ≡ other.count → fragment_at one index files ≡ fragment_at other index files
same_there one other index files a b = λ j. find (λ file. same_at one other index a b (fragment_of file.attributes) j) files

same_whole : (one other : Fragment) (index left : ℕ) (files : List FileView) → one.identifier ≡ other.identifier → one.count ≡ other.count
    → fragments_from one index left files ≡ fragments_from other index left files
same_whole one other index zero files a b = refl
same_whole one other index (suc left) files a b =
    λ j. joined_option (same_there one other index files a b j) (same_whole one other (index + 1) left files a b j)

abbrev any_of : Whole → Fragment
any_of whole = record { identifier = whole.identifier.now; index = 0; count = whole.count }

joined : (found : Option FileView) (rest : Option (List FileView)) → added (option_map number_of found) (option_map numbers_of rest) ≡ option_map numbers_of (joined_option found rest)
joined (Some file) (Some files) = refl
joined (Some file) None = refl
joined None rest = refl

numbers-are : (numbers : BTreeMap Part ℕ) (whole : Whole) (files : List FileView) (place left : ℕ) → AreFirst numbers files
    → part_numbers_from numbers whole place left ≡ option_map numbers_of (fragments_from (any_of whole) (place + 1) left files)
numbers-are numbers whole files place zero first = refl
numbers-are numbers whole files place (suc left) first =
    let part : Part = record { whole = whole; index = place + 1 } in
    let here : part_number part numbers ≡ option_map number_of (fragment_at (any_of whole) (place + 1) files)
    = first part ∙ ap (option_map number_of) (same_there (fragment_seen part) (any_of whole) (place + 1) files refl refl) in
    (λ j. added (here j) (numbers-are numbers whole files (place + 1) left first j))
    ∙ joined (fragment_at (any_of whole) (place + 1) files) (fragments_from (any_of whole) (place + 1 + 1) left files)

pub whole-numbers : (numbers : BTreeMap Part ℕ) (whole : Whole) (files : List FileView) → AreFirst numbers files
    → part_numbers_from numbers whole 0 whole.count ≡ option_map numbers_of (files_of_whole whole files)
whole-numbers numbers whole files first = numbers-are numbers whole files 0 whole.count first

-- what a fragment is picked with is its whole
pub part-whole : (part : Part) (file : FileView) (files : List FileView) → Some (fragment_seen part) ≡ fragment_of file.attributes
    → whole_of files file (fragment_of file.attributes) ≡ files_of_whole part.whole files
part-whole part file files is =
    ap (whole_of files file) (sym is) ∙ same_whole (fragment_seen part) (any_of part.whole) 1 part.whole.count files refl refl

-- ---- one more part

-- the numbers so far, and those of the other parts
abbrev pub gone_on : BTreeMap Part ℕ → Whole → ℕ → List ℕ → Option (List ℕ)
gone_on numbers whole place list = option_map (λ rest. list ++ rest) (part_numbers_from numbers whole place (whole.count - place))

pushed : (list : List ℕ) (number : ℕ) (rest : Option (List ℕ)) → option_map (λ l. list ++ l) (added (Some number) rest) ≡ option_map (λ l. (list ++ number ∷ []) ++ l) rest
pushed list number None = refl
pushed list number (Some rest) = ap (λ l. Some l) (sym (append_assoc list (number ∷ []) rest))

one_less : (numbers : BTreeMap Part ℕ) (whole : Whole) (place : ℕ) (list : List ℕ) → place < whole.count
    → gone_on numbers whole place list
    ≡ option_map (λ rest. list ++ rest) (added (part_number (record { whole = whole; index = place + 1 }) numbers) (part_numbers_from numbers whole (place + 1) (whole.count - (place + 1))))
one_less numbers whole place list lt =
    let is : whole.count - place ≡ suc (whole.count - (place + 1)) = omega arith in
    ap (λ left. option_map (λ rest. list ++ rest) (part_numbers_from numbers whole place left)) is

pub gone-more : (numbers : BTreeMap Part ℕ) (whole : Whole) (place number : ℕ) (list : List ℕ) → place < whole.count → Some number ≡ part_number (record { whole = whole; index = place + 1 }) numbers
    → gone_on numbers whole (place + 1) (list ++ number ∷ []) ≡ gone_on numbers whole place list
gone-more numbers whole place number list lt is =
    let rest = part_numbers_from numbers whole (place + 1) (whole.count - (place + 1)) in
    sym (pushed list number rest) ∙ ap (λ found. option_map (λ l. list ++ l) (added found rest)) is ∙ sym (one_less numbers whole place list lt)

pub gone-missing : (numbers : BTreeMap Part ℕ) (whole : Whole) (place : ℕ) (list : List ℕ) → place < whole.count → None ≡ part_number (record { whole = whole; index = place + 1 }) numbers
    → None ≡ gone_on numbers whole place list
gone-missing numbers whole place list lt is =
    let rest = part_numbers_from numbers whole (place + 1) (whole.count - (place + 1)) in
    ap (λ found. option_map (λ l. list ++ l) (added found rest)) is ∙ sym (one_less numbers whole place list lt)

pub gone-all : (numbers : BTreeMap Part ℕ) (whole : Whole) (place : ℕ) (list : List ℕ) → whole.count ≤ place → Some list ≡ gone_on numbers whole place list
gone-all numbers whole place list le =
    let is : whole.count - place ≡ 0 = omega arith in
    ap (λ l. Some l) (sym (append-nil list)) ∙ ap (λ left. option_map (λ rest. list ++ rest) (part_numbers_from numbers whole place left)) (sym is)

pub gone-none : (numbers : BTreeMap Part ℕ) (whole : Whole) → gone_on numbers whole 0 [] ≡ part_numbers_from numbers whole 0 whole.count
gone-none numbers whole =
    let is : whole.count - 0 ≡ whole.count = omega arith in
    same (part_numbers_from numbers whole 0 (whole.count - 0)) ∙ ap (part_numbers_from numbers whole 0) is
  where
    same : (o : Option (List ℕ)) → option_map (λ rest. [] ++ rest) o ≡ o
    same None = refl
    same (Some rest) = refl

-- ---- what is answered

pub picks-same : {E : Type 0} (one other : Option (List ℕ)) (result : Result Bool E) (list : List ℕ) → one ≡ other → Picks one result list → Picks other result list
picks-same one other result list is h = subst (λ found. Picks found result list) is h

pub nothing : (o : Option (List FileView)) → false ≡ is_some (option_map numbers_of o) → o ≡ None
nothing None h = refl
nothing (Some files) h = absurd (true≢false (sym h))

-- what follows where nothing is picked
pub where-none : {E : Type 0} (X : Type 0) (o : Option (List FileView)) (result : Result Bool E) (list : List ℕ) → Picks (option_map numbers_of o) result list → (o ≡ None → X)
    → IfOk result (λ answer. answer ≡ false → X)
where-none X o (Ok answer) list h k = λ is. k (nothing o (sym is ∙ h.0))
where-none X o (Err error) list h k = tt

pub contained : (b : Bool) → false ≡ not b → b ≡ true
contained true h = refl
contained false h = absurd (true≢false (sym h))

-- wholes of which one more is tried
pub missing-more : (tried after : BTreeSet Whole) (whole : Whole) (files : List FileView) → AreMissing tried files → files_of_whole whole files ≡ None
    → ((other : Whole) → contains whole_cmp after other ≡ cond (is_eq (whole_cmp whole other)) true (contains whole_cmp tried other)) → AreMissing after files
missing-more tried after whole files missing none changed other there =
    elim (is_eq (whole_cmp whole other)) as (λ b. is_eq (whole_cmp whole other) ≡ b → cond b true (contains whole_cmp tried other) ≡ true → files_of_whole other files ≡ None) [
      | true ↦ λ same h.
          let is = one-whole whole other same in
          same_whole (any_of other) (any_of whole) 1 other.count files (sym is.0) (sym is.1) ∙ ap (λ count. fragments_from (any_of whole) 1 count files) (sym is.1) ∙ none
      | false ↦ λ apart h. missing other h
    ] refl (sym (changed other) ∙ there)

-- ---- over the files

pub first-found : (found rest : Option (List FileView)) → true ≡ is_some (option_map numbers_of found) → found ≡ first_some found rest
first-found None rest h = absurd (true≢false h)
first-found (Some files) rest h = refl

pub first-goes_on : (found rest : Option (List FileView)) → found ≡ None → first_some found rest ≡ rest
first-goes_on found rest is = ap (λ o. first_some o rest) is
