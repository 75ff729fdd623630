-- The numbers of the files of a kind that aren't empty, by the names of a table.
use Rattle.std.proofs.Common.{◌≡◌, ◌↔◌, ℕ, zero, suc, ◌<◌, Bool, true, false, ◌&&◌, not, List, [], ◌∷◌, ◌++◌, map, length, ◌==◌, IsSome, Option, is_some, Contains, Less, refl, sym, ◌∙◌, ap, subst, ⊎_elim, inl, inr, ◌⊎◌, append-nil, arith, rules}
use Rattle.std.specs.List.{filter, All, AllByRecursion}
use Rattle.std.specs.List.Sorted.{IsStrictlyIncreasing, IsStrictlySortedBy}
use Rattle.std.specs.Ordering.{nat_cmp, is_eq, ordering_then}
use Rattle.std.specs.Cmp.{tied_itself}
use Rattle.std.specs.BTreeMap.{IsOrdered, keys}
use Rattle.std.proofs.lemmas.Bool.{cases_Bool, cond-true, cond-false, and_parts, and_from, not-true, eqb-false, ne_eqb, not_from_false, false≢true}
use Rattle.std.proofs.lemmas.List.Elements.{All-nil, All-cons, All-contains}
use Rattle.std.proofs.lemmas.Map.Keys.{IsStrictlyIncreasing-from_sorted}
use Rattle.std.proofs.lemmas.Map.Lookups.{CmpEqualImpliesEq}
use Rattle.std.proofs.lemmas.Map.Views.{btree_map_contains_key_iff}
use denote.Enum.Bare.{same_true}
use Rattle.disk_trait.specs.declared.file_name.FileName.{FileName}
use Rattle.disk_trait.specs.declared.file_name.FileKind.{FileKind}
use Rattle.disk_trait.specs.contracts.file_name.FileKind.{the_type}
use Rattle.disk_trait.specs.contracts.file_name.FileKindPartialEq.TheImpl as kinds
use Rattle.disk_trait.specs.contracts.file_name.FileKindEq.TheImpl.Laws as kinds_equal
use Rattle.disk_trait.specs.contracts.file_name.FileKindOrd.TheImpl.Laws as kinds_ordered
use Rattle.disk_trait.specs.contracts.file_name.FileKindOrd.TheImpl as kind_order
use Rattle.disk_trait.specs.contracts.file_name.FileNameOrd.TheImpl as order
use Rattle.disk_trait.specs.declared.memory.table.FileTable.{FileTable}
use Rattle.disk_trait.specs.Files.{named}
use Rattle.disk_trait.specs.MemoryTable.{bytes_of, has_file, entry_of}
use Rattle.disk_trait.proofs.FileNames.{names_ordered, is_at-name, same_name_is}
use Rattle.disk_trait.proofs.FileTables.{absent_bytes, has_at}

-- a file of this kind that isn't empty
abbrev pub is_listed : FileTable → FileKind → FileName → Bool
is_listed table kind name = kinds.ghosts.eq name.kind kind && not (length (bytes_of table name) == 0)

abbrev pub numbers_of : FileTable → FileKind → List FileName → List ℕ
numbers_of table kind names = map (λ name. name.number) (filter (is_listed table kind) names)

exact_names : CmpEqualImpliesEq order.ghosts.cmp
exact_names x y equal = same_name_is x y (sym (is_at-name x y) ∙ ap is_eq equal)

pub contains_here : {X : Type 0} (x : X) (xs : List X) → Contains (x ∷ xs) x
contains_here x xs = (0, omega arith, refl)

pub contains_there : {X : Type 0} (x y : X) (xs : List X) → Contains xs y → Contains (x ∷ xs) y
contains_there x y xs at = (suc at.0, omega (arith, at.1), at.2)

pub contains_cases : {X : Type 0} (x y : X) (xs : List X) → Contains (x ∷ xs) y → (x ≡ y) ⊎ Contains xs y
contains_cases x y xs (zero, lt, is) = inl is
contains_cases x y xs (suc k, lt, is) = inr (k, omega arith, is)

module _ (t : FileTable) (kind : FileKind) where
  listed_kind : (f : FileName) → is_listed t kind f ≡ true → f.kind ≡ kind
  listed_kind f listed = same_true the_type (search rules) f.kind kind ((and_parts _ (not (length (bytes_of t f) == 0)) listed).0)

  listed_bytes : (f : FileName) → is_listed t kind f ≡ true → 0 < length (bytes_of t f)
  listed_bytes f listed =
      let some = eqb-false (length (bytes_of t f)) 0 (not-true _ ((and_parts (kinds.ghosts.eq f.kind kind) _ listed).1)) in
      omega (arith, some)

  listed_from : (n : ℕ) → 0 < length (bytes_of t (named kind n)) → is_listed t kind (named kind n) ≡ true
  listed_from n some = and_from _ _ (kinds_equal.laws-law.refl kind) (not_from_false _ (ne_eqb (length (bytes_of t (named kind n))) 0 (λ none. omega arith)))

  -- a number that is listed is that of a file with bytes
  all_numbers : (names : List FileName) → All (λ n. 0 < length (bytes_of t (named kind n))) (numbers_of t kind names)
  all_numbers [] = All-nil (λ n. 0 < length (bytes_of t (named kind n)))
  all_numbers (f ∷ names) = ⊎_elim
      (λ (listed : is_listed t kind f ≡ true).
      let same : f ≡ named kind f.number = λ i. record { kind = listed_kind f listed i; number = f.number } in
      subst (λ names. All (λ n. 0 < length (bytes_of t (named kind n))) (map (λ name. name.number) names)) (sym (cond-true (is_listed t kind f) (f ∷ filter (is_listed t kind) names) (filter (is_listed t kind) names) listed))
      (All-cons (λ n. 0 < length (bytes_of t (named kind n))) f.number (numbers_of t kind names) (subst (λ g. 0 < length (bytes_of t g)) same (listed_bytes f listed)) (all_numbers names)))
      (λ (other : is_listed t kind f ≡ false).
      subst (λ names. All (λ n. 0 < length (bytes_of t (named kind n))) (map (λ name. name.number) names)) (sym (cond-false (is_listed t kind f) (f ∷ filter (is_listed t kind) names) (filter (is_listed t kind) names) other)) (all_numbers names))
      (cases_Bool (is_listed t kind f))

  contains_number : (names : List FileName) (f : FileName) → is_listed t kind f ≡ true → Contains names f → Contains (numbers_of t kind names) f.number
  contains_number [] f listed at = absurd (omega (arith, at.1))
  contains_number (g ∷ names) f listed at = ⊎_elim
      (λ (yes : is_listed t kind g ≡ true).
      subst (λ names. Contains (map (λ name. name.number) names) f.number) (sym (cond-true (is_listed t kind g) (g ∷ filter (is_listed t kind) names) (filter (is_listed t kind) names) yes))
      (⊎_elim
      (λ (here : g ≡ f). subst (λ n. Contains (g.number ∷ numbers_of t kind names) n) (ap (λ (h : FileName). h.number) here) (contains_here g.number (numbers_of t kind names)))
      (λ (there : Contains names f). contains_there g.number f.number (numbers_of t kind names) (contains_number names f listed there))
      (contains_cases g f names at)))
      (λ (other : is_listed t kind g ≡ false).
      subst (λ names. Contains (map (λ name. name.number) names) f.number) (sym (cond-false (is_listed t kind g) (g ∷ filter (is_listed t kind) names) (filter (is_listed t kind) names) other))
      (⊎_elim
      (λ (here : g ≡ f). absurd (false≢true (sym other ∙ ap (is_listed t kind) here ∙ listed)))
      (λ (there : Contains names f). contains_number names f listed there)
      (contains_cases g f names at)))
      (cases_Bool (is_listed t kind g))

  has_bytes : (f : FileName) → 0 < length (bytes_of t f) → has_file t f ≡ true
  has_bytes f some = ⊎_elim (λ (h : has_file t f ≡ true). h) (λ (none : has_file t f ≡ false). absurd (omega (arith, some, ap length (absent_bytes t f none)))) (cases_Bool (has_file t f))

  pub numbers_listed : (n : ℕ) → Contains (numbers_of t kind (keys t.files)) n ↔ (0 < length (bytes_of t (named kind n)))
  numbers_listed n = (
    (λ at. All-contains (λ n. 0 < length (bytes_of t (named kind n))) (numbers_of t kind (keys t.files)) n (all_numbers (keys t.files)) at),
    (λ some. contains_number (keys t.files) (named kind n) (listed_from n some)
        ((btree_map_contains_key_iff names_ordered exact_names t.files (named kind n)).0 (found (entry_of t (named kind n)) (sym (has_at t (named kind n) _ refl) ∙ has_bytes (named kind n) some)))),
  )
    where
      found : {X : Type 0} (o : Option X) → is_some o ≡ true → IsSome o
      found o is = is

  -- names in order that are listed have numbers in order
  less_numbers : (f g : FileName) → is_listed t kind f ≡ true → is_listed t kind g ≡ true → order.ghosts.cmp f g ≡ Less → nat_cmp f.number g.number ≡ Less
  less_numbers f g a b less =
      let same : g.kind ≡ f.kind = listed_kind g b ∙ sym (listed_kind f a) in
      let tied = ap (kind_order.ghosts.cmp f.kind) same ∙ tied_itself kinds_ordered.total-law f.kind in
      sym (ap (λ o. ordering_then o (nat_cmp f.number g.number)) tied) ∙ less

  less_all : (f : FileName) (names : List FileName) → is_listed t kind f ≡ true → AllByRecursion (λ g. order.ghosts.cmp f g ≡ Less) names → AllByRecursion (λ n. nat_cmp f.number n ≡ Less) (numbers_of t kind names)
  less_all f [] a less = tt
  less_all f (g ∷ names) a less = ⊎_elim
      (λ (yes : is_listed t kind g ≡ true).
      subst (λ names. AllByRecursion (λ n. nat_cmp f.number n ≡ Less) (map (λ name. name.number) names)) (sym (cond-true (is_listed t kind g) (g ∷ filter (is_listed t kind) names) (filter (is_listed t kind) names) yes))
      (less_numbers f g a yes less.0, less_all f names a less.1))
      (λ (other : is_listed t kind g ≡ false).
      subst (λ names. AllByRecursion (λ n. nat_cmp f.number n ≡ Less) (map (λ name. name.number) names)) (sym (cond-false (is_listed t kind g) (g ∷ filter (is_listed t kind) names) (filter (is_listed t kind) names) other))
      (less_all f names a less.1))
      (cases_Bool (is_listed t kind g))

  sorted_numbers : (names : List FileName) → IsStrictlySortedBy order.ghosts.cmp names → IsStrictlySortedBy nat_cmp (numbers_of t kind names)
  unfolding IsStrictlySortedBy
  sorted_numbers [] sorted = tt
  sorted_numbers (f ∷ names) sorted = ⊎_elim
      (λ (yes : is_listed t kind f ≡ true).
      subst (λ names. IsStrictlySortedBy nat_cmp (map (λ name. name.number) names)) (sym (cond-true (is_listed t kind f) (f ∷ filter (is_listed t kind) names) (filter (is_listed t kind) names) yes))
      (less_all f names yes sorted.0, sorted_numbers names sorted.1))
      (λ (other : is_listed t kind f ≡ false).
      subst (λ names. IsStrictlySortedBy nat_cmp (map (λ name. name.number) names)) (sym (cond-false (is_listed t kind f) (f ∷ filter (is_listed t kind) names) (filter (is_listed t kind) names) other))
      (sorted_numbers names sorted.1))
      (cases_Bool (is_listed t kind f))

  pub numbers_ascend : IsOrdered order.ghosts.cmp t.files → IsStrictlyIncreasing (numbers_of t kind (keys t.files))
  numbers_ascend ordered = IsStrictlyIncreasing-from_sorted (numbers_of t kind (keys t.files)) (sorted_numbers (keys t.files) ordered)

  -- at the end of a walk over the names
  pub all_listed : (list : List ℕ) (rest : List FileName) → rest ≡ [] → list ++ numbers_of t kind rest ≡ numbers_of t kind (keys t.files) → numbers_of t kind (keys t.files) ≡ list
  all_listed list rest none walked = sym walked ∙ ap (λ names. list ++ numbers_of t kind names) none ∙ append-nil list

-- a name among the keys has an entry
pub has_key : (t : FileTable) (name : FileName) → Contains (keys t.files) name → has_file t name ≡ true
has_key t name at = has_at t name _ refl ∙ some (entry_of t name) ((btree_map_contains_key_iff names_ordered exact_names t.files name).1 at)
  where
    some : {X : Type 0} (o : Option X) → IsSome o → is_some o ≡ true
    some o is = is

-- a name with an entry is among the keys
pub key_of : (t : FileTable) (name : FileName) → has_file t name ≡ true → Contains (keys t.files) name
key_of t name has = (btree_map_contains_key_iff names_ordered exact_names t.files name).0 (some (entry_of t name) (sym (has_at t name _ refl) ∙ has))
  where
    some : {X : Type 0} (o : Option X) → is_some o ≡ true → IsSome o
    some o is = is
