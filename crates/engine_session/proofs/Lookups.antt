-- Live files by their numbers.
use Rattle.std.proofs.Common.{◌≡◌, ◌≢◌, inl, inr, ℕ, suc, ◌<◌, ◌≤◌, Bool, true, false, cond, List, [], ◌∷◌, length, map, refl, sym, ap, subst, ◌∙◌, arith}
use Rattle.std.specs.Prelude.{◌==◌, ◌&&◌, ◌||◌, not, All, Contains, Option, None, Some, find, is_some, option_map}
use Rattle.std.specs.List.{AllPairs, cons_option, list_any}
use Rattle.std.proofs.lemmas.Bool.{and_parts, cases_Bool, cases_eq, eq-eqb, eqb-true, ne_eqb, false≢true}
use Rattle.std.proofs.lemmas.List.Elements.{All-cons, All-nil}
use Rattle.flowfile_record.specs.NumberedItems.{AscendsByNumber}
use Rattle.flowfile_record.specs.Stored.{Kept}
use Rattle.flowfile_record.specs.declared.flow_file.FlowFile.{FlowFile}
use Rattle.flowfile_record.specs.declared.stored.ActiveFile.{ActiveFile}
use Rattle.record_codec.specs.ActiveFile.{active}
use Rattle.kept_state.specs.Applied.{active_number}
use Rattle.kept_state.specs.Fits.{active_of, are_active_in, are_distinct_numbers, is_in_connection}
use Rattle.machine_model.specs.Files as files
use Rattle.machine_model.proofs.Among.{Among, all_among, contains_among}
use Rattle.machine_model.proofs.Keyed.{differ_from_once}
use Rattle.machine_model.proofs.Tally.{bit, many, tally-map}
use Rattle.engine_session.specs.Handing.{live_files}

-- ---- one file

pub found_active : (a : ActiveFile) (files : List ActiveFile) → AscendsByNumber active_number files → Among a files → active_of (active_number a) files ≡ Some a
found_active a [] ascends there = absurd there
found_active a (b ∷ files) ascends (inl same) =
    let yes : (active_number b == active_number a) ≡ true = eq-eqb (active_number b) (active_number a) (ap active_number same) in
    rw yes (ap (λ (x : ActiveFile). Some x) same)
found_active a (b ∷ files) ascends (inr later) =
    let above : active_number b < active_number a = all_among (λ l. active_number b < active_number l) a files ascends.0 later in
    let other : (active_number b == active_number a) ≡ false = ne_eqb (active_number b) (active_number a) (λ e. omega arith) in
    rw other (found_active a files ascends.1 later)

-- the live file of a number
pub record HasLive (files : List ActiveFile) (connection number : ℕ) : Type 0 where
  pub file : FlowFile
  pub found : active_of number files ≡ Some (active connection file)
  pub there : Among (active connection file) files
  pub named : file.number ≡ number

record IsItem (files : List ActiveFile) (number : ℕ) (a : ActiveFile) : Type 0 where
  there : Among a files
  named : active_number a ≡ number

item_found : (files : List ActiveFile) (number : ℕ) (a : ActiveFile) → active_of number files ≡ Some a → IsItem files number a
item_found [] number a is = absurd cc
item_found (b ∷ files) number a is =
    elim (cases_Bool (active_number b == number)) [
      | inl t ↦ let same : b ≡ a = some_same b a (sym (ap (λ t. cond t (Some b) (active_of number files)) t) ∙ is) in
          record { there = inl same; named = ap active_number (sym same) ∙ eqb-true (active_number b) number t }
      | inr f ↦ let rest = item_found files number a (sym (ap (λ t. cond t (Some b) (active_of number files)) f) ∙ is) in
          record { there = inr rest.there; named = rest.named }
    ]
  where
    some_same : (x y : ActiveFile) → ◌≡◌ {A = Option ActiveFile} (Some x) (Some y) → x ≡ y
    some_same x y same = cc

has_live : (files : List ActiveFile) (connection number : ℕ) (o : Option ActiveFile) → active_of number files ≡ o → is_in_connection connection o ≡ true → HasLive files connection number
has_live files connection number None is within = absurd (false≢true within)
has_live files connection number (Some a) is within =
    let item = item_found files number a is in
    let same : a ≡ active connection a.file = ap (λ c. active c a.file) (eqb-true a.connection connection within) in
    record {
      file = a.file;
      found = is ∙ ap (λ (b : ActiveFile). Some b) same;
      there = subst (λ (b : ActiveFile). Among b files) same item.there;
      named = item.named;
    }

pub live_head : (files : List ActiveFile) (connection number : ℕ) (numbers : List ℕ) → are_active_in files connection (number ∷ numbers) ≡ true → HasLive files connection number
live_head files connection number numbers all = has_live files connection number (active_of number files) refl (and_parts _ _ all).0

pub live_rest : (files : List ActiveFile) (connection number : ℕ) (numbers : List ℕ) → are_active_in files connection (number ∷ numbers) ≡ true → are_active_in files connection numbers ≡ true
live_rest files connection number numbers all = (and_parts (is_in_connection connection (active_of number files)) (are_active_in files connection numbers) all).1

-- ---- all of them

pub live_one : (k : Kept) (connection number : ℕ) (numbers : List ℕ) (has : HasLive k.files connection number) → live_files k (number ∷ numbers) ≡ has.file ∷ live_files k numbers
live_one k connection number numbers has = ap (λ (o : Option ActiveFile). cons_option (option_map (λ (a : ActiveFile). a.file) o) (live_files k numbers)) has.found

pub live_count : (k : Kept) (connection : ℕ) (numbers : List ℕ) → are_active_in k.files connection numbers ≡ true → length (live_files k numbers) ≡ length numbers
live_count k connection [] all = refl
live_count k connection (number ∷ numbers) all =
    ap length (live_one k connection number numbers (live_head k.files connection number numbers all))
    ∙ ap suc (live_count k connection numbers (live_rest k.files connection number numbers all))

pub live_there : (k : Kept) (connection : ℕ) (numbers : List ℕ) → are_active_in k.files connection numbers ≡ true → All (λ file. Contains k.files (active connection file)) (live_files k numbers)
live_there k connection [] all = All-nil (λ file. Contains k.files (active connection file))
live_there k connection (number ∷ numbers) all =
    let has = live_head k.files connection number numbers all in
    subst (λ (files : List FlowFile). All (λ file. Contains k.files (active connection file)) files) (sym (live_one k connection number numbers has))
    (All-cons (λ file. Contains k.files (active connection file)) has.file (live_files k numbers) (contains_among (active connection has.file) k.files has.there)
    (live_there k connection numbers (live_rest k.files connection number numbers all)))

live_numbers : (k : Kept) (connection : ℕ) (numbers : List ℕ) → are_active_in k.files connection numbers ≡ true → map (λ file. file.number) (live_files k numbers) ≡ numbers
live_numbers k connection [] all = refl
live_numbers k connection (number ∷ numbers) all =
    let has = live_head k.files connection number numbers all in
    ap (map (λ (file : FlowFile). file.number)) (live_one k connection number numbers has)
    ∙ (λ i. has.named i ∷ live_numbers k connection numbers (live_rest k.files connection number numbers all) i)

-- ---- that they differ

none_among : (number : ℕ) (numbers : List ℕ) → list_any (λ m. m == number) numbers ≡ false → many (λ (m : ℕ). m) number numbers ≡ 0
none_among number [] none = refl
none_among number (other ∷ numbers) none =
    elim (cases_Bool (other == number)) [
      | inl t ↦ absurd (false≢true (sym none ∙ ap (λ b. b || list_any (λ m. m == number) numbers) t))
      | inr f ↦ rw f (omega (arith, none_among number numbers (sym (ap (λ b. b || list_any (λ m. m == number) numbers) f) ∙ none)))
    ]

once : (numbers : List ℕ) → are_distinct_numbers numbers ≡ true → (n : ℕ) → many (λ (m : ℕ). m) n numbers ≤ 1
once [] distinct n = omega arith
once (number ∷ numbers) distinct n =
    let both = and_parts (not (list_any (λ m. m == number) numbers)) (are_distinct_numbers numbers) distinct in
    elim (cases_eq number n) [
      | inl e ↦
          let yes : (number == n) ≡ true = eq-eqb number n e in
          let none : many (λ (m : ℕ). m) n numbers ≡ 0 = subst (λ m. many (λ (x : ℕ). x) m numbers ≡ 0) e (none_among number numbers (is_not (list_any (λ m. m == number) numbers) both.0)) in
          rw yes (omega (arith, none))
      | inr ne ↦ let no : (number == n) ≡ false = ne_eqb number n ne in rw no (omega (arith, once numbers both.1 n))
    ]
  where
    is_not : (b : Bool) → not b ≡ true → b ≡ false
    is_not true h = absurd (false≢true h)
    is_not false h = refl

pub live_differ : (k : Kept) (connection : ℕ) (numbers : List ℕ) → are_active_in k.files connection numbers ≡ true → are_distinct_numbers numbers ≡ true
    → AllPairs (λ one other. one.number ≢ other.number) (live_files k numbers)
live_differ k connection numbers all distinct =
    differ_from_once (λ (file : FlowFile). file.number) (live_files k numbers)
    (λ n. let same : many (λ (m : ℕ). m) n (map (λ (file : FlowFile). file.number) (live_files k numbers)) ≡ many (λ (m : ℕ). m) n numbers = ap (many (λ (m : ℕ). m) n) (live_numbers k connection numbers all) in
    omega (arith, same, tally-map (λ (m : ℕ). bit (m == n)) (λ (file : FlowFile). file.number) (live_files k numbers), once numbers distinct n))

-- ---- the machine's word for it

found_any : (number : ℕ) (numbers : List ℕ) → is_some (find (λ m. m == number) numbers) ≡ list_any (λ m. m == number) numbers
found_any number [] = refl
found_any number (other ∷ numbers) =
    elim (other == number) as (λ b. is_some (cond b (Some other) (find (λ m. m == number) numbers)) ≡ (b || list_any (λ m. m == number) numbers)) [
      | true ↦ refl
      | false ↦ found_any number numbers
    ]

pub distinct_as : (numbers : List ℕ) → files.are_distinct numbers ≡ are_distinct_numbers numbers
distinct_as [] = refl
distinct_as (number ∷ numbers) =
    ap (λ b. not b && files.are_distinct numbers) (found_any number numbers)
    ∙ ap (λ b. not (list_any (λ m. m == number) numbers) && b) (distinct_as numbers)
