-- Slots by their numbers: what they hold, and what a put, a taking and a sweep leave.
use Rattle.std.proofs.Common.{◌≡◌, ◌≢◌, ℕ, suc, ◌+◌, ◌<◌, ◌≤◌, ◌==◌, nat_lt, Bool, true, false, cond, not, ◌&&◌, List, [], ◌∷◌, ◌++◌, length, map, get_or, Less, Equal, Greater, Option, Some, None, is_some, refl, sym, ◌∙◌, ap, subst, arith}
use lib.Dec.{T}
use Rattle.std.specs.Prelude.{IfSome}
use Rattle.std.specs.Ordering.{nat_cmp, is_lt, MatchOrdering}
use Rattle.std.specs.Cmp.{ranks, nat_cmp_total, unsigned_tied}
use Rattle.std.specs.List.{All, filter, filter_map, cons_option}
use Rattle.std.specs.FinMap.{nat_cmp-IsAntisymmetric, is_sorted, put}
use Rattle.std.specs.FinMap.Entries.{below_all, by_order, find, is_sorted-put}
use Rattle.std.proofs.lemmas.Bool.{lt-ltb, le-ltb, eq-eqb, eqb-true}
use Rattle.std.proofs.lemmas.List.Elements.{All-nil, All-cons, All-head, All-tail, All-map}
use Rattle.std.specs.List.Sorted.{IsPermutation, IsSortedByKey}
use Rattle.std.specs.Option.{option_map}
use Rattle.flowfile_record.specs.NumberedItems.{item_of, with_item, with_items, with_replaced, without_item, AreNew, AscendsByNumber}
use Rattle.flowfile_record.specs.Slots.{number_and_item, slot_of, items_of, AreSlots}
use Rattle.flowfile_record.specs.declared.numbered_list.Slot.{Slot}
use Rattle.std.proofs.lemmas.List.{get_or-map, length-map}
use Rattle.flowfile_record.specs.Places.{IsAt, IsGap}
use Rattle.flowfile_record.proofs.ByNumber.{ascends-with_items, length-with, length-with_items}
use Rattle.flowfile_record.proofs.Joined.{sorted_joins}
use Rattle.flowfile_record.proofs.Entries.{T-from, T-to, All-put, find_at, find_in_gap}
use Rattle.flowfile_record.proofs.Search.{in_slots}

left : (a b : Bool) → T (a && b) → T a
left true b h = tt
left false b h = h

right : (a b : Bool) → T (a && b) → T b
right true b h = h
right false b h = absurd h

both : (a b : Bool) → T a → T b → T (a && b)
both true b p q = q
both false b p q = p

below : (x y : ℕ) → T (is_lt (nat_cmp x y)) → x < y
below x y h = elim (nat_cmp x y) as (λ r. T (is_lt r) → MatchOrdering r (x < y) (x ≡ y) (y < x) → x < y) [ Less ↦ λ _ lt. lt | Equal ↦ λ no _. absurd no | Greater ↦ λ no _. absurd no ] h (ranks x y)

is_below : (x y : ℕ) → x < y → T (is_lt (nat_cmp x y))
is_below x y lt = elim (nat_cmp x y) as (λ r. MatchOrdering r (x < y) (x ≡ y) (y < x) → T (is_lt r)) [ Less ↦ λ _. tt | Equal ↦ λ same. absurd (omega arith) | Greater ↦ λ more. absurd (omega arith) ] (ranks x y)

module _ {A : Type 0} (number : A → ℕ) where
  -- each number is above one
  abbrev pub Above : ℕ → List (ℕ × Option A) → Type 0
  Above n [] = Unit {0}
  Above n (e ∷ es) = (n < e.0) × Above n es

  abbrev pub Rises : List (ℕ × Option A) → Type 0
  Rises [] = Unit {0}
  Rises (e ∷ es) = Above e.0 es × Rises es

  abbrev pub Owns : List (ℕ × Option A) → Type 0
  Owns [] = Unit {0}
  Owns (e ∷ es) = IfSome e.1 (λ item. number item ≡ e.0) × Owns es

  Above-from : (n : ℕ) (es : List (ℕ × Option A)) → T (below_all nat_cmp n es) → Above n es
  Above-from n [] h = tt
  Above-from n (e ∷ es) h = (below n e.0 (left _ _ h), Above-from n es (right _ _ h))

  Rises-from : (es : List (ℕ × Option A)) → T (is_sorted nat_cmp es) → Rises es
  Rises-from [] h = tt
  Rises-from (e ∷ es) h = (Above-from e.0 es (left _ _ h), Rises-from es (right _ _ h))

  Above-to : (n : ℕ) (es : List (ℕ × Option A)) → Above n es → T (below_all nat_cmp n es)
  Above-to n [] h = tt
  Above-to n (e ∷ es) h = both _ _ (is_below n e.0 h.0) (Above-to n es h.1)

  Rises-to : (es : List (ℕ × Option A)) → Rises es → T (is_sorted nat_cmp es)
  Rises-to [] h = tt
  Rises-to (e ∷ es) h = both _ _ (Above-to e.0 es h.0) (Rises-to es h.1)

  Owns-from : (es : List (ℕ × Option A)) → All (λ e. IfSome e.1 (λ item. number item ≡ e.0)) es → Owns es
  Owns-from [] all = tt
  Owns-from (e ∷ es) all = (All-head (λ (e : ℕ × Option A). IfSome e.1 (λ item. number item ≡ e.0)) e es all, Owns-from es (All-tail (λ (e : ℕ × Option A). IfSome e.1 (λ item. number item ≡ e.0)) e es all))

  Above-more : (m n : ℕ) (es : List (ℕ × Option A)) → m < n → Above n es → Above m es
  Above-more m n [] lt h = tt
  Above-more m n (e ∷ es) lt h = (omega arith, Above-more m n es lt h.1)

  -- what entries hold
  abbrev pub held : List (ℕ × Option A) → List A
  held es = filter_map (λ e. e.1) es

  pub items-held : (slots : List (Slot A)) → items_of slots ≡ held (map number_and_item slots)
  items-held [] = refl
  items-held (slot ∷ slots) = ap (cons_option slot.item) (items-held slots)

  -- ---- an element by its number

  differs : (m n : ℕ) → m ≢ n → (m == n) ≡ false
  differs m n apart = elim (m == n) as (λ b. (m == n) ≡ b → b ≡ false) [ true ↦ λ e. absurd (apart (eqb-true m n e)) | false ↦ λ _. refl ] refl

  none_above : (n : ℕ) (es : List (ℕ × Option A)) → Above n es → Owns es → item_of number n (held es) ≡ None
  none_above n [] up own = refl
  none_above n ((m, None) ∷ es) up own = none_above n es up.1 own.1
  none_above n ((m, Some item) ∷ es) up own =
      let is : number item ≡ m = own.0 in
      let lt : n < m = up.0 in
      ap (λ b. cond b (Some item) (item_of number n (held es))) (differs (number item) n (omega arith)) ∙ none_above n es up.1 own.1

  abbrev pub flat : Option (Option A) → Option A
  flat None = None
  flat (Some item) = item

  found : (n : ℕ) (es : List (ℕ × Option A)) → Rises es → Owns es → item_of number n (held es) ≡ flat (find nat_cmp n es)
  found n [] up own = refl
  found n ((m, None) ∷ es) up own =
      elim (n == m) as (λ b. (n == m) ≡ b → item_of number n (held es) ≡ flat (cond b (Some None) (find nat_cmp n es))) [
        | true ↦ λ e. none_above n es (subst (λ (k : ℕ). Above k es) (sym (eqb-true n m e)) up.0) own.1
        | false ↦ λ e. found n es up.1 own.1
      ] refl ∙ ap (λ b. flat (cond b (Some None) (find nat_cmp n es))) (sym (unsigned_tied n m))
  found n ((m, Some item) ∷ es) up own =
      let is : number item ≡ m = own.0 in
      elim (n == m) as (λ b. (n == m) ≡ b → cond (number item == n) (Some item) (item_of number n (held es)) ≡ flat (cond b (Some (Some item)) (find nat_cmp n es))) [
        | true ↦ λ e. let same = eqb-true n m e in ap (λ b. cond b (Some item) (item_of number n (held es))) (eq-eqb (number item) n (omega arith))
        | false ↦ λ e. ap (λ b. cond b (Some item) (item_of number n (held es))) (differs (number item) n (λ same. absurd (unequal n m e (sym same ∙ is)))) ∙ found n es up.1 own.1
      ] refl ∙ ap (λ b. flat (cond b (Some (Some item)) (find nat_cmp n es))) (sym (unsigned_tied n m))
    where
      unequal : (a b : ℕ) → (a == b) ≡ false → a ≡ b → ⊥
      unequal a b e same = let t = eq-eqb a b same in absurd cc

  -- ---- a put

  put_first : (new : A) (es : List (ℕ × Option A)) → Above (number new) es → Owns es → with_item number new (held es) ≡ new ∷ held es
  put_first new [] up own = refl
  put_first new ((m, None) ∷ es) up own = put_first new es up.1 own.1
  put_first new ((m, Some item) ∷ es) up own =
      let is : number item ≡ m = own.0 in
      let lt : number new < m = up.0 in
      ap (λ b. cond b (item ∷ with_item number new (held es)) (new ∷ item ∷ held es)) (le-ltb (number item) (number new) (omega arith))

  not_there : (n : ℕ) (item : A) (o : Option A) → cond (number item == n) (Some item) o ≡ None → (number item ≢ n) × (o ≡ None)
  not_there n item o e =
      elim (number item == n) as (λ b. (number item == n) ≡ b → cond b (Some item) o ≡ None → (number item ≢ n) × (o ≡ None)) [
        | true ↦ λ t none. absurd cc
        | false ↦ λ t none. (λ same. let u = eq-eqb (number item) n same in absurd cc, none)
      ] refl e

  held-put : (new : A) (es : List (ℕ × Option A)) → Rises es → Owns es → item_of number (number new) (held es) ≡ None → held (put nat_cmp (number new) (Some new) es) ≡ with_item number new (held es)
  held-put new [] up own none = refl
  held-put new ((m, None) ∷ es) up own none =
      elim (nat_cmp (number new) m) as (λ r. MatchOrdering r (number new < m) (number new ≡ m) (m < number new) → held (by_order r ((number new, Some new) ∷ (m, None) ∷ es) ((m, Some new) ∷ es) ((m, None) ∷ put nat_cmp (number new) (Some new) es)) ≡ with_item number new (held es)) [
        | Less ↦ λ lt. sym (put_first new es (Above-more (number new) m es lt up.0) own.1)
        | Equal ↦ λ same. sym (put_first new es (subst (λ (k : ℕ). Above k es) (sym same) up.0) own.1)
        | Greater ↦ λ lt. held-put new es up.1 own.1 none
      ] (ranks (number new) m)
  held-put new ((m, Some item) ∷ es) up own none =
      let is : number item ≡ m = own.0 in
      let apart = not_there (number new) item (item_of number (number new) (held es)) none in
      elim (nat_cmp (number new) m) as (λ r. MatchOrdering r (number new < m) (number new ≡ m) (m < number new) → held (by_order r ((number new, Some new) ∷ (m, Some item) ∷ es) ((m, Some new) ∷ es) ((m, Some item) ∷ put nat_cmp (number new) (Some new) es)) ≡ with_item number new (item ∷ held es)) [
        | Less ↦ λ lt. sym (put_first new ((m, Some item) ∷ es) (lt, Above-more (number new) m es lt up.0) own)
        | Equal ↦ λ same. absurd (apart.0 (is ∙ sym same))
        | Greater ↦ λ lt. ap (λ l. item ∷ l) (held-put new es up.1 own.1 apart.1) ∙ ap (λ b. cond b (item ∷ with_item number new (held es)) (new ∷ item ∷ held es)) (sym (lt-ltb (number item) (number new) (omega arith)))
      ] (ranks (number new) m)

  -- ---- a replacement

  replaced_none : (new : A) (es : List (ℕ × Option A)) → Above (number new) es → Owns es → with_replaced number new (held es) ≡ held es
  replaced_none new [] up own = refl
  replaced_none new ((m, None) ∷ es) up own = replaced_none new es up.1 own.1
  replaced_none new ((m, Some item) ∷ es) up own =
      let is : number item ≡ m = own.0 in
      let lt : number new < m = up.0 in
      ap (λ b. cond b new item ∷ with_replaced number new (held es)) (differs (number item) (number new) (omega arith)) ∙ ap (λ l. item ∷ l) (replaced_none new es up.1 own.1)

  held-replace : (new : A) (es : List (ℕ × Option A)) → Rises es → Owns es → is_some (item_of number (number new) (held es)) ≡ true → held (put nat_cmp (number new) (Some new) es) ≡ with_replaced number new (held es)
  held-replace new [] up own some = absurd cc
  held-replace new ((m, None) ∷ es) up own some =
      elim (nat_cmp (number new) m) as (λ r. MatchOrdering r (number new < m) (number new ≡ m) (m < number new) → held (by_order r ((number new, Some new) ∷ (m, None) ∷ es) ((m, Some new) ∷ es) ((m, None) ∷ put nat_cmp (number new) (Some new) es)) ≡ with_replaced number new (held es)) [
        | Less ↦ λ lt. absurd (let none = none_above (number new) es (Above-more (number new) m es lt up.0) own.1 in let no = sym (ap is_some none) ∙ some in cc)
        | Equal ↦ λ same. absurd (let none = none_above (number new) es (subst (λ (k : ℕ). Above k es) (sym same) up.0) own.1 in let no = sym (ap is_some none) ∙ some in cc)
        | Greater ↦ λ lt. held-replace new es up.1 own.1 some
      ] (ranks (number new) m)
  held-replace new ((m, Some item) ∷ es) up own some =
      let is : number item ≡ m = own.0 in
      let rest = held es in
      elim (nat_cmp (number new) m) as (λ r. MatchOrdering r (number new < m) (number new ≡ m) (m < number new) → held (by_order r ((number new, Some new) ∷ (m, Some item) ∷ es) ((m, Some new) ∷ es) ((m, Some item) ∷ put nat_cmp (number new) (Some new) es)) ≡ with_replaced number new (item ∷ held es)) [
        | Less ↦ λ lt. absurd (let none = none_above (number new) ((m, Some item) ∷ es) (lt, Above-more (number new) m es lt up.0) own in let no = sym (ap is_some none) ∙ some in cc)
        | Equal ↦ λ same.
            ap (λ l. new ∷ l) (sym (replaced_none new es (subst (λ (k : ℕ). Above k es) (sym same) up.0) own.1))
            ∙ ap (λ b. cond b new item ∷ with_replaced number new rest) (sym (eq-eqb (number item) (number new) (omega arith)))
        | Greater ↦ λ lt.
            let no = differs (number item) (number new) (omega arith) in
            let later = sym (ap (λ b. is_some (cond b (Some item) (item_of number (number new) rest))) no) ∙ some in
            ap (λ l. item ∷ l) (held-replace new es up.1 own.1 later) ∙ ap (λ b. cond b new item ∷ with_replaced number new rest) (sym no)
      ] (ranks (number new) m)

  -- ---- a taking

  untouched : (n : ℕ) (es : List (ℕ × Option A)) → Above n es → Owns es → without_item number n (held es) ≡ held es
  untouched n [] up own = refl
  untouched n ((m, None) ∷ es) up own = untouched n es up.1 own.1
  untouched n ((m, Some item) ∷ es) up own =
      let is : number item ≡ m = own.0 in
      let lt : n < m = up.0 in
      ap (λ b. cond (not b) (item ∷ without_item number n (held es)) (without_item number n (held es))) (differs (number item) n (omega arith)) ∙ ap (λ l. item ∷ l) (untouched n es up.1 own.1)

  held-take : (n : ℕ) (es : List (ℕ × Option A)) → Rises es → Owns es → held (put nat_cmp n None es) ≡ without_item number n (held es)
  held-take n [] up own = refl
  held-take n ((m, None) ∷ es) up own =
      elim (nat_cmp n m) as (λ r. MatchOrdering r (n < m) (n ≡ m) (m < n) → held (by_order r ((n, None) ∷ (m, None) ∷ es) ((m, None) ∷ es) ((m, None) ∷ put nat_cmp n None es)) ≡ without_item number n (held es)) [
        | Less ↦ λ lt. sym (untouched n es (Above-more n m es lt up.0) own.1)
        | Equal ↦ λ same. sym (untouched n es (subst (λ (k : ℕ). Above k es) (sym same) up.0) own.1)
        | Greater ↦ λ lt. held-take n es up.1 own.1
      ] (ranks n m)
  held-take n ((m, Some item) ∷ es) up own =
      let is : number item ≡ m = own.0 in
      elim (nat_cmp n m) as (λ r. MatchOrdering r (n < m) (n ≡ m) (m < n) → held (by_order r ((n, None) ∷ (m, Some item) ∷ es) ((m, None) ∷ es) ((m, Some item) ∷ put nat_cmp n None es)) ≡ without_item number n (item ∷ held es)) [
        | Less ↦ λ lt. sym (untouched n ((m, Some item) ∷ es) (lt, Above-more n m es lt up.0) own)
        | Equal ↦ λ same. sym (ap (λ b. cond (not b) (item ∷ without_item number n (held es)) (without_item number n (held es))) (eq-eqb (number item) n (omega arith)) ∙ untouched n es (subst (λ (k : ℕ). Above k es) (sym same) up.0) own.1)
        | Greater ↦ λ lt. ap (λ l. item ∷ l) (held-take n es up.1 own.1) ∙ ap (λ b. cond (not b) (item ∷ without_item number n (held es)) (without_item number n (held es))) (sym (differs (number item) n (omega arith)))
      ] (ranks n m)

  -- without a number that no element has
  pub without_none : (n : ℕ) (items : List A) → item_of number n items ≡ None → without_item number n items ≡ items
  without_none n [] none = refl
  without_none n (item ∷ items) none =
      let apart = not_there n item (item_of number n items) none in
      ap (λ b. cond (not b) (item ∷ without_item number n items) (without_item number n items)) (differs (number item) n apart.0) ∙ ap (λ l. item ∷ l) (without_none n items apart.1)

  -- and nothing is replaced
  pub replaced_absent : (new : A) (items : List A) → item_of number (number new) items ≡ None → with_replaced number new items ≡ items
  replaced_absent new [] none = refl
  replaced_absent new (item ∷ items) none =
      let apart = not_there (number new) item (item_of number (number new) items) none in
      ap (λ b. cond b new item ∷ with_replaced number new items) (differs (number item) (number new) apart.0) ∙ ap (λ l. item ∷ l) (replaced_absent new items apart.1)

  -- ---- the elements ascend

  each_above : (n : ℕ) (es : List (ℕ × Option A)) → Above n es → Owns es → All (λ later. n < number later) (held es)
  each_above n [] up own = All-nil (λ (later : A). n < number later)
  each_above n ((m, None) ∷ es) up own = each_above n es up.1 own.1
  each_above n ((m, Some item) ∷ es) up own =
      let is : number item ≡ m = own.0 in
      let lt : n < m = up.0 in
      All-cons (λ (later : A). n < number later) item (held es) (omega arith) (each_above n es up.1 own.1)

  ascends : (es : List (ℕ × Option A)) → Rises es → Owns es → AscendsByNumber number (held es)
  ascends [] up own = tt
  ascends ((m, None) ∷ es) up own = ascends es up.1 own.1
  ascends ((m, Some item) ∷ es) up own = (subst (λ (n : ℕ). All (λ later. n < number later) (held es)) (sym own.0) (each_above m es up.0 own.1), ascends es up.1 own.1)

  -- a taking takes one
  none_past : (n : ℕ) (items : List A) → All (λ later. n < number later) items → item_of number n items ≡ None
  none_past n [] all = refl
  none_past n (item ∷ items) all =
      let lt : n < number item = All-head (λ (later : A). n < number later) item items all in
      ap (λ b. cond b (Some item) (item_of number n items)) (differs (number item) n (omega arith)) ∙ none_past n items (All-tail (λ (later : A). n < number later) item items all)

  length-without_item : (n : ℕ) (item : A) (items : List A) → AscendsByNumber number items → item_of number n items ≡ Some item → length (without_item number n items) + 1 ≡ length items
  length-without_item n item [] up is = absurd cc
  length-without_item n item (first ∷ items) up is =
      elim (number first == n) as (λ b. (number first == n) ≡ b → cond b (Some first) (item_of number n items) ≡ Some item → length (cond (not b) (first ∷ without_item number n items) (without_item number n items)) + 1 ≡ suc (length items)) [
        | true ↦ λ e _.
            let same = without_none n items (none_past n items (subst (λ (k : ℕ). All (λ later. k < number later) items) (eqb-true (number first) n e) up.0)) in
            let long = ap length same in
            omega arith
        | false ↦ λ e some. let rest = length-without_item n item items up.1 some in omega arith
      ] refl is

  some_length : (n : ℕ) (item : A) (items : List A) → item_of number n items ≡ Some item → 0 < length items
  some_length n item [] is = absurd cc
  some_length n item (first ∷ items) is = omega arith

  length-items_of : (slots : List (Slot A)) → length (items_of slots) ≤ length slots
  length-items_of [] = omega arith
  length-items_of (slot ∷ slots) =
      let rest = length-items_of slots in
      elim slot.item as (λ o. length (cons_option o (items_of slots)) ≤ suc (length slots)) [ None ↦ omega arith | Some item ↦ omega arith ]

  the : (o : Option A) → is_some o ≡ true → (item : A) × (o ≡ Some item)
  the None e = absurd cc
  the (Some item) e = (item, refl)

  -- ---- slots

  module _ (slots : List (Slot A)) (count : ℕ) (are : AreSlots number slots count) where
    abbrev es : List (ℕ × Option A)
    es = map number_and_item slots

    rises : Rises es
    rises = Rises-from es (T-from _ are.ascending)

    owns : Owns es
    owns = Owns-from es are.own

    pub slots_ascend : AscendsByNumber number (items_of slots)
    slots_ascend = subst (AscendsByNumber number) (sym (items-held slots)) (ascends es rises owns)

    slots_find : (n : ℕ) → item_of number n (items_of slots) ≡ flat (find nat_cmp n es)
    slots_find n = ap (item_of number n) (items-held slots) ∙ found n es rises owns

    pub slots_at : (n place : ℕ) (slot : Slot A) → IsAt nat_cmp es n place → slot ≡ get_or slots place slot → item_of number n (items_of slots) ≡ slot.item
    slots_at n place slot is read =
        let lt = in_slots nat_cmp_total nat_cmp-IsAntisymmetric number_and_item slots n place is in
        slots_find n ∙ ap flat (find_at nat_cmp_total n es place (number_and_item slot) is.within is.before is.at ∙ ap (λ (e : ℕ × Option A). Some e.1) (get_or-map number_and_item slots place slot (number_and_item slot) lt ∙ ap number_and_item (sym read)))

    pub slots_gap : (n place : ℕ) → IsGap nat_cmp es n place → item_of number n (items_of slots) ≡ None
    slots_gap n place is = slots_find n ∙ ap flat (find_in_gap nat_cmp_total n es place is.within is.before is.after)

    pub slots_within : count ≤ length slots
    slots_within = let le = length-items_of slots in let is = are.count in omega arith

    module _ (news : List (Slot A)) (new : A) (n : ℕ) (is : n ≡ number new) (put_so : map number_and_item news ≡ put nat_cmp n (Some new) es) (none : item_of number (number new) (items_of slots) ≡ None) where
      made : map number_and_item news ≡ put nat_cmp (number new) (Some new) es
      made = put_so ∙ ap (λ k. put nat_cmp k (Some new) es) is

      pub items-put : items_of news ≡ with_item number new (items_of slots)
      items-put = items-held news ∙ ap held made ∙ held-put new es rises owns (ap (item_of number (number new)) (sym (items-held slots)) ∙ none) ∙ ap (with_item number new) (sym (items-held slots))

      pub slots-put : AreSlots number news (count + 1)
      slots-put = record {
        ascending = T-to _ (subst (λ l. T (is_sorted nat_cmp l)) (sym made) (is_sorted-put nat_cmp nat_cmp_total (number new) (Some new) es (T-from _ are.ascending)));
        own = subst (All (λ e. IfSome e.1 (λ item. number item ≡ e.0))) (sym made) (All-put nat_cmp_total nat_cmp-IsAntisymmetric (λ e. IfSome e.1 (λ item. number item ≡ e.0)) (number new) (Some new) es refl are.own);
        count = let was = are.count in let long = ap length items-put ∙ length-with number new (items_of slots) in omega arith;
      }

    module _ (news : List (Slot A)) (new : A) (put_so : map number_and_item news ≡ put nat_cmp (number new) (Some new) es) (some : is_some (item_of number (number new) (items_of slots)) ≡ true) where
      pub items-replace : items_of news ≡ with_replaced number new (items_of slots)
      items-replace =
          items-held news ∙ ap held put_so ∙ held-replace new es rises owns (ap (λ l. is_some (item_of number (number new) l)) (sym (items-held slots)) ∙ some)
          ∙ ap (with_replaced number new) (sym (items-held slots))

      pub slots-replace : AreSlots number news count
      slots-replace = record {
        ascending = T-to _ (subst (λ l. T (is_sorted nat_cmp l)) (sym put_so) (is_sorted-put nat_cmp nat_cmp_total (number new) (Some new) es (T-from _ are.ascending)));
        own = subst (All (λ e. IfSome e.1 (λ item. number item ≡ e.0))) (sym put_so) (All-put nat_cmp_total nat_cmp-IsAntisymmetric (λ e. IfSome e.1 (λ item. number item ≡ e.0)) (number new) (Some new) es refl are.own);
        count = are.count ∙ sym (ap length items-replace ∙ length-map (items_of slots) (λ item. cond (number item == number new) new item));
      }

    module _ (news : List (Slot A)) (n : ℕ) (made : map number_and_item news ≡ put nat_cmp n None es) where
      pub items-take : items_of news ≡ without_item number n (items_of slots)
      items-take = items-held news ∙ ap held made ∙ held-take n es rises owns ∙ ap (without_item number n) (sym (items-held slots))

      slots-left : (left : ℕ) → left ≡ length (items_of news) → AreSlots number news left
      slots-left left is = record {
        ascending = T-to _ (subst (λ l. T (is_sorted nat_cmp l)) (sym made) (is_sorted-put nat_cmp nat_cmp_total n None es (T-from _ are.ascending)));
        own = subst (All (λ e. IfSome e.1 (λ item. number item ≡ e.0))) (sym made) (All-put nat_cmp_total nat_cmp-IsAntisymmetric (λ e. IfSome e.1 (λ item. number item ≡ e.0)) n None es tt are.own);
        count = is;
      }

      pub slots-take : (less : ℕ) → is_some (item_of number n (items_of slots)) ≡ true → less + 1 ≡ count → AreSlots number news less
      slots-take less some one =
          let item = the (item_of number n (items_of slots)) some in
          let long = length-without_item n item.0 (items_of slots) slots_ascend item.1 in
          let same = ap length items-take in
          let was = are.count in
          slots-left less (omega arith)

    pub taken_some : (n : ℕ) → is_some (item_of number n (items_of slots)) ≡ true → 0 < count
    taken_some n some =
        let item = the (item_of number n (items_of slots)) some in
        let long = some_length n item.0 (items_of slots) item.1 in
        let was = are.count in
        omega arith

  -- ---- a sweep

  swept : (slots : List (Slot A)) → items_of (filter (λ slot. is_some slot.item) slots) ≡ items_of slots
  swept [] = refl
  swept (slot ∷ slots) =
      let rest = swept slots in
      elim slot.item as (λ o. slot.item ≡ o → items_of (cond (is_some o) (slot ∷ filter (λ slot. is_some slot.item) slots) (filter (λ slot. is_some slot.item) slots)) ≡ cons_option o (items_of slots)) [
        | None ↦ λ _. rest
        | Some item ↦ λ e. ap (λ o. cons_option o (items_of (filter (λ slot. is_some slot.item) slots))) e ∙ ap (λ l. item ∷ l) rest
      ] refl

  pub length-swept : (slots : List (Slot A)) → length (filter (λ slot. is_some slot.item) slots) ≡ length (items_of slots)
  length-swept [] = refl
  length-swept (slot ∷ slots) =
      let rest = length-swept slots in
      elim slot.item as (λ o. length (cond (is_some o) (slot ∷ filter (λ slot. is_some slot.item) slots) (filter (λ slot. is_some slot.item) slots)) ≡ length (cons_option o (items_of slots))) [
        | None ↦ rest
        | Some item ↦ omega (arith, rest)
      ]

  Above-swept : (n : ℕ) (slots : List (Slot A)) → Above n (map number_and_item slots) → Above n (map number_and_item (filter (λ slot. is_some slot.item) slots))
  Above-swept n [] up = tt
  Above-swept n (slot ∷ slots) up =
      let rest = Above-swept n slots up.1 in
      elim (is_some slot.item) as (λ b. Above n (map number_and_item (cond b (slot ∷ filter (λ slot. is_some slot.item) slots) (filter (λ slot. is_some slot.item) slots)))) [ true ↦ (up.0, rest) | false ↦ rest ]

  Rises-swept : (slots : List (Slot A)) → Rises (map number_and_item slots) → Rises (map number_and_item (filter (λ slot. is_some slot.item) slots))
  Rises-swept [] up = tt
  Rises-swept (slot ∷ slots) up =
      let rest = Rises-swept slots up.1 in
      elim (is_some slot.item) as (λ b. Rises (map number_and_item (cond b (slot ∷ filter (λ slot. is_some slot.item) slots) (filter (λ slot. is_some slot.item) slots)))) [ true ↦ (Above-swept slot.number slots up.0, rest) | false ↦ rest ]

  owned-swept : (slots : List (Slot A)) → All (λ e. IfSome e.1 (λ item. number item ≡ e.0)) (map number_and_item slots) → All (λ e. IfSome e.1 (λ item. number item ≡ e.0)) (map number_and_item (filter (λ slot. is_some slot.item) slots))
  owned-swept [] all = all
  owned-swept (slot ∷ slots) all =
      let one = All-head (λ (e : ℕ × Option A). IfSome e.1 (λ item. number item ≡ e.0)) (number_and_item slot) (map number_and_item slots) all in
      let rest = owned-swept slots (All-tail (λ (e : ℕ × Option A). IfSome e.1 (λ item. number item ≡ e.0)) (number_and_item slot) (map number_and_item slots) all) in
      elim (is_some slot.item) as (λ b. All (λ e. IfSome e.1 (λ item. number item ≡ e.0)) (map number_and_item (cond b (slot ∷ filter (λ slot. is_some slot.item) slots) (filter (λ slot. is_some slot.item) slots)))) [
        | true ↦ All-cons (λ (e : ℕ × Option A). IfSome e.1 (λ item. number item ≡ e.0)) (number_and_item slot) _ one rest
        | false ↦ rest
      ]

  pub items-swept : (slots news : List (Slot A)) → news ≡ filter (λ slot. is_some slot.item) slots → items_of news ≡ items_of slots
  items-swept slots news e = ap items_of e ∙ swept slots

  pub slots-swept : (slots news : List (Slot A)) (count : ℕ) → news ≡ filter (λ slot. is_some slot.item) slots → AreSlots number slots count → AreSlots number news count
  slots-swept slots news count e are = subst (λ (l : List (Slot A)). AreSlots number l count) (sym e) (record {
    ascending = T-to _ (Rises-to _ (Rises-swept slots (Rises-from _ (T-from _ are.ascending))));
    own = owned-swept slots are.own;
    count = are.count ∙ ap length (sym (swept slots));
  })

  -- ---- many are put

  swept_full : (slots : List (Slot A)) → Owns (map number_and_item slots) → filter (λ slot. is_some slot.item) slots ≡ map (slot_of number) (items_of slots)
  swept_full [] own = refl
  swept_full (slot ∷ slots) own =
      let rest = swept_full slots own.1 in
      elim slot.item as (λ o. slot.item ≡ o → IfSome o (λ item. number item ≡ slot.number) → cond (is_some o) (slot ∷ filter (λ slot. is_some slot.item) slots) (filter (λ slot. is_some slot.item) slots) ≡ map (slot_of number) (cons_option o (items_of slots))) [
        | None ↦ λ _ _. rest
        | Some item ↦ λ e is.
            let own_number : slot.number ≡ number item = sym is in
            let same : slot ≡ slot_of number item = λ i. record { number = own_number i; item = e i } in
            λ i. same i ∷ rest i
      ] refl own.0

  pub items-full : (items : List A) → items_of (map (slot_of number) items) ≡ items
  items-full [] = refl
  items-full (item ∷ items) = ap (λ l. item ∷ l) (items-full items)

  full_above : (n : ℕ) (items : List A) → All (λ later. n < number later) items → Above n (map number_and_item (map (slot_of number) items))
  full_above n [] above = tt
  full_above n (item ∷ items) above = (All-head (λ later. n < number later) item items above, full_above n items (All-tail (λ later. n < number later) item items above))

  full_rises : (items : List A) → AscendsByNumber number items → Rises (map number_and_item (map (slot_of number) items))
  full_rises [] up = tt
  full_rises (item ∷ items) up = (full_above (number item) items up.0, full_rises items up.1)

  full_own : (items : List A) → All (λ e. IfSome e.1 (λ item. number item ≡ e.0)) (map number_and_item (map (slot_of number) items))
  full_own [] = All-nil (λ (e : ℕ × Option A). IfSome e.1 (λ item. number item ≡ e.0))
  full_own (item ∷ items) = All-cons (λ (e : ℕ × Option A). IfSome e.1 (λ item. number item ≡ e.0)) (number item, Some item) _ refl (full_own items)

  abbrev by_slot : Slot A → ℕ
  by_slot slot = slot.number

  item_of-full : (n : ℕ) (items : List A) → item_of by_slot n (map (slot_of number) items) ≡ option_map (slot_of number) (item_of number n items)
  item_of-full n [] = refl
  item_of-full n (item ∷ items) =
      elim (number item == n) as (λ b. cond b (Some (slot_of number item)) (item_of by_slot n (map (slot_of number) items)) ≡ option_map (slot_of number) (cond b (Some item) (item_of number n items))) [
        | true ↦ refl
        | false ↦ item_of-full n items
      ]

  with-full : (new : A) (items : List A) → with_item by_slot (slot_of number new) (map (slot_of number) items) ≡ map (slot_of number) (with_item number new items)
  with-full new [] = refl
  with-full new (item ∷ items) =
      elim (nat_lt (number item) (number new)) as (λ b. cond b (slot_of number item ∷ with_item by_slot (slot_of number new) (map (slot_of number) items)) (slot_of number new ∷ slot_of number item ∷ map (slot_of number) items) ≡ map (slot_of number) (cond b (item ∷ with_item number new items) (new ∷ item ∷ items))) [
        | true ↦ ap (λ l. slot_of number item ∷ l) (with-full new items)
        | false ↦ refl
      ]

  with_all-full : (news items : List A) → with_items by_slot (map (slot_of number) news) (map (slot_of number) items) ≡ map (slot_of number) (with_items number news items)
  with_all-full [] items = refl
  with_all-full (new ∷ news) items = ap (with_items by_slot (map (slot_of number) news)) (with-full new items) ∙ with_all-full news (with_item number new items)

  new-full : (news items : List A) → AreNew number news items → AreNew by_slot (map (slot_of number) news) (map (slot_of number) items)
  new-full [] items new = tt
  new-full (a ∷ news) items new = (
    item_of-full (number a) items ∙ ap (option_map (slot_of number)) new.0,
    subst (AreNew by_slot (map (slot_of number) news)) (sym (with-full a items)) (new-full news (with_item number a items) new.1),
  )

  ascends-full : (items : List A) → AscendsByNumber number items → AscendsByNumber by_slot (map (slot_of number) items)
  ascends-full [] up = tt
  ascends-full (item ∷ items) up = (All-map (λ (later : Slot A). number item < later.number) (slot_of number) items up.0, ascends-full items up.1)

  module _ (slots sorted : List (Slot A)) (count : ℕ) (news : List A) (are : AreSlots number slots count) (new : AreNew number news (items_of slots))
      (moved : IsPermutation (filter (λ slot. is_some slot.item) slots ++ map (slot_of number) news) sorted) (is_sorted : IsSortedByKey (λ slot. slot.number) nat_cmp sorted) where
    full : sorted ≡ map (slot_of number) (with_items number news (items_of slots))
    full =
        let items = items_of slots in
        let swept_so = swept_full slots (owns slots count are) in
        sorted_joins by_slot (map (slot_of number) news) (map (slot_of number) items) sorted (ascends-full items (slots_ascend slots count are)) (new-full news items new)
        (subst (λ (l : List (Slot A)). IsPermutation (l ++ map (slot_of number) news) sorted) swept_so moved) is_sorted
        ∙ with_all-full news items

    pub items-joined : items_of sorted ≡ with_items number news (items_of slots)
    items-joined = ap items_of full ∙ items-full (with_items number news (items_of slots))

    pub slots-joined : AreSlots number sorted (count + length news)
    slots-joined =
        let joined = with_items number news (items_of slots) in
        let up = ascends-with_items number news (items_of slots) new (slots_ascend slots count are) in
        subst (λ (l : List (Slot A)). AreSlots number l (count + length news)) (sym full) (record {
          ascending = T-to _ (Rises-to _ (full_rises joined up));
          own = full_own joined;
          count = let was = are.count in let long = length-with_items number news (items_of slots) in let same = ap length (items-full joined) in omega arith;
        })
