-- What pairs say of the attributes that they hold, and what an edit leaves of them.
use Rattle.std.proofs.Common.{◌≡◌, ℕ, zero, suc, ◌+◌, ◌-◌, ◌<◌, ◌≤◌, ◌==◌, nat_lt, Bool, true, false, cond, not, List, [], ◌∷◌, ◌++◌, length, map, take, drop, get_or, set, slice_get, sum_by, IsTrue, Less, Equal, Greater, Option, Some, None, Result, Ok, Err, IfOk, IfErr, is_some, refl, sym, ◌∙◌, ap, subst, arith}
use lib.Dec.{T}
use Rattle.std.specs.Option.{option_map}
use Rattle.std.specs.Ordering.{nat_cmp, ordering_index, eq_by_cmp}
use Rattle.std.specs.Cmp.{IsTotalOrder, tied_itself}
use Rattle.std.specs.Cmp.Lexicographic.{slice_cmp, nat_list_cmp_total}
use Rattle.std.specs.List.{All, AllWithin, HoldsAt, insert, remove, filter}
use Rattle.std.specs.FinMap as finite
use Rattle.std.specs.FinMap.{IsAntisymmetric, slice_cmp-IsAntisymmetric, nat_cmp-IsAntisymmetric, entries, get, contains_key, len, retain_keys, entries-from_sorted, get-from_sorted, len-entries, from_sorted, put, is_sorted}
use Rattle.std.specs.FinMap.Entries.{where_key, is_sorted-put, is_sorted-where_key}
use Rattle.std.proofs.lemmas.List.{get_or-map, length-map, map-append, take-map, drop-map}
use Rattle.std.specs.Str.{IsUtf8}
use Rattle.std.proofs.lemmas.Option.{slice_get-map, slice_get-get_or, slice_get_past}
use Rattle.std.proofs.lemmas.List.Elements.{All-filter, All-head, All-tail}
use Rattle.std.proofs.lemmas.List.Sums.{sum_by-cons, sum_by_more_le, sum_by-set, sum_by-insert, sum_by-remove, get_or-le-sum_by}
use Rattle.flowfile_record.specs.Attributes.{AttributeMap, IsPair, IsWithinLimits, encoded_size, pair_size, shared}
use Rattle.flowfile_record.specs.OptionalText.{same_text}
use Rattle.flowfile_record.specs.HeldPairs.{key_and_value, map_of, IsHeld}
use Rattle.flowfile_record.specs.Places.{IsAt, IsGap}
use Rattle.flowfile_record.proofs.Search.{in_slots, key_at, put_over as put_there, put_new as put_between}
use Rattle.flowfile_record.specs.declared.attributes.Pair.{Pair}
use Rattle.flowfile_record.specs.declared.attributes.TheConstants.{ATTRIBUTES_MAX, COUNT_SIZE}
use Rattle.flowfile_record.proofs.Entries.{T-from, T-to, put_in_gap, put_at, where_key_without, find_in_gap, find_at, finds_each, All-put, insert-from_sorted, retain_keys-from_sorted, remove-from_sorted}

abbrev pub order : IsTotalOrder (slice_cmp nat_cmp)
order = nat_list_cmp_total

pub same : IsAntisymmetric (slice_cmp nat_cmp)
same = slice_cmp-IsAntisymmetric nat_cmp-IsAntisymmetric

-- ---- the attributes that pairs hold

module _ (pairs : List Pair) (size : ℕ) (held : IsHeld pairs size) where
  pub sorted : T (is_sorted (slice_cmp nat_cmp) (map key_and_value pairs))
  sorted = T-from _ held.ascending

  pub entries-map_of : entries (map_of pairs) ≡ map key_and_value pairs
  entries-map_of = entries-from_sorted (slice_cmp nat_cmp) _ sorted

  pub encoded_size-map_of : size ≡ encoded_size (map_of pairs)
  unfolding encoded_size
  encoded_size-map_of = held.size_is ∙ ap (λ es. sum_by pair_size es + COUNT_SIZE) (sym entries-map_of)

  pub limits : IsWithinLimits (map_of pairs)
  limits = record { pairs = subst (All IsPair) (sym entries-map_of) held.each; size = subst (λ (n : ℕ). n ≤ ATTRIBUTES_MAX) encoded_size-map_of held.within }

  pub len-map_of : length pairs ≡ len (map_of pairs)
  len-map_of = sym (len-entries _ ∙ ap length entries-map_of ∙ length-map pairs key_and_value)

  pub get_of_place : (key : List ℕ) (place : ℕ) (pair : Pair) → IsAt (slice_cmp nat_cmp) (map key_and_value pairs) key place → place < length pairs → pair ≡ get_or pairs place pair → get (map_of pairs) key ≡ Some pair.value
  get_of_place key place pair is lt read =
      get-from_sorted (slice_cmp nat_cmp) _ key sorted ∙ find_at order key _ place (key_and_value pair) is.within is.before is.at
      ∙ ap (λ (e : List ℕ × List ℕ). Some e.1) (get_or-map key_and_value pairs place pair (key_and_value pair) lt ∙ ap key_and_value (sym read))

  pub get_of_gap : (key : List ℕ) (place : ℕ) → IsGap (slice_cmp nat_cmp) (map key_and_value pairs) key place → get (map_of pairs) key ≡ None
  get_of_gap key place is = get-from_sorted (slice_cmp nat_cmp) _ key sorted ∙ find_in_gap order key _ place is.within is.before is.after

pub slice_get-map_of : (pairs : List Pair) (size place : ℕ) → IsHeld pairs size → slice_get (entries (map_of pairs)) place ≡ option_map key_and_value (slice_get pairs place)
slice_get-map_of pairs size place held = ap (λ es. slice_get es place) (entries-map_of pairs size held) ∙ slice_get-map key_and_value pairs place

pub pair_at : (pairs : List Pair) (size place : ℕ) (pair : Pair) → IsHeld pairs size → place < length pairs → pair ≡ get_or pairs place pair → ◌≡◌ {A = Option (List ℕ × List ℕ)} (Some (pair.key, pair.value)) (slice_get (entries (map_of pairs)) place)
pair_at pairs size place pair held lt read = sym (slice_get-map_of pairs size place held ∙ ap (option_map key_and_value) (slice_get-get_or pairs place pair lt ∙ ap Some (sym read)))

pub pair_past : (pairs : List Pair) (size place : ℕ) → IsHeld pairs size → length pairs ≤ place → None ≡ slice_get (entries (map_of pairs)) place
pair_past pairs size place held le = sym (slice_get-map_of pairs size place held ∙ ap (option_map key_and_value) (slice_get_past pairs place le))

-- ---- a put

module _ (pairs : List Pair) (key value : List ℕ) (place : ℕ) where
  same_key : (pair : Pair) → IsAt (slice_cmp nat_cmp) (map key_and_value pairs) key place → place < length pairs → pair ≡ get_or pairs place pair → pair.key ≡ key
  same_key pair is lt read = key_at order same key_and_value pairs key place pair is read

  pub put_over : (pair new : Pair) → IsAt (slice_cmp nat_cmp) (map key_and_value pairs) key place → place < length pairs → pair ≡ get_or pairs place pair → key_and_value new ≡ (key, value) → map key_and_value (set pairs place new) ≡ put (slice_cmp nat_cmp) key value (map key_and_value pairs)
  put_over pair new is lt read made =
      put_there order same key_and_value pairs key place pair new value is read (made ∙ ap (λ (k : List ℕ). (k, value)) (sym (same_key pair is lt read)))

  pub put_new : (new : Pair) → IsGap (slice_cmp nat_cmp) (map key_and_value pairs) key place → key_and_value new ≡ (key, value) → map key_and_value (insert pairs place new) ≡ put (slice_cmp nat_cmp) key value (map key_and_value pairs)
  put_new new is made = put_between order same key_and_value pairs key place new value is made

  pub size_over : (pair : Pair) → IsAt (slice_cmp nat_cmp) (map key_and_value pairs) key place → place < length pairs → pair ≡ get_or pairs place pair → sum_by pair_size (put (slice_cmp nat_cmp) key value (map key_and_value pairs)) + length pair.value ≡ sum_by pair_size (map key_and_value pairs) + length value
  size_over pair is lt read =
      let es = map key_and_value pairs in
      let e = put_at order same key value es place is.within is.before is.at in
      let summed = sum_by-set pair_size es place (key, value) (key_and_value pair) is.within in
      let old : get_or es place (key_and_value pair) ≡ key_and_value pair = get_or-map key_and_value pairs place pair (key_and_value pair) lt ∙ ap key_and_value (sym read) in
      let all : sum_by pair_size (set es place (key, value)) + pair_size (key_and_value pair) ≡ sum_by pair_size es + pair_size (key, value) = subst (λ (d : List ℕ × List ℕ). sum_by pair_size (set es place (key, value)) + pair_size d ≡ sum_by pair_size es + pair_size (key, value)) old summed in
      let keys : length pair.key ≡ length key = ap length (same_key pair is lt read) in
      subst (λ l. sum_by pair_size l + length pair.value ≡ sum_by pair_size es + length value) (sym e) (omega arith)

  pub size_new : IsGap (slice_cmp nat_cmp) (map key_and_value pairs) key place → sum_by pair_size (put (slice_cmp nat_cmp) key value (map key_and_value pairs)) ≡ sum_by pair_size (map key_and_value pairs) + pair_size (key, value)
  size_new is =
      ap (sum_by pair_size) (put_in_gap order key value _ place is.within is.before is.after) ∙ sum_by-insert pair_size (map key_and_value pairs) place (key, value)

-- what one pair takes is part of the whole
pub size_within : (pairs : List Pair) (place : ℕ) (pair : Pair) → place < length pairs → pair ≡ get_or pairs place pair → pair_size (key_and_value pair) ≤ sum_by pair_size (map key_and_value pairs)
size_within pairs place pair lt read =
    let long : length (map key_and_value pairs) ≡ length pairs = length-map pairs key_and_value in
    subst (λ (e : List ℕ × List ℕ). pair_size e ≤ sum_by pair_size (map key_and_value pairs)) (get_or-map key_and_value pairs place pair (key_and_value pair) lt ∙ ap key_and_value (sym read)) (get_or-le-sum_by pair_size (map key_and_value pairs) place (key_and_value pair) (omega arith))

pub insert-map_of : (pairs : List Pair) (size : ℕ) (key value : List ℕ) → IsHeld pairs size → finite.insert (map_of pairs) key value ≡ from_sorted (put (slice_cmp nat_cmp) key value (map key_and_value pairs))
insert-map_of pairs size key value held = insert-from_sorted order key value _ (sorted pairs size held)

pub size_of_put : (pairs : List Pair) (size : ℕ) (key value : List ℕ) → IsHeld pairs size → sum_by pair_size (put (slice_cmp nat_cmp) key value (map key_and_value pairs)) + COUNT_SIZE ≡ encoded_size (finite.insert (map_of pairs) key value)
unfolding encoded_size
size_of_put pairs size key value held =
    ap (λ es. sum_by pair_size es + COUNT_SIZE) (sym (finite.entries-insert order (map_of pairs) key value ∙ ap (put (slice_cmp nat_cmp) key value) (entries-map_of pairs size held)))

pub put_held : (pairs news : List Pair) (size more : ℕ) (key value : List ℕ) → IsHeld pairs size → IsPair (key, value) → map key_and_value news ≡ put (slice_cmp nat_cmp) key value (map key_and_value pairs) → more ≡ sum_by pair_size (put (slice_cmp nat_cmp) key value (map key_and_value pairs)) + COUNT_SIZE → more ≤ ATTRIBUTES_MAX → IsHeld news more
put_held pairs news size more key value held one are summed le = record {
  ascending = T-to _ (subst (λ es. T (is_sorted (slice_cmp nat_cmp) es)) (sym are) (is_sorted-put (slice_cmp nat_cmp) order key value _ (sorted pairs size held)));
  each = subst (All IsPair) (sym are) (All-put order same IsPair key value _ one held.each);
  size_is = summed ∙ ap (λ es. sum_by pair_size es + COUNT_SIZE) (sym are);
  within = le;
}

-- ---- a removal

module _ (pairs : List Pair) (size : ℕ) (held : IsHeld pairs size) (key : List ℕ) (place : ℕ) (is : IsAt (slice_cmp nat_cmp) (map key_and_value pairs) key place) where
  left_by_remove : map key_and_value (remove pairs place) ≡ where_key (slice_cmp nat_cmp) (λ other. not (eq_by_cmp (slice_cmp nat_cmp) key other)) (map key_and_value pairs)
  left_by_remove =
      map-append key_and_value (take place pairs) _ ∙ ap (λ l. l ++ map key_and_value (drop (suc place) pairs)) (sym (take-map key_and_value place pairs)) ∙ ap (λ l. take place (map key_and_value pairs) ++ l) (sym (drop-map key_and_value (suc place) pairs))
      ∙ sym (where_key_without order key _ place is.within is.before is.at is.after)

  pub remove-map_of : finite.remove (map_of pairs) key ≡ map_of (remove pairs place)
  remove-map_of = remove-from_sorted order same key _ (sorted pairs size held) ∙ ap from_sorted (sym left_by_remove)

  pub remove_held : (pair : Pair) (less : ℕ) → place < length pairs → pair ≡ get_or pairs place pair → less + pair_size (key_and_value pair) ≡ size → IsHeld (remove pairs place) less
  remove_held pair less lt read summed =
      let es = map key_and_value pairs in
      let left = left_by_remove in
      let without = where_key_without order key es place is.within is.before is.at is.after in
      let old : get_or es place (key_and_value pair) ≡ key_and_value pair = get_or-map key_and_value pairs place pair (key_and_value pair) lt ∙ ap key_and_value (sym read) in
      let gone : sum_by pair_size (remove es place) + pair_size (key_and_value pair) ≡ sum_by pair_size es = subst (λ (d : List ℕ × List ℕ). sum_by pair_size (remove es place) + pair_size d ≡ sum_by pair_size es) old (sum_by-remove pair_size es place (key_and_value pair) is.within) in
      let total : size ≡ sum_by pair_size es + COUNT_SIZE = held.size_is in
      let most : size ≤ ATTRIBUTES_MAX = held.within in
      record {
        ascending = T-to _ (subst (λ l. T (is_sorted (slice_cmp nat_cmp) l)) (sym left) (is_sorted-where_key (slice_cmp nat_cmp) _ es (sorted pairs size held)));
        each = subst (All IsPair) (sym left) (All-filter _ IsPair es held.each);
        size_is = subst (λ l. less ≡ sum_by pair_size l + COUNT_SIZE) (sym (left ∙ without)) (omega arith);
        within = omega arith;
      }

-- ---- what stands in other attributes too

abbrev stands_in : finite.FinMap (slice_cmp nat_cmp) (List ℕ) → Pair → Bool
stands_in others pair = same_text (Some pair.value) (get others pair.key)

pick : (a b : Bool) (x : Pair) (xs : List Pair) (es : List (List ℕ × List ℕ)) → b ≡ a → map key_and_value xs ≡ es → map key_and_value (cond a (x ∷ xs) xs) ≡ cond b (key_and_value x ∷ es) es
pick true true x xs es e h = ap (λ l. key_and_value x ∷ l) h
pick true false x xs es e h = cc
pick false true x xs es e h = cc
pick false false x xs es e h = h

sum_by-filter-le : (test : List ℕ × List ℕ → Bool) (es : List (List ℕ × List ℕ)) → sum_by pair_size (filter test es) ≤ sum_by pair_size es
sum_by-filter-le test [] = omega arith
sum_by-filter-le test (e ∷ es) =
    let rest = sum_by-filter-le test es in
    let all : sum_by pair_size (e ∷ es) ≡ pair_size e + sum_by pair_size es = sum_by-cons pair_size e es in
    let some : sum_by pair_size (e ∷ filter test es) ≡ pair_size e + sum_by pair_size (filter test es) = sum_by-cons pair_size e (filter test es) in
    elim (test e) as (λ b. sum_by pair_size (cond b (e ∷ filter test es) (filter test es)) ≤ sum_by pair_size (e ∷ es)) [ true ↦ omega arith | false ↦ omega arith ]

filter_kept : (these others : finite.FinMap (slice_cmp nat_cmp) (List ℕ)) (pairs : List Pair) → All (λ e. get these e.0 ≡ Some e.1) (map key_and_value pairs) → map key_and_value (filter (stands_in others) pairs) ≡ where_key (slice_cmp nat_cmp) (λ key. same_text (get these key) (get others key)) (map key_and_value pairs)
filter_kept these others [] all = refl
filter_kept these others (pair ∷ pairs) all =
    let found : get these pair.key ≡ Some pair.value = All-head (λ (e : List ℕ × List ℕ). get these e.0 ≡ Some e.1) (key_and_value pair) (map key_and_value pairs) all in
    pick (stands_in others pair) _ pair (filter (stands_in others) pairs) _ (ap (λ o. same_text o (get others pair.key)) found) (filter_kept these others pairs (All-tail (λ (e : List ℕ × List ℕ). get these e.0 ≡ Some e.1) (key_and_value pair) (map key_and_value pairs) all))

module _ (pairs : List Pair) (size : ℕ) (held : IsHeld pairs size) (others : finite.FinMap (slice_cmp nat_cmp) (List ℕ)) where
  kept : map key_and_value (filter (stands_in others) pairs) ≡ where_key (slice_cmp nat_cmp) (λ key. same_text (get (map_of pairs) key) (get others key)) (map key_and_value pairs)
  kept =
      filter_kept (map_of pairs) others pairs (λ i d within. get-from_sorted (slice_cmp nat_cmp) _ _ (sorted pairs size held) ∙ finds_each order _ (sorted pairs size held) i d within)

  pub shared-map_of : map_of (filter (stands_in others) pairs) ≡ shared (map_of pairs) others
  unfolding shared
  shared-map_of = sym (retain_keys-from_sorted order same _ _ (sorted pairs size held) ∙ ap from_sorted (sym kept))

  pub kept_size : sum_by pair_size (map key_and_value (filter (stands_in others) pairs)) + COUNT_SIZE ≤ ATTRIBUTES_MAX
  kept_size =
      let le = sum_by-filter-le (λ e. same_text (get (map_of pairs) e.0) (get others e.0)) (map key_and_value pairs) in
      let total : size ≡ sum_by pair_size (map key_and_value pairs) + COUNT_SIZE = held.size_is in
      let most : size ≤ ATTRIBUTES_MAX = held.within in
      subst (λ es. sum_by pair_size es + COUNT_SIZE ≤ ATTRIBUTES_MAX) (sym kept) (omega arith)

  pub kept_held : (more : ℕ) → more ≡ sum_by pair_size (map key_and_value (filter (stands_in others) pairs)) + COUNT_SIZE → IsHeld (filter (stands_in others) pairs) more
  kept_held more is = record {
    ascending = T-to _ (subst (λ l. T (is_sorted (slice_cmp nat_cmp) l)) (sym kept) (is_sorted-where_key (slice_cmp nat_cmp) (λ key. same_text (get (map_of pairs) key) (get others key)) (map key_and_value pairs) (sorted pairs size held)));
    each = subst (All IsPair) (sym kept) (All-filter _ IsPair _ held.each);
    size_is = is;
    within = subst (λ (n : ℕ). n ≤ ATTRIBUTES_MAX) (sym is) kept_size;
  }

-- ---- a place, and a size so far

pub in_pairs : (pairs : List Pair) (key : List ℕ) (place : ℕ) → IsAt (slice_cmp nat_cmp) (map key_and_value pairs) key place → place < length pairs
in_pairs pairs key place is = in_slots order same key_and_value pairs key place is

pub size_more : (pairs : List Pair) (i : ℕ) (pair : Pair) → i < length pairs → pair ≡ get_or pairs i pair → sum_by pair_size (map key_and_value (take i pairs)) + pair_size (key_and_value pair) ≤ sum_by pair_size (map key_and_value pairs)
size_more pairs i pair lt read =
    let es = map key_and_value pairs in
    let long : length es ≡ length pairs = length-map pairs key_and_value in
    let at : get_or es i (key_and_value pair) ≡ key_and_value pair = get_or-map key_and_value pairs i pair (key_and_value pair) lt ∙ ap key_and_value (sym read) in
    let le = sum_by_more_le pair_size es i (key_and_value pair) (omega arith) in
    subst (λ (d : List ℕ × List ℕ). sum_by pair_size (map key_and_value (take i pairs)) + pair_size d ≤ sum_by pair_size es) at
    (subst (λ l. sum_by pair_size l + pair_size (get_or es i (key_and_value pair)) ≤ sum_by pair_size es) (take-map key_and_value i pairs) le)

pub map_of_none : (pairs : List Pair) → pairs ≡ [] → map_of pairs ≡ finite.empty
map_of_none pairs e = finite.empty_of_len _ (len-entries _ ∙ ap length (ap (λ l. entries (map_of l)) e ∙ entries-from_sorted (slice_cmp nat_cmp) [] tt))

-- ---- other pairs of the same attributes

pub same_held : (pairs news : List Pair) (size : ℕ) → map key_and_value news ≡ map key_and_value pairs → IsHeld pairs size → IsHeld news size
same_held pairs news size e held = record {
  ascending = subst (λ es. IsTrue (is_sorted (slice_cmp nat_cmp) es)) (sym e) held.ascending;
  each = subst (All IsPair) (sym e) held.each;
  size_is = subst (λ es. size ≡ sum_by pair_size es + COUNT_SIZE) (sym e) held.size_is;
  within = held.within;
}

-- to remove a key that isn't there changes nothing
pub remove_missing : (m : AttributeMap) (key : List ℕ) → get m key ≡ None → m ≡ finite.remove m key
remove_missing m key missing =
    finite.same_map order same _ _ (λ q. sym (finite.get-remove order m key q ∙ unless (eq_by_cmp (slice_cmp nat_cmp) q key) (get m q) (λ t. finite.get_tied order m key q (ap (λ k. slice_cmp nat_cmp key k) (same _ _ (tie _ t)) ∙ tied_itself order key) ∙ missing)))
  where
    unless : (b : Bool) (x : Option (List ℕ)) → (T b → x ≡ None) → cond b None x ≡ x
    unless true x e = sym (e tt)
    unless false x e = refl

    tie : (r : Rattle.std.proofs.Common.Ordering) → T (Rattle.std.specs.Ordering.is_eq r) → r ≡ Equal
    tie Less t = absurd t
    tie Equal t = refl
    tie Greater t = absurd t
