-- What attributes take where a value is put under a key, or a key is left out.
use Rattle.std.proofs.Common.{◌≡◌, ℕ, Ordering, ◌+◌, Bool, true, false, cond, not, List, sum_by, bytes_eq, Option, Some, None, refl, sym, ◌∙◌, ap, arith}
use Rattle.std.specs.Prelude.{is_none, is_some}
use Rattle.std.specs.Option.{option_map_or}
use Rattle.std.specs.Ordering.{nat_cmp, eq_by_cmp}
use Rattle.std.specs.Cmp.{eq_by_cmp_equiv}
use Rattle.std.specs.Cmp.Lexicographic.{slice_cmp, nat_list_cmp_total, texts_ties}
use Rattle.std.specs.FinMap.{IsAntisymmetric, contains_key, entries, entries_sorted, entries-insert, entries-from_sorted, from_sorted, get, get-entries, get-from_sorted, get-insert, get-remove, insert, remove, same_map, slice_cmp-IsAntisymmetric, nat_cmp-IsAntisymmetric}
use Rattle.std.specs.FinMap.Entries.{find, where_key, is_sorted-where_key, find-where_key}
use Rattle.flowfile_record.specs.Attributes.{AttributeMap, encoded_size, pair_size}
use Rattle.process_session.specs.Pairs.{held_size}
use Rattle.process_session.proofs.Pairs.{held, sum-put, sum-without}

abbrev by_bytes : List ℕ → List ℕ → Ordering
by_bytes = slice_cmp nat_cmp

same_key : IsAntisymmetric by_bytes
same_key = slice_cmp-IsAntisymmetric nat_cmp-IsAntisymmetric

held-found : (key : List ℕ) (o : Option (List ℕ)) → option_map_or (λ value. pair_size (key, value)) o 0 ≡ held pair_size key o
held-found key None = refl
held-found key (Some value) = refl

held-entries : (m : AttributeMap) (key : List ℕ) → held_size m key ≡ held pair_size key (find by_bytes key (entries m))
held-entries m key = held-found key (get m key) ∙ ap (held pair_size key) (get-entries m key)

pub encoded_size-insert : (m : AttributeMap) (key value : List ℕ) → encoded_size (insert m key value) + held_size m key ≡ encoded_size m + pair_size (key, value)
unfolding encoded_size
encoded_size-insert m key value =
    let sums = sum-put nat_list_cmp_total same_key pair_size key value (entries m) (entries_sorted m) in
    let put_in = ap (sum_by pair_size) (entries-insert nat_list_cmp_total m key value) in
    let was = held-entries m key in
    omega (arith, sums, put_in, was)

opposite : {A : Type 0} (b : Bool) (x y : A) → cond b x y ≡ cond (not b) y x
opposite true x y = refl
opposite false x y = refl

entries-remove : (m : AttributeMap) (key : List ℕ) → entries (remove m key) ≡ where_key by_bytes (λ x. not (eq_by_cmp by_bytes key x)) (entries m)
entries-remove m key =
    let p : List ℕ → Bool = λ x. not (eq_by_cmp by_bytes key x) in
    let left = where_key by_bytes p (entries m) in
    let sorted = is_sorted-where_key by_bytes p (entries m) (entries_sorted m) in
    let same : remove m key ≡ from_sorted {R = by_bytes} left =
    same_map nat_list_cmp_total same_key _ _ (λ q.
    get-remove nat_list_cmp_total m key q ∙ ap (λ b. cond b None (get m q)) ((eq_by_cmp_equiv nat_list_cmp_total).symm q key) ∙ opposite (eq_by_cmp by_bytes key q) _ _
    ∙ ap (λ r. cond (p q) r None) (get-entries m q)
    ∙ sym (get-from_sorted by_bytes left q sorted ∙ find-where_key by_bytes p q (λ x t. ap p (sym (same_key _ _ t))) (entries m))) in
    ap entries same ∙ entries-from_sorted by_bytes left sorted

pub encoded_size-remove : (m : AttributeMap) (key : List ℕ) → encoded_size (remove m key) + held_size m key ≡ encoded_size m
unfolding encoded_size
encoded_size-remove m key =
    let sums = sum-without nat_list_cmp_total same_key pair_size key (entries m) (entries_sorted m) in
    let left = ap (sum_by pair_size) (entries-remove m key) in
    let was = held-entries m key in
    omega (arith, sums, left, was)

-- what stands under another key then
none-put : (b : Bool) (value : List ℕ) (o : Option (List ℕ)) → is_none (cond b (Some value) o) ≡ cond b false (is_none o)
none-put true value o = refl
none-put false value o = refl

none-left : (b : Bool) (o : Option (List ℕ)) → is_none (cond b (None) o) ≡ cond b true (is_none o)
none-left true o = refl
none-left false o = refl

is_none-insert : (m : AttributeMap) (key value other : List ℕ) → is_none (get (insert m key value) other) ≡ cond (bytes_eq key other) false (is_none (get m other))
is_none-insert m key value other =
    ap is_none (get-insert nat_list_cmp_total m key value other) ∙ none-put _ value (get m other) ∙ ap (λ b. cond b false (is_none (get m other))) ((eq_by_cmp_equiv nat_list_cmp_total).symm other key ∙ sym (texts_ties key other))

is_none-remove : (m : AttributeMap) (key other : List ℕ) → is_none (get (remove m key) other) ≡ cond (bytes_eq key other) true (is_none (get m other))
is_none-remove m key other =
    ap is_none (get-remove nat_list_cmp_total m key other) ∙ none-left _ (get m other) ∙ ap (λ b. cond b true (is_none (get m other))) ((eq_by_cmp_equiv nat_list_cmp_total).symm other key ∙ sym (texts_ties key other))

absent : (o : Option (List ℕ)) → not (is_some o) ≡ is_none o
absent None = refl
absent (Some value) = refl

pub absent-insert : (m : AttributeMap) (key value other : List ℕ) → not (contains_key (insert m key value) other) ≡ cond (bytes_eq key other) false (is_none (get m other))
absent-insert m key value other = absent (get (insert m key value) other) ∙ is_none-insert m key value other

pub absent-remove : (m : AttributeMap) (key other : List ℕ) → not (contains_key (remove m key) other) ≡ cond (bytes_eq key other) true (is_none (get m other))
absent-remove m key other = absent (get (remove m key) other) ∙ is_none-remove m key other
