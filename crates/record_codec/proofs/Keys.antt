-- Pairs in the order of their keys, and a key behind all of them.
use Rattle.std.proofs.Common.{◌≡◌, ℕ, zero, suc, ◌-◌, ◌<◌, ◌&&◌, Bool, true, false, List, [], ◌∷◌, ◌++◌, length, Option, Some, None, refl, sym, ap, subst, ◌∙◌, arith}
use lib.Dec.{T}
use Rattle.std.specs.Option.{option_map}
use Rattle.std.specs.Prelude.{slice_get}
use Rattle.std.specs.List.{list_all}
use Rattle.std.specs.Ordering.{nat_cmp, is_lt, ordering_reverse}
use Rattle.std.specs.declared.cmp.Ordering.{Ordering}
use Rattle.std.specs.declared.cmp.Ordering.TheVariants.{Less, Equal, Greater}
use Rattle.std.specs.Cmp.Lexicographic.{slice_cmp, nat_list_cmp_total}
use Rattle.std.specs.FinMap.{entries, entries_sorted, len, len-entries, entries-insert, insert, put, is_sorted}
use Rattle.std.specs.FinMap.Entries.{below_all}
use Rattle.std.proofs.lemmas.Bool.{and_parts, and_from}
use Rattle.flowfile_record.specs.Attributes.{AttributeMap}

abbrev pub Pair : Type 0
Pair = List ℕ × List ℕ

abbrev pub by_bytes : List ℕ → List ℕ → Ordering
by_bytes = slice_cmp nat_cmp

-- each key comes before this one
abbrev pub all_before : List ℕ → List Pair → Bool
all_before key = list_all (λ pair. is_lt (by_bytes pair.0 key))

is_less : (o : Ordering) → is_lt o ≡ true → o ≡ Less
is_less Less e = refl
is_less Equal e = absurd cc
is_less Greater e = absurd cc

turned : (k x : List ℕ) → is_lt (by_bytes x k) ≡ true → by_bytes k x ≡ Greater
turned k x lt = nat_list_cmp_total.antisymm k x ∙ ap ordering_reverse (is_less _ lt)

-- to put a key behind all is to push it
pub put_last : (k v : List ℕ) (es : List Pair) → all_before k es ≡ true → put by_bytes k v es ≡ es ++ (k, v) ∷ []
put_last k v [] h = refl
put_last k v (e ∷ es) h =
    let both = and_parts _ _ h in
    rw (turned k e.0 both.0) (ap (λ (xs : List Pair). e ∷ xs) (put_last k v es both.1))

pub insert_last : (m : AttributeMap) (k v : List ℕ) → all_before k (entries m) ≡ true → entries (insert m k v) ≡ entries m ++ (k, v) ∷ []
insert_last m k v h = entries-insert nat_list_cmp_total m k v ∙ put_last k v (entries m) h

true_of : (b : Bool) → T b → b ≡ true
true_of true h = refl
true_of false h = absurd h

is_lt_of : (o : Ordering) → o ≡ Less → is_lt o ≡ true
is_lt_of o e = ap is_lt e

-- ---- a key behind the last one is behind all

agree : (a b : Bool) → (b ≡ true → a ≡ true) → (a && b) ≡ b
agree true true h = refl
agree true false h = refl
agree false true h = h refl
agree false false h = refl

and_true : (b : Bool) → (b && true) ≡ b
and_true true = refl
and_true false = refl

last_decides_from : (es : List Pair) (i : ℕ) (key : List ℕ) (last : Pair) → T (is_sorted by_bytes es) → suc i ≡ length es → slice_get es i ≡ Some last → all_before key es ≡ is_lt (by_bytes last.0 key)
last_decides_from [] i key last sorted is e = absurd (omega arith)
last_decides_from (f ∷ []) zero key last sorted is e =
    let same : f ≡ last = cc in
    and_true (is_lt (by_bytes f.0 key)) ∙ ap (λ (p : Pair). is_lt (by_bytes p.0 key)) same
last_decides_from (f ∷ []) (suc i) key last sorted is e = absurd (omega arith)
last_decides_from (f ∷ g ∷ es) zero key last sorted is e = absurd (omega arith)
last_decides_from (f ∷ g ∷ es) (suc i) key last sorted is e =
    let both = and_parts (below_all by_bytes f.0 (g ∷ es)) (is_sorted by_bytes (g ∷ es)) (true_of _ sorted) in
    let first = and_parts (is_lt (by_bytes f.0 g.0)) (below_all by_bytes f.0 es) both.0 in
    let rest : T (is_sorted by_bytes (g ∷ es)) = subst T (sym both.1) tt in
    let later = last_decides_from (g ∷ es) i key last rest (omega arith) e in
    let earlier : all_before key (g ∷ es) ≡ true → is_lt (by_bytes f.0 key) ≡ true =
    λ h. is_lt_of _ (nat_list_cmp_total.trans f.0 g.0 key (is_less _ first.0) (is_less _ (and_parts (is_lt (by_bytes g.0 key)) (all_before key es) h).0)) in
    agree (is_lt (by_bytes f.0 key)) (all_before key (g ∷ es)) earlier ∙ later

by_length : (es : List Pair) (key : List ℕ) (last : Pair) → T (is_sorted by_bytes es) → slice_get es (length es - 1) ≡ Some last → all_before key es ≡ is_lt (by_bytes last.0 key)
by_length [] key last sorted e = absurd cc
by_length (f ∷ es) key last sorted e =
    let i : suc (length es) - 1 ≡ length es = omega arith in
    last_decides_from (f ∷ es) (length es) key last sorted refl (subst (λ (n : ℕ). slice_get (f ∷ es) n ≡ Some last) i e)

pub last_decides : (m : AttributeMap) (key : List ℕ) (last : Pair) → slice_get (entries m) (len m - 1) ≡ Some last → all_before key (entries m) ≡ is_lt (by_bytes last.0 key)
last_decides m key last e = by_length (entries m) key last (entries_sorted m) (subst (λ (n : ℕ). slice_get (entries m) (n - 1) ≡ Some last) (len-entries m) e)

found : (es : List Pair) (i : ℕ) → i < length es → slice_get es i ≡ None → ⊥
found [] i lt e = omega arith
found (f ∷ es) zero lt e = cc
found (f ∷ es) (suc i) lt e = found es i (omega arith) e

nothing : (es : List Pair) (key : List ℕ) → slice_get es (length es - 1) ≡ None → all_before key es ≡ true
nothing [] key e = refl
nothing (f ∷ es) key e = absurd (found (f ∷ es) (suc (length es) - 1) (omega arith) e)

pub none_decides : (m : AttributeMap) (key : List ℕ) → slice_get (entries m) (len m - 1) ≡ None → all_before key (entries m) ≡ true
none_decides m key e = nothing (entries m) key (subst (λ (n : ℕ). slice_get (entries m) (n - 1) ≡ None) (len-entries m) e)

-- the same of the last key alone
with_value : (o : Option Pair) (k : List ℕ) → option_map (λ pair. pair.0) o ≡ Some k → (v : List ℕ) × (o ≡ Some (k, v))
with_value None k e = absurd cc
with_value (Some p) k e =
    let same : p.0 ≡ k = cc in
    (p.1, ap (λ (x : List ℕ). option_map (λ pair. pair) (Some (x, p.1))) same)

without : (o : Option Pair) → option_map (λ pair. pair.0) o ≡ None → o ≡ None
without None e = refl
without (Some p) e = absurd cc

pub last_key_decides : (m : AttributeMap) (key last : List ℕ) → option_map (λ pair. pair.0) (slice_get (entries m) (len m - 1)) ≡ Some last → all_before key (entries m) ≡ is_lt (by_bytes last key)
last_key_decides m key last e =
    let p = with_value (slice_get (entries m) (len m - 1)) last e in
    last_decides m key (last, p.0) p.1

pub no_key_decides : (m : AttributeMap) (key : List ℕ) → option_map (λ pair. pair.0) (slice_get (entries m) (len m - 1)) ≡ None → all_before key (entries m) ≡ true
no_key_decides m key e = none_decides m key (without (slice_get (entries m) (len m - 1)) e)

-- ---- a key of a map in order comes behind those before it

lesser : (k : List ℕ) (es : List Pair) (p : Pair) (fs : List Pair) → below_all by_bytes k (es ++ p ∷ fs) ≡ true → is_lt (by_bytes k p.0) ≡ true
lesser k [] p fs h = (and_parts (is_lt (by_bytes k p.0)) (below_all by_bytes k fs) h).0
lesser k (e ∷ es) p fs h = lesser k es p fs (and_parts (is_lt (by_bytes k e.0)) (below_all by_bytes k (es ++ p ∷ fs)) h).1

before_each : (es : List Pair) (p : Pair) (fs : List Pair) → is_sorted by_bytes (es ++ p ∷ fs) ≡ true → all_before p.0 es ≡ true
before_each [] p fs h = refl
before_each (e ∷ es) p fs h =
    let both = and_parts (below_all by_bytes e.0 (es ++ p ∷ fs)) (is_sorted by_bytes (es ++ p ∷ fs)) h in
    and_from _ _ (lesser e.0 es p fs both.0) (before_each es p fs both.1)

pub comes_behind : (m n : AttributeMap) (p : Pair) (fs : List Pair) → entries n ≡ entries m ++ p ∷ fs → all_before p.0 (entries m) ≡ true
comes_behind m n p fs e = before_each (entries m) p fs (true_of _ (subst (λ (es : List Pair). T (is_sorted by_bytes es)) e (entries_sorted n)))
