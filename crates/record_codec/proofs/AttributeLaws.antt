-- Attributes: reading them pair by pair, and what is encoded so is read, and what is read is encoded so.
use Rattle.std.proofs.Common.{◌≡◌, ℕ, zero, suc, ◌+◌, ◌-◌, ◌*◌, ◌^◌, ◌<◌, ◌≤◌, not, true, List, [], ◌∷◌, ◌++◌, length, length-append, take, drop, sum_by, IsTrue, Option, Some, None, Result, Ok, Err, refl, sym, ap, subst, ◌∙◌, append_assoc, add-one, arith}
use Rattle.std.specs.Prelude.{All, slice_get}
use Rattle.std.specs.List.{flat_map}
use Rattle.std.specs.Int.{w16, to_be_bytes}
use Rattle.std.specs.Str.{IsUtf8}
use Rattle.std.specs.Ordering.{nat_cmp}
use Rattle.std.specs.Cmp.Lexicographic.{slice_cmp}
use Rattle.std.specs.FinMap.{empty, entries, insert, len, len-entries, len-empty, same_entries_map}
use Rattle.std.proofs.lemmas.Bool.{and_parts, and_from, not_from_false, le-leb, leb-true}
use Rattle.std.proofs.lemmas.List.{append-nil, take-append-drop}
use Rattle.std.proofs.lemmas.List.Elements.{All-nil, All-head, All-tail, All-push, All-same}
use Rattle.std.proofs.lemmas.List.Concat.{flat_map-cons, flat_map-append}
use Rattle.std.proofs.lemmas.List.Sums.{sum_by-cons, sum_by-append, sum_by_push}
use Rattle.flowfile_record.specs.Attributes.{AttributeMap, IsPair, IsWithinLimits, encoded_size, pair_size, has_key_length, is_uuid}
use Rattle.flowfile_record.specs.Field.{IsBytes, Takes, IsField}
use Rattle.flowfile_record.specs.Reading.{◌>>=◌, such, text_at, long_at, uint_at, Fails}
use Rattle.flowfile_record.specs.Encoding.{text, long, IsText, IsLong}
use Rattle.flowfile_record.specs.declared.attributes.TheConstants.{ATTRIBUTES_MAX, KEY_MAX}
use Rattle.flowfile_record.specs.declared.fields.fault.FieldError.{FieldError}
use Rattle.flowfile_record.specs.declared.fields.fault.FieldError.TheVariants as fields
use Rattle.flowfile_record.proofs.FieldLaws.{bind_ok, ok_is, Takes-then, such_is, text_is, long_is, u16_is}
use Rattle.record_codec.specs.FileReading.{may_follow, may_hold, pair_at, attribute_pairs_at, attributes_at}
use Rattle.record_codec.specs.FileEncoding.{pair, attributes}
use Rattle.record_codec.proofs.Keys.{Pair, all_before, insert_last, comes_behind}
use Rattle.record_codec.proofs.Puts.{keeps_rule}

abbrev pub some_pair : Pair → Option Pair
some_pair p = Some p

abbrev pub no_pair : Option Pair
no_pair = None

-- ---- a loop over the pairs

pub goes_on : (count i : ℕ) (m : AttributeMap) (bytes : List ℕ) (n : AttributeMap) (after : List ℕ) (total : Result (AttributeMap × List ℕ) ℕ) → i < count → pair_at m bytes ≡ Ok (n, after)
    → attribute_pairs_at (count - i) m bytes ≡ total → attribute_pairs_at (count - (i + 1)) n after ≡ total
unfolding attribute_pairs_at
goes_on count i m bytes n after total lt h so_far =
    let k : count - i ≡ suc (count - (i + 1)) = omega arith in
    let one : attribute_pairs_at (count - i) m bytes ≡ attribute_pairs_at (count - (i + 1)) n after = rw (k, h) refl in
    sym one ∙ so_far

pub fails : (e : FieldError) (count i : ℕ) (m : AttributeMap) (bytes : List ℕ) (total : Result (AttributeMap × List ℕ) ℕ) → i < count → Fails e (pair_at m bytes)
    → attribute_pairs_at (count - i) m bytes ≡ total → Fails e total
unfolding attribute_pairs_at
fails fields.Memory count i m bytes total lt h so_far = tt
fails (fields.Form left) count i m bytes total lt h so_far =
    let k : count - i ≡ suc (count - (i + 1)) = omega arith in
    let one : attribute_pairs_at (count - i) m bytes ≡ Err left = rw (k, h) refl in
    sym so_far ∙ one

pub is_done : (count i : ℕ) (m : AttributeMap) (bytes : List ℕ) (total : Result (AttributeMap × List ℕ) ℕ) → count ≤ i → attribute_pairs_at (count - i) m bytes ≡ total → total ≡ Ok (m, bytes)
unfolding attribute_pairs_at
is_done count i m bytes total le so_far =
    let k : count - i ≡ 0 = omega arith in
    let one : attribute_pairs_at (count - i) m bytes ≡ Ok (m, bytes) = rw k refl in
    sym so_far ∙ one

-- ---- sizes

size_of : List Pair → ℕ
size_of ps = sum_by pair_size ps

six_each : (ps : List Pair) → 6 * length ps ≤ size_of ps
unfolding size_of
six_each [] = omega arith
six_each (p ∷ ps) = omega (arith, six_each ps, sum_by-cons pair_size p ps)

-- the pairs are so few that their count has an encoding
pub are_few : (m : AttributeMap) → IsWithinLimits m → len m < 2 ^ 16
unfolding encoded_size size_of
are_few m limits = omega (arith, limits.size, six_each (entries m), len-entries m)

each_at_most : (ps : List Pair) (p : Pair) (rest : List Pair) → size_of (ps ++ p ∷ rest) + 2 ≤ ATTRIBUTES_MAX → (size_of (ps ++ p ∷ []) + 2 ≤ ATTRIBUTES_MAX) × (length p.1 < 2 ^ 32)
unfolding size_of
each_at_most ps p rest le =
    let whole = sum_by-append pair_size ps (p ∷ rest) in
    let first = sum_by-cons pair_size p rest in
    let front = sum_by_push pair_size ps p in
    (omega arith, omega arith)

each_fits : (ps : List Pair) (i : ℕ) (p : Pair) → All IsPair ps → size_of ps + 2 ≤ ATTRIBUTES_MAX → slice_get ps i ≡ Some p → IsPair p × (length p.1 < 2 ^ 32)
unfolding size_of
each_fits [] i p all le e = absurd cc
each_fits (q ∷ ps) zero p all le e =
    let same : q ≡ p = cc in
    subst (λ (x : Pair). IsPair x × (length x.1 < 2 ^ 32)) same (All-head IsPair q ps all, omega (arith, sum_by-cons pair_size q ps))
each_fits (q ∷ ps) (suc i) p all le e = each_fits ps i p (All-tail IsPair q ps all) (omega (arith, sum_by-cons pair_size q ps)) e

key_fits : (p : Pair) → IsPair p → length p.0 ≤ KEY_MAX
key_fits p is = leb-true _ _ (and_parts _ _ (and_parts _ _ is.key).0).1

pub texts_fit : (m : AttributeMap) (i : ℕ) (key value : List ℕ) → IsWithinLimits m → some_pair (key, value) ≡ slice_get (entries m) i → (length key < 2 ^ 16) × (length value < 2 ^ 32)
unfolding encoded_size size_of
texts_fit m i key value limits e =
    let fits = each_fits (entries m) i (key, value) limits.pairs limits.size (sym e) in
    (omega (arith, key_fits (key, value) fits.0), fits.1)

is_within : (ps : List Pair) (i : ℕ) (p : Pair) → slice_get ps i ≡ Some p → (i < length ps) × (take (suc i) ps ≡ take i ps ++ p ∷ [])
is_within [] i p e = absurd cc
is_within (q ∷ ps) zero p e =
    let same : q ≡ p = cc in
    (omega arith, ap (λ (x : Pair). x ∷ []) same)
is_within (q ∷ ps) (suc i) p e =
    let later = is_within ps i p e in
    (omega arith, ap (λ (xs : List Pair). q ∷ xs) later.1)

pub one_more : (m : AttributeMap) (i : ℕ) (p : Pair) → some_pair p ≡ slice_get (entries m) i → (i < length (entries m)) × (flat_map pair (take (i + 1) (entries m)) ≡ flat_map pair (take i (entries m)) ++ pair p)
one_more m i p e =
    let within = is_within (entries m) i p (sym e) in
    let front = take i (entries m) in
    let pushed : flat_map pair (front ++ p ∷ []) ≡ flat_map pair front ++ pair p = flat_map-append pair front (p ∷ []) ∙ ap (λ (w : List ℕ). flat_map pair front ++ w) (append-nil (pair p)) in
    (within.0, ap (λ (n : ℕ). flat_map pair (take n (entries m))) (add-one i) ∙ ap (flat_map pair) within.1 ∙ pushed)

-- those before a place and the one there are no longer than all
pub fits_within : (m : AttributeMap) (i : ℕ) (p : Pair) → some_pair p ≡ slice_get (entries m) i → 2 + length (flat_map pair (take i (entries m))) + length (pair p) ≤ length (attributes m)
unfolding attributes
fits_within m i p e =
    let more = one_more m i p e in
    let split = ap (flat_map pair) (sym (take-append-drop (i + 1) (entries m))) ∙ flat_map-append pair (take (i + 1) (entries m)) (drop (i + 1) (entries m)) in
    omega (
      arith,
      ap length split,
      ap length more.1,
      length-append (flat_map pair (take (i + 1) (entries m))) (flat_map pair (drop (i + 1) (entries m))),
      length-append (flat_map pair (take i (entries m))) (pair p),
      length-append (to_be_bytes w16 (len m)) (flat_map pair (entries m)),
    )

past : (ps : List Pair) (i : ℕ) → slice_get ps i ≡ None → take i ps ≡ ps
past [] zero e = refl
past [] (suc i) e = refl
past (q ∷ ps) zero e = absurd cc
past (q ∷ ps) (suc i) e = ap (λ (xs : List Pair). q ∷ xs) (past ps i e)

pub all_written : (m : AttributeMap) (i : ℕ) → no_pair ≡ slice_get (entries m) i → take i (entries m) ≡ entries m
all_written m i e = past (entries m) i (sym e)

-- ---- the laws

abbrev may_be_key : AttributeMap → List ℕ → Type 0
may_be_key m key = IsText key × IsTrue (may_follow m key)

pair_limits : (m : AttributeMap) (key value : List ℕ) → IsWithinLimits m → IsTrue (may_follow m key) → IsUtf8 key → IsUtf8 value → IsTrue (may_hold m key value) → IsWithinLimits (insert m key value)
unfolding may_hold
pair_limits m key value limits follows key_text value_text holds =
    let rule = keeps_rule m key follows in
    let is : IsPair (key, value) = record { key = and_from _ _ rule.0 (not_from_false _ rule.1); key_text = key_text; value_text = value_text } in
    record {
      pairs = All-same IsPair _ _ (insert_last m key value rule.2) (All-push IsPair (entries m) (key, value) limits.pairs is);
      size = leb-true _ _ holds;
    }

pair_takes : (m : AttributeMap) (bytes : List ℕ) (x : AttributeMap × List ℕ) → IsBytes bytes → IsWithinLimits m → pair_at m bytes ≡ Ok x
    → (p : Pair) × Takes bytes (pair p) x.1 × (entries x.0 ≡ entries m ++ p ∷ []) × IsWithinLimits x.0
unfolding pair_at
pair_takes m bytes x fits limits e =
    let a = bind_ok (such (may_follow m) text_at bytes) (λ key. such (may_hold m key.0) long_at key.1 >>= λ value. Ok (insert m key.0 value.0, value.1)) x e in
    let b = bind_ok (such (may_hold m a.0.0) long_at a.0.1) (λ value. Ok (insert m a.0.0 value.0, value.1)) x a.2 in
    let key = (such_is (may_follow m) text_at text IsText text_is).takes bytes a.0 fits a.1 in
    let value = (such_is (may_hold m a.0.0) long_at long IsLong long_is).takes a.0.1 b.0 key.0.rest_fits b.1 in
    let both = Takes-then bytes (text a.0.0) a.0.1 (long b.0.0) b.0.1 key.0 value.0 in
    let same = ok_is (insert m a.0.0 b.0.0, b.0.1) x b.2 in
    subst (λ (y : AttributeMap × List ℕ). (p : Pair) × Takes bytes (pair p) y.1 × (entries y.0 ≡ entries m ++ p ∷ []) × IsWithinLimits y.0) same
    ((a.0.0, b.0.0), both, insert_last m a.0.0 b.0.0 (keeps_rule m a.0.0 key.1.1).2, pair_limits m a.0.0 b.0.0 limits key.1.1 key.1.0.1 value.1.0.1 value.1.1)

pairs_take : (n : ℕ) (m : AttributeMap) (bytes : List ℕ) (x : AttributeMap × List ℕ) → IsBytes bytes → IsWithinLimits m → attribute_pairs_at n m bytes ≡ Ok x
    → (ps : List Pair) × Takes bytes (flat_map pair ps) x.1 × (entries x.0 ≡ entries m ++ ps) × (length ps ≡ n) × IsWithinLimits x.0
unfolding attribute_pairs_at
pairs_take zero m bytes x fits limits e =
    let same = ok_is (m, bytes) x e in
    let is_m : m ≡ x.0 = ap (λ (y : AttributeMap × List ℕ). y.0) same in
    let is_rest : bytes ≡ x.1 = ap (λ (y : AttributeMap × List ℕ). y.1) same in
    ([], subst (λ (r : List ℕ). Takes bytes [] r) is_rest (record { parts = refl; rest_fits = fits }), ap entries (sym is_m) ∙ sym (append-nil (entries m)), refl, subst IsWithinLimits is_m limits)
pairs_take (suc n) m bytes x fits limits e =
    let a = bind_ok (pair_at m bytes) (λ more. attribute_pairs_at n more.0 more.1) x e in
    let p = pair_takes m bytes a.0 fits limits a.1 in
    let q = pairs_take n a.0.0 a.0.1 x p.1.rest_fits p.3 a.2 in
    let both = Takes-then bytes (pair p.0) a.0.1 (flat_map pair q.0) x.1 p.1 q.1 in (
      p.0 ∷ q.0,
      subst (λ (w : List ℕ). Takes bytes w x.1) (sym (flat_map-cons pair p.0 q.0)) both,
      q.2 ∙ ap (λ (es : List Pair). es ++ q.0) p.2 ∙ append_assoc (entries m) (p.0 ∷ []) q.0,
      ap suc q.3,
      q.4,
    )

-- ---- and back

rule_of : (p : Pair) → IsPair p → (has_key_length p.0 ≡ true) × (not (is_uuid p.0) ≡ true)
rule_of p is = and_parts _ _ is.key

follows : (m : AttributeMap) (p : Pair) → IsPair p → all_before p.0 (entries m) ≡ true → may_follow m p.0 ≡ true
unfolding may_follow
follows m p is before = and_from _ _ is.key before

fits_in : (m n : AttributeMap) (p : Pair) (ps : List Pair) → entries n ≡ entries m ++ p ∷ ps → all_before p.0 (entries m) ≡ true → IsWithinLimits n → (may_hold m p.0 p.1 ≡ true) × (length p.1 < 2 ^ 32)
unfolding may_hold encoded_size size_of
fits_in m n p ps e before limits =
    let whole : size_of (entries m ++ p ∷ ps) + 2 ≤ ATTRIBUTES_MAX = subst (λ (es : List Pair). size_of es + 2 ≤ ATTRIBUTES_MAX) e limits.size in
    let both = each_at_most (entries m) p ps whole in
    let is : size_of (entries (insert m p.0 p.1)) ≡ size_of (entries m ++ p ∷ []) = ap size_of (insert_last m p.0 p.1 before) in
    (le-leb _ _ (omega (arith, is, both.0)), both.1)

all-part : (es : List Pair) (p : Pair) (ps : List Pair) → All IsPair (es ++ p ∷ ps) → IsPair p
all-part [] p ps all = All-head IsPair p ps all
all-part (e ∷ es) p ps all = all-part es p ps (All-tail IsPair e (es ++ p ∷ ps) all)

pair_again : (m n : AttributeMap) (p : Pair) (ps : List Pair) (rest : List ℕ) → entries n ≡ entries m ++ p ∷ ps → IsWithinLimits n
    → (pair_at m (pair p ++ rest) ≡ Ok (insert m p.0 p.1, rest)) × (entries (insert m p.0 p.1) ≡ entries m ++ p ∷ [])
unfolding pair_at
pair_again m n p ps rest e limits =
    let before = comes_behind m n p ps e in
    let is = all-part (entries m) p ps (subst (All IsPair) e limits.pairs) in
    let room = fits_in m n p ps e before limits in
    let short : length p.0 < 2 ^ 16 = omega (arith, key_fits p is) in
    let key = (such_is (may_follow m) text_at text IsText text_is).again p.0 (long p.1 ++ rest) ((short, is.key_text), follows m p is before) in
    let value = (such_is (may_hold m p.0) long_at long IsLong long_is).again p.1 rest ((room.1, is.value_text), room.0) in
    let regrouped : pair p ++ rest ≡ text p.0 ++ (long p.1 ++ rest) = append_assoc (text p.0) (long p.1) rest in
    (ap (pair_at m) regrouped ∙ rw (key, value) refl, insert_last m p.0 p.1 before)

pairs_again : (ps : List Pair) (m n : AttributeMap) (rest : List ℕ) → entries n ≡ entries m ++ ps → IsWithinLimits n → attribute_pairs_at (length ps) m (flat_map pair ps ++ rest) ≡ Ok (n, rest)
unfolding attribute_pairs_at
pairs_again [] m n rest e limits = ap (λ (k : AttributeMap). Ok (k, rest)) (same_entries_map m n (sym (e ∙ append-nil (entries m))))
pairs_again (p ∷ ps) m n rest e limits =
    let one = pair_again m n p ps (flat_map pair ps ++ rest) e limits in
    let more = insert m p.0 p.1 in
    let later : entries n ≡ entries more ++ ps = e ∙ sym (append_assoc (entries m) (p ∷ []) ps) ∙ ap (λ (es : List Pair). es ++ ps) (sym one.1) in
    let regrouped : flat_map pair (p ∷ ps) ++ rest ≡ pair p ++ (flat_map pair ps ++ rest) = ap (λ (w : List ℕ). w ++ rest) (flat_map-cons pair p ps) ∙ append_assoc (pair p) (flat_map pair ps) rest in
    ap (attribute_pairs_at (suc (length ps)) m) regrouped ∙ rw one.0 (pairs_again ps more n rest later limits)

-- ---- all attributes

nothing_in : (es : List Pair) → length es ≡ 0 → es ≡ []
nothing_in [] e = refl
nothing_in (p ∷ es) e = absurd (omega arith)

abbrev none : AttributeMap
none = empty

none_entries : entries none ≡ []
none_entries = nothing_in (entries none) (sym (len-entries none) ∙ len-empty (slice_cmp nat_cmp) (List ℕ))

none_limits : IsWithinLimits none
unfolding encoded_size
none_limits = record {
  pairs = All-same IsPair _ _ none_entries (All-nil IsPair);
  size = subst (λ (es : List Pair). sum_by pair_size es + 2 ≤ ATTRIBUTES_MAX) (sym none_entries) (omega arith);
}

pub attributes_is : IsField attributes_at attributes IsWithinLimits
unfolding attributes_at attributes
attributes_is = record {
  takes = λ bytes x fits e.
      let n = bind_ok (uint_at w16 bytes) (λ n. attribute_pairs_at n.0 none n.1) x e in
      let p = u16_is.takes bytes n.0 fits n.1 in
      let q = pairs_take n.0.0 none n.0.1 x p.0.rest_fits none_limits n.2 in
      let all : entries x.0 ≡ q.0 = q.2 ∙ ap (λ (es : List Pair). es ++ q.0) none_entries in
      let count : n.0.0 ≡ len x.0 = sym q.3 ∙ ap length (sym all) ∙ sym (len-entries x.0) in
      let both = Takes-then bytes (to_be_bytes w16 n.0.0) n.0.1 (flat_map pair q.0) x.1 p.0 q.1 in
      let said : to_be_bytes w16 n.0.0 ++ flat_map pair q.0 ≡ to_be_bytes w16 (len x.0) ++ flat_map pair (entries x.0) = rw (← count, all) refl in
      (subst (λ (w : List ℕ). Takes bytes w x.1) said both, q.4);
  again = λ m rest limits.
      let regrouped : attributes m ++ rest ≡ to_be_bytes w16 (len m) ++ (flat_map pair (entries m) ++ rest) = append_assoc (to_be_bytes w16 (len m)) (flat_map pair (entries m)) rest in
      let all : entries m ≡ entries none ++ entries m = ap (λ (es : List Pair). es ++ entries m) (sym none_entries) in
      let pairs : attribute_pairs_at (len m) none (flat_map pair (entries m) ++ rest) ≡ Ok (m, rest) = ap (λ (k : ℕ). attribute_pairs_at k none (flat_map pair (entries m) ++ rest)) (len-entries m) ∙ pairs_again (entries m) none m rest all limits in
      ap attributes_at regrouped ∙ rw (u16_is.again (len m) (flat_map pair (entries m) ++ rest) (are_few m limits)) pairs;
}
