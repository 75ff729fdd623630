-- That attributes of which some pairs are left out are within their limits.
use Rattle.std.proofs.Common.{◌≡◌, ℕ, ◌≤◌, Bool, not, List, refl, sym, ◌∙◌, ap, subst, arith}
use Rattle.std.specs.Prelude.{All, sum_by}
use Rattle.std.specs.Ordering.{nat_cmp, eq_by_cmp}
use Rattle.std.specs.Cmp.Lexicographic.{slice_cmp, nat_list_cmp_total}
use Rattle.std.specs.FinMap.{IsAntisymmetric, entries, entries_sorted, entries-from_sorted, from_sorted, get, remove, retain_keys, same_entries_map, slice_cmp-IsAntisymmetric, nat_cmp-IsAntisymmetric}
use Rattle.std.specs.FinMap.Entries.{where_key, is_sorted-where_key}
use Rattle.std.proofs.lemmas.List.Elements.{All-filter}
use Rattle.std.proofs.lemmas.List.Filters.{sum_by-filter_both}
use Rattle.flowfile_record.proofs.Entries.{remove-from_sorted, retain_keys-from_sorted}
use Rattle.flowfile_record.specs.Attributes.{AttributeMap, IsPair, IsWithinLimits, encoded_size, pair_size, shared}
use Rattle.flowfile_record.specs.OptionalText.{same_text}

same_key : IsAntisymmetric (slice_cmp nat_cmp)
same_key = slice_cmp-IsAntisymmetric nat_cmp-IsAntisymmetric

as_sorted : (m : AttributeMap) → m ≡ from_sorted (entries m)
as_sorted m = same_entries_map m (from_sorted (entries m)) (sym (entries-from_sorted (slice_cmp nat_cmp) (entries m) (entries_sorted m)))

kept-size : (p : List ℕ → Bool) (m kept : AttributeMap) → entries kept ≡ where_key (slice_cmp nat_cmp) p (entries m) → encoded_size kept ≤ encoded_size m
unfolding encoded_size
kept-size p m kept are =
    let sums = sum_by-filter_both (λ (e : List ℕ × List ℕ). p e.0) (λ e. not (p e.0)) (λ e. refl) pair_size (entries m) in
    omega (arith, sums, ap (sum_by pair_size) are)

kept-within : (p : List ℕ → Bool) (m kept : AttributeMap) → entries kept ≡ where_key (slice_cmp nat_cmp) p (entries m) → IsWithinLimits m → IsWithinLimits kept
kept-within p m kept are within = record {
  pairs = subst (All IsPair) (sym are) (All-filter (λ (e : List ℕ × List ℕ). p e.0) IsPair (entries m) within.pairs);
  size = omega (arith, kept-size p m kept are, within.size);
}

retained : (p : List ℕ → Bool) (m : AttributeMap) → entries (retain_keys m p) ≡ where_key (slice_cmp nat_cmp) p (entries m)
retained p m =
    ap (λ (n : AttributeMap). entries (retain_keys n p)) (as_sorted m)
    ∙ ap entries (retain_keys-from_sorted nat_list_cmp_total same_key p (entries m) (entries_sorted m))
    ∙ entries-from_sorted (slice_cmp nat_cmp) (where_key (slice_cmp nat_cmp) p (entries m)) (is_sorted-where_key (slice_cmp nat_cmp) p (entries m) (entries_sorted m))

removed : (m : AttributeMap) (key : List ℕ) → entries (remove m key) ≡ where_key (slice_cmp nat_cmp) (λ other. not (eq_by_cmp (slice_cmp nat_cmp) key other)) (entries m)
removed m key =
    let p : List ℕ → Bool = λ other. not (eq_by_cmp (slice_cmp nat_cmp) key other) in
    ap (λ (n : AttributeMap). entries (remove n key)) (as_sorted m)
    ∙ ap entries (remove-from_sorted nat_list_cmp_total same_key key (entries m) (entries_sorted m))
    ∙ entries-from_sorted (slice_cmp nat_cmp) (where_key (slice_cmp nat_cmp) p (entries m)) (is_sorted-where_key (slice_cmp nat_cmp) p (entries m) (entries_sorted m))

pub removed-within : (m : AttributeMap) (key : List ℕ) → IsWithinLimits m → IsWithinLimits (remove m key)
removed-within m key within = kept-within (λ other. not (eq_by_cmp (slice_cmp nat_cmp) key other)) m (remove m key) (removed m key) within

pub shared-within : (these others : AttributeMap) → IsWithinLimits these → IsWithinLimits (shared these others)
unfolding shared
shared-within these others within =
    let p : List ℕ → Bool = λ key. same_text (get these key) (get others key) in
    kept-within p these (retain_keys these p) (retained p these) within

-- they take no more

pub removed-size : (m : AttributeMap) (key : List ℕ) → encoded_size (remove m key) ≤ encoded_size m
removed-size m key = kept-size (λ other. not (eq_by_cmp (slice_cmp nat_cmp) key other)) m (remove m key) (removed m key)

pub shared-size : (these others : AttributeMap) → encoded_size (shared these others) ≤ encoded_size these
unfolding shared
shared-size these others =
    let p : List ℕ → Bool = λ key. same_text (get these key) (get others key) in
    kept-size p these (retain_keys these p) (retained p these)
