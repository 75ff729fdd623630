-- Which fragments an order of them takes for one.
use Rattle.std.proofs.Common.{◌≡◌, inl, inr, ℕ, true, false, cond, ◌&&◌, Less, Equal, Greater, refl, sym, ◌∙◌, arith}
use Rattle.std.specs.Prelude.{◌==◌, nat_lt, bytes_eq}
use Rattle.std.specs.declared.cmp.Ordering.{Ordering}
use Rattle.std.specs.BTreeMap.{BTreeMap}
use Rattle.std.specs.Cmp.{IsTotalOrder, nat_cmp_total, on_total, then_total}
use Rattle.std.specs.Cmp.Lexicographic.{slice_cmp, nat_list_cmp_total}
use Rattle.std.specs.Map.{lookup}
use Rattle.std.specs.Ordering.{is_eq, nat_cmp, ordering_then}
use Rattle.std.proofs.lemmas.Bool.{cases_lt, lt-ltb, le-ltb, ne_eqb, and_parts, eqb-true}
use Rattle.std.proofs.lemmas.Map.Text.{is_eq-slice_cmp}
use Rattle.std.proofs.lemmas.Slice.Eq.{bytes_eq-Decides}
use Rattle.machine_model.specs.declared.fragment.Whole.{Whole}
use Rattle.machine_model.specs.declared.fragment.Fragment.{Fragment as Part}
use Rattle.flow_queue.specs.Fragments.{whole_cmp, part_cmp, part_number}

pub whole_cmp-total : IsTotalOrder whole_cmp
whole_cmp-total = then_total (on_total (λ (whole : Whole). whole.identifier.now) nat_list_cmp_total) (on_total (λ (whole : Whole). whole.count) nat_cmp_total)

pub part_cmp-total : IsTotalOrder part_cmp
part_cmp-total = then_total (on_total (λ (part : Part). part.whole) whole_cmp-total) (on_total (λ (part : Part). part.index) nat_cmp_total)

both : (a b : Ordering) → is_eq (ordering_then a b) ≡ (is_eq a && is_eq b)
both Less b = refl
both Equal b = refl
both Greater b = refl

numbers : (m n : ℕ) → is_eq (nat_cmp m n) ≡ (m == n)
numbers m n =
    elim (cases_lt m n) [
      | inl lt ↦ let less : nat_lt m n ≡ true = lt-ltb m n lt in let no : (m == n) ≡ false = ne_eqb m n (λ e. omega arith) in rw (less, no) refl
      | inr le ↦ let more : nat_lt m n ≡ false = le-ltb m n le in
          rw more (elim (m == n) as (λ b. is_eq (cond b Equal Greater) ≡ b) [ true ↦ refl | false ↦ refl ])
    ]

pub same-wholes : (one other : Whole) → is_eq (whole_cmp one other) ≡ (bytes_eq one.identifier.now other.identifier.now && (one.count == other.count))
same-wholes one other =
    both (slice_cmp nat_cmp one.identifier.now other.identifier.now) (nat_cmp one.count other.count)
    ∙ (λ j. is_eq-slice_cmp one.identifier.now other.identifier.now j && numbers one.count other.count j)

pub same-parts : (one other : Part) → is_eq (part_cmp one other)
    ≡ (bytes_eq one.whole.identifier.now other.whole.identifier.now && (one.whole.count == other.whole.count) && (one.index == other.index))
same-parts one other =
    both (whole_cmp one.whole other.whole) (nat_cmp one.index other.index)
    ∙ (λ j. same-wholes one.whole other.whole j && numbers one.index other.index j)

equal_from : (o : Ordering) → is_eq o ≡ true → o ≡ Equal
equal_from Less h = cc
equal_from Equal h = refl
equal_from Greater h = cc

-- one whole has one identifier and one count
pub one-whole : (one other : Whole) → is_eq (whole_cmp one other) ≡ true → (one.identifier.now ≡ other.identifier.now) × (one.count ≡ other.count)
one-whole one other h =
    let parts = and_parts (bytes_eq one.identifier.now other.identifier.now) (one.count == other.count) (sym (same-wholes one other) ∙ h) in
    ((bytes_eq-Decides one.identifier.now other.identifier.now).0 parts.0, eqb-true one.count other.count parts.1)

-- one part has one number
pub one-number : (numbers : BTreeMap Part ℕ) (one other : Part) → is_eq (part_cmp one other) ≡ true → part_number one numbers ≡ part_number other numbers
one-number numbers one other h =
    let same = equal_from (part_cmp one other) h in
    λ j. lookup (λ part. is_eq (part_cmp-total.congr one other part same j)) numbers.entries
