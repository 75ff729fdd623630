-- Events in parts that go to one file each.
use Rattle.std.proofs.Common.{◌≡◌, ℕ, suc, ◌+◌, ◌-◌, ◌%◌, ◌≤◌, ◌<◌, inl, inr, false, List, [], ◌∷◌, ◌++◌, length, get_or, take, drop, sym, ap, subst, ◌∙◌, arith}
use Rattle.std.specs.Prelude.{◌==◌}
use Rattle.std.specs.List.{range_with_len}
use Rattle.std.proofs.Math.Seq.{take-add}
use Rattle.std.proofs.lemmas.Bool.{cases_lt}
use Rattle.std.proofs.lemmas.Bool.Decides.{nat_tests}
use Rattle.std.proofs.lemmas.Grind.{flat_map-append}
use Rattle.std.proofs.lemmas.List.{length-append, length-drop, length-take-le, take-append-drop, take_at, drop_at, take-map, drop-map, drop_more}
use Rattle.std.proofs.lemmas.List.FromFn.{length-range_with_len}
use Rattle.flowfile_record.specs.declared.event.Event.{Event}
use Rattle.prov_store.specs.Blocks.{blocks_of, IsEventPart, AreEventParts}
use Rattle.prov_store.specs.State.{AreNumberedFrom, files_for}
use Rattle.flowfile_record.specs.declared.limits.TheConstants.{EVENTS_PER_FILE}
use Rattle.prov_store.specs.declared.blocks.Part.{Part}
use Rattle.prov_store.proofs.InFiles.{range_both}

-- ---- the numbers of some of the events

range_behind : (first n m : ℕ) → n ≤ m → drop n (range_with_len first m) ≡ range_with_len (first + n) (m - n)
range_behind first n m le =
    let both : m ≡ n + (m - n) = omega (arith, le) in
    ap (λ (i : ℕ). drop n (range_with_len first i)) both ∙ ap (drop n) (range_both first n (m - n))
    ∙ drop_at (range_with_len first n) (range_with_len (first + n) (m - n)) n (length-range_with_len first n)

range_front : (first n m : ℕ) → n ≤ m → take n (range_with_len first m) ≡ range_with_len first n
range_front first n m le =
    let both : m ≡ n + (m - n) = omega (arith, le) in
    ap (λ (i : ℕ). take n (range_with_len first i)) both ∙ ap (take n) (range_both first n (m - n))
    ∙ take_at (range_with_len first n) (range_with_len (first + n) (m - n)) n (length-range_with_len first n)

pub numbered_part : (first n count : ℕ) (events : List Event) → AreNumberedFrom first events → n + count ≤ length events → AreNumberedFrom (first + n) (take count (drop n events))
numbered_part first n count events numbered le =
    let long : length (take count (drop n events)) ≡ count = length-take-le count (drop n events) (omega (arith, le, length-drop n events)) in
    sym (take-map (λ (e : Event). e.number) count (drop n events)) ∙ ap (take count) (sym (drop-map (λ (e : Event). e.number) n events)) ∙ ap (λ (l : List ℕ). take count (drop n l)) numbered
    ∙ ap (take count) (range_behind first n (length events) (omega (arith, le))) ∙ range_front (first + n) count (length events - n) (omega (arith, le))
    ∙ ap (range_with_len (first + n)) (sym long)

-- ---- the first of the parts that are left

pub part_is : (last i : ℕ) (parts : List Part) (d : Part) (events : List Event) → i < length parts → AreEventParts last (drop i parts) events
    → IsEventPart last (get_or parts i d) events × AreEventParts (last + (get_or parts i d).count) (drop (i + 1) parts) (drop (get_or parts i d).count events)
part_is last i parts d events lt are = subst (λ (l : List Part). AreEventParts last l events) (drop_more parts i d lt) are

pub no_part_is : (last i : ℕ) (parts : List Part) (events : List Event) → length parts ≤ i → AreEventParts last (drop i parts) events → events ≡ []
no_part_is last i parts events le are = none (drop i parts) (omega (arith, le, length-drop i parts)) are
  where
    none : (l : List Part) → length l ≡ 0 → AreEventParts last l events → events ≡ []
    none [] long are = are
    none (p ∷ l) long are = absurd (omega (arith, long))

-- ---- the bytes of a part

pub blocks_up_to : (n count : ℕ) (events : List Event) → blocks_of (take (n + count) events) ≡ blocks_of (take n events) ++ blocks_of (take count (drop n events))
blocks_up_to n count events = ap blocks_of (take-add n count events) ∙ flat_map-append _ (take n events) (take count (drop n events))

-- so many bytes stand before them and behind them
pub record PartOf (n count start size : ℕ) (events : List Event) (bytes : List ℕ) : Type 0 where
  pub fits : start + size ≤ length bytes
  pub is : take size (drop start bytes) ≡ blocks_of (take count (drop n events))
  pub reaches : start + size ≡ length (blocks_of (take (n + count) events))

pub part_of : (n count start size : ℕ) (events : List Event) (bytes : List ℕ) → bytes ≡ blocks_of events → start ≡ length (blocks_of (take n events))
    → size ≡ length (blocks_of (take count (drop n events))) → PartOf n count start size events bytes
part_of n count start size events bytes is begins long =
    let front = blocks_of (take n events) in
    let part = blocks_of (take count (drop n events)) in
    let back = blocks_of (drop count (drop n events)) in
    let rest : blocks_of (drop n events) ≡ part ++ back = ap blocks_of (sym (take-append-drop count (drop n events))) ∙ flat_map-append _ (take count (drop n events)) (drop count (drop n events)) in
    let whole : bytes ≡ front ++ (part ++ back) =
    is ∙ ap blocks_of (sym (take-append-drop n events)) ∙ flat_map-append _ (take n events) (drop n events) ∙ ap (λ (l : List ℕ). front ++ l) rest in
    record {
      fits = omega (arith, begins, long, ap length whole, length-append front (part ++ back), length-append part back);
      is = ap (λ (l : List ℕ). take size (drop start l)) whole ∙ ap (take size) (drop_at front (part ++ back) start (sym begins)) ∙ take_at part back size (sym long);
      reaches = omega (arith, begins, long, ap length (blocks_up_to n count events), length-append front part);
    }

-- ---- how many parts there are

one_file : (last n : ℕ) → 0 < n → last % EVENTS_PER_FILE + n ≤ EVENTS_PER_FILE → files_for last n ≡ 1
one_file last n some fits =
    let test : (n == 0) ≡ false = grind (arith, nat_tests, some) in
    rw test (omega (arith, some, fits))

file_more : (last n count : ℕ) → 0 < n → n < count → last % EVENTS_PER_FILE + n ≡ EVENTS_PER_FILE → files_for last count ≡ suc (files_for (last + n) (count - n))
file_more last n count some less full =
    let test : (count == 0) ≡ false = grind (arith, nat_tests, less) in
    let test_rest : (count - n == 0) ≡ false = grind (arith, nat_tests, less) in
    rw (test, test_rest) (omega (arith, some, less, full))

pub as_many_files : (last : ℕ) (parts : List Part) (events : List Event) → AreEventParts last parts events → length parts ≡ files_for last (length events)
as_many_files last [] events are = ap (λ (l : List Event). files_for last (length l)) (sym are)
as_many_files last (p ∷ parts) events are =
    let rest = as_many_files (last + p.count) parts (drop p.count events) are.1 in
    let left = length-drop p.count events in
    elim (cases_lt p.count (length events)) [
      | inl less ↦
          ap suc (rest ∙ ap (files_for (last + p.count)) left) ∙ sym (file_more last p.count (length events) are.0.some less (are.0.full less))
      | inr all ↦
          let none : length (drop p.count events) ≡ 0 = omega (arith, left, all) in
          ap suc (rest ∙ ap (files_for (last + p.count)) none) ∙ sym (one_file last (length events) (omega (arith, are.0.some, are.0.there)) (omega (arith, are.0.fits, are.0.there, all)))
    ]
