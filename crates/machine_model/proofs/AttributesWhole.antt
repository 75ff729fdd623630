-- That what the processors of attributes make of the file that they took is an outcome of theirs.
use Rattle.std.proofs.Common.{◌≡◌, ℕ, ◌+◌, ◌*◌, ◌<◌, ◌≤◌, Bool, true, false, List, [], ◌∷◌, map, length, arith}
use Rattle.std.specs.Prelude.{All, IfSome, IsTrue, Option, Some, None, ◌==◌, nat_le, cond, filter, option_map, replicate, slice_get}
use Rattle.std.specs.List.{enumerate_from}
use Rattle.std.proofs.lemmas.Bool.{and_parts, leb-true, ne_eqb}
use Rattle.std.proofs.lemmas.List.{length-map, length-replicate}
use Rattle.std.proofs.lemmas.List.Elements.{All-nil, All-cons, All-head, All-tail, All-map, All-replicate, All-weaker}
use Rattle.std.proofs.lemmas.List.Sums.{sum_by-le}
use Rattle.flowfile_record.specs.Attributes.{AttributeMap, IsWithinLimits, encoded_size}
use Rattle.flowfile_record.specs.Outcome.{IsWorked, IsOutcome, AreInTurn, filename_to_come}
use Rattle.flowfile_record.specs.declared.attributes.TheConstants.{ATTRIBUTES_MAX}
use Rattle.flowfile_record.specs.declared.worked.Origin.TheVariants.{Cloned}
use Rattle.flowfile_record.specs.declared.worked.Outcome.{Outcome}
use Rattle.flowfile_record.specs.declared.worked.Worked.{Worked}
use Rattle.machine_model.specs.declared.kind.OwnExpression.{OwnExpression}
use Rattle.machine_model.specs.declared.limits.TheConstants.{COPIES_MAX}
use Rattle.machine_model.specs.Making.{TakenFile, passed_on, clone_of, found_in, may_have, or_given_up}
use Rattle.machine_model.specs.RouteOnAttribute.{route, routed, routed_file, routed_clone, is_true_of, true_places, with_clones}
use Rattle.machine_model.specs.DuplicateFlowFile.{duplicate, duplicated}
use Rattle.machine_model.specs.Sound.{within}
use Rattle.machine_model.proofs.Acted.{passed_alone, passed-then-made, routed-then-made, is-clone, are-clones, are-routed}
use Rattle.machine_model.proofs.OneOutcome.{passed-worked}
use Rattle.machine_model.proofs.Options.{if_when}

-- ---- outcomes of one taken file

-- it, and files that are made of it
pub few-outcome : (relationships size : ℕ) (files : List Worked) → length files ≤ 1000 → AreInTurn 0 1 files → All (IsWorked relationships (size ∷ [])) files
    → IsOutcome relationships (size ∷ []) (record { files = files; sent = None })
few-outcome relationships size files few turn each =
    let short = All-weaker (IsWorked relationships (size ∷ [])) (λ file. encoded_size file.attributes ≤ 65536) (λ file worked. worked.attributes.size) files each in
    let most : length files * 65536 ≤ 65536000 = omega arith in
    record {
      taken = omega arith;
      count = omega arith;
      in_turn = turn;
      each = each;
      attributes = omega (arith, sum_by-le (λ (file : Worked). encoded_size file.attributes) 65536 files short);
      sent = tt;
    }

pub alone-outcome : (relationships size : ℕ) (file : Worked) → AreInTurn 0 1 (file ∷ []) → IsWorked relationships (size ∷ []) file
    → IsOutcome relationships (size ∷ []) (record { files = file ∷ []; sent = None })
alone-outcome relationships size file turn worked =
    few-outcome relationships size (file ∷ []) (omega arith) turn (All-cons (IsWorked relationships (size ∷ [])) file [] worked (All-nil (IsWorked relationships (size ∷ []))))

pub passed-gives : (relationships relationship size : ℕ) (attributes : AttributeMap) → relationship < relationships → IsWithinLimits attributes
    → IsOutcome relationships (size ∷ []) (record { files = passed_on 0 attributes false relationship ∷ []; sent = None })
passed-gives relationships relationship size attributes there within =
    alone-outcome relationships size (passed_on 0 attributes false relationship) (passed_alone attributes false relationship)
    (passed-worked relationships relationship size attributes false there within)

pub or-given-up-gives : (relationships relationship size : ℕ) (file : TakenFile) (made : Option Outcome) → relationship < relationships → IsWithinLimits file.attributes
    → IfSome made (IsOutcome relationships (size ∷ [])) → IsOutcome relationships (size ∷ []) (or_given_up relationship (file ∷ []) made)
or-given-up-gives relationships relationship size file (Some outcome) there within is = is
or-given-up-gives relationships relationship size file None there within is = passed-gives relationships relationship size file.attributes there within

-- what a processor makes of each file that it may be handed, where it takes one
pub one-gives : (relationships : ℕ) (makes : TakenFile → Outcome) (Has : TakenFile → Type 0)
    → ((file : TakenFile) → Has file → IsOutcome relationships (length file.bytes ∷ []) (makes file)) → (taken : List TakenFile) → length taken ≡ 1 → All Has taken
    → IfSome (option_map makes (slice_get taken 0)) (IsOutcome relationships (map (λ file. length file.bytes) taken))
one-gives relationships makes Has gives [] one all = tt
one-gives relationships makes Has gives (file ∷ []) one all = gives file (All-head Has file [] all)
one-gives relationships makes Has gives (file ∷ other ∷ rest) one all = absurd (omega arith)

-- ---- clones

may-have-most : (attributes : AttributeMap) → may_have (Cloned 0) attributes ≡ true → encoded_size attributes + filename_to_come (Cloned 0) attributes ≤ ATTRIBUTES_MAX
may-have-most attributes may = leb-true (encoded_size attributes + filename_to_come (Cloned 0) attributes) ATTRIBUTES_MAX may

clone-worked : (relationships relationship size : ℕ) (attributes : AttributeMap) → relationship < relationships → IsWithinLimits attributes → may_have (Cloned 0) attributes ≡ true
    → IsWorked relationships (size ∷ []) (clone_of 0 attributes relationship)
clone-worked relationships relationship size attributes there within may = record {
  names = tt;
  body = omega arith;
  ends = there;
  routed = tt;
  attributes = within;
  named = may-have-most attributes may;
}

duplicated-gives : (copies size : ℕ) (file : TakenFile) → copies ≤ 999 → IsWithinLimits file.attributes → IfSome (duplicated copies file) (IsOutcome 1 (size ∷ []))
duplicated-gives copies size file few within =
    let clone = clone_of 0 file.attributes 0 in
    let clones = replicate copies clone in
    let Is = IsWorked 1 (size ∷ []) in
    if_when (may_have (Cloned 0) file.attributes) (record { files = passed_on 0 file.attributes false 0 ∷ clones; sent = None }) (IsOutcome 1 (size ∷ []))
    (λ may. few-outcome 1 size (passed_on 0 file.attributes false 0 ∷ clones) (omega (arith, length-replicate copies clone))
    (passed-then-made file.attributes 0 clones (are-clones copies clone (is-clone file.attributes 0)))
    (All-cons Is (passed_on 0 file.attributes false 0) clones (passed-worked 1 0 size file.attributes false (omega arith) within)
    (All-replicate Is copies clone (clone-worked 1 0 size file.attributes (omega arith) within may))))

pub duplicate-gives : (copies : ℕ) (file : TakenFile) → IsTrue (within 1 copies COPIES_MAX) → IsWithinLimits file.attributes → IsOutcome 1 (length file.bytes ∷ []) (duplicate copies file)
duplicate-gives copies file range within =
    or-given-up-gives 1 0 (length file.bytes) file (duplicated copies file) (omega arith) within
    (duplicated-gives copies (length file.bytes) file (leb-true copies COPIES_MAX (and_parts (nat_le 1 copies) (nat_le copies COPIES_MAX) range).1) within)

-- ---- routes

routed-worked : (relationships relationship size : ℕ) (attributes : AttributeMap) → relationship < relationships → IsWithinLimits attributes → IsWorked relationships (size ∷ []) (routed_file attributes relationship)
routed-worked relationships relationship size attributes there within = record {
  names = tt;
  body = omega arith;
  ends = there;
  routed = there;
  attributes = within;
  named = omega (arith, within.size);
}

routed-clone-worked : (relationships relationship size : ℕ) (attributes : AttributeMap) → relationship < relationships → IsWithinLimits attributes → may_have (Cloned 0) attributes ≡ true
    → IsWorked relationships (size ∷ []) (routed_clone attributes relationship)
routed-clone-worked relationships relationship size attributes there within may = record {
  names = tt;
  body = omega arith;
  ends = there;
  routed = there;
  attributes = within;
  named = may-have-most attributes may;
}

-- few places, all of them lower than another
pub record AreFewBelow (most limit : ℕ) (places : List ℕ) : Type 0 where
  pub few : length places ≤ most
  pub each : All (λ place. place < limit) places

pub places-below : {A : Type 0} (passes : A → Bool) (from limit : ℕ) (own : List A) → from + length own ≤ limit
    → AreFewBelow (length own) limit (map (λ p. p.0) (filter (λ p. passes p.1) (enumerate_from from own)))
places-below passes from limit [] le = record { few = omega arith; each = All-nil (λ place. place < limit) }
places-below {A} passes from limit (property ∷ own) le =
    let rest = places-below passes (from + 1) limit own (omega arith) in
    let later = filter (λ (p : ℕ × A). passes p.1) (enumerate_from (from + 1) own) in
    elim (passes property) as (λ b. AreFewBelow (length (property ∷ own)) limit (map (λ p. p.0) (cond b ((from, property) ∷ later) later))) [
      | true ↦ record { few = omega (arith, rest.few); each = All-cons (λ place. place < limit) from (map (λ p. p.0) later) (omega arith) rest.each }
      | false ↦ record { few = omega (arith, rest.few); each = rest.each }
    ]

routed-clones-worked : (relationships size : ℕ) (attributes : AttributeMap) (others : List ℕ) → All (λ place. place < relationships) others → IsWithinLimits attributes → may_have (Cloned 0) attributes ≡ true
    → All (IsWorked relationships (size ∷ [])) (map (routed_clone attributes) others)
routed-clones-worked relationships size attributes others there within may =
    All-map (IsWorked relationships (size ∷ [])) (routed_clone attributes) others
    (All-weaker (λ place. place < relationships) (λ place. IsWorked relationships (size ∷ []) (routed_clone attributes place))
    (λ place below. routed-clone-worked relationships place size attributes below within may) others there)

routed-alone-gives : (relationships relationship size : ℕ) (attributes : AttributeMap) → relationship < relationships → IsWithinLimits attributes
    → IsOutcome relationships (size ∷ []) (record { files = routed_file attributes relationship ∷ []; sent = None })
routed-alone-gives relationships relationship size attributes there within =
    alone-outcome relationships size (routed_file attributes relationship) (routed-then-made attributes relationship [] tt)
    (routed-worked relationships relationship size attributes there within)

with-clones-gives : (relationships size : ℕ) (attributes : AttributeMap) (first : ℕ) (others : List ℕ) → AreFewBelow 64 relationships (first ∷ others) → IsWithinLimits attributes
    → IfSome (with_clones attributes first others) (IsOutcome relationships (size ∷ []))
with-clones-gives relationships size attributes first [] places within =
    routed-alone-gives relationships first size attributes (All-head (λ place. place < relationships) first [] places.each) within
with-clones-gives relationships size attributes first (other ∷ rest) places within =
    let others = other ∷ rest in
    let clones = map (routed_clone attributes) others in
    let some : (length others == 0) ≡ false = ne_eqb (length others) 0 (λ e. omega arith) in
    let there = All-head (λ place. place < relationships) first others places.each in
    let behind = All-tail (λ place. place < relationships) first others places.each in
    rw some (if_when (may_have (Cloned 0) attributes) (record { files = routed_file attributes first ∷ clones; sent = None }) (IsOutcome relationships (size ∷ []))
    (λ may. few-outcome relationships size (routed_file attributes first ∷ clones) (omega (arith, places.few, length-map others (routed_clone attributes)))
    (routed-then-made attributes first clones (are-routed attributes others))
    (All-cons (IsWorked relationships (size ∷ [])) (routed_file attributes first) clones (routed-worked relationships first size attributes there within)
    (routed-clones-worked relationships size attributes others behind within may))))

pub routed-gives : (relationships unmatched : ℕ) (file : TakenFile) (places : List ℕ) → unmatched < relationships → AreFewBelow 64 relationships places → IsWithinLimits file.attributes
    → IsOutcome relationships (length file.bytes ∷ []) (routed unmatched file places)
routed-gives relationships unmatched file [] there places within = routed-alone-gives relationships unmatched (length file.bytes) file.attributes there within
routed-gives relationships unmatched file (first ∷ others) there places within =
    or-given-up-gives relationships unmatched (length file.bytes) file (with_clones file.attributes first others) there within
    (with-clones-gives relationships (length file.bytes) file.attributes first others places within)

pub route-gives : (own : List OwnExpression) (relationships : ℕ) (file : TakenFile) → length own < relationships → length own ≤ 64 → IsWithinLimits file.attributes
    → IsOutcome relationships (length file.bytes ∷ []) (route own file)
route-gives own relationships file more few within =
    let places = places-below (is_true_of (found_in file)) 0 relationships own (omega arith) in
    routed-gives relationships (length own) file (true_places (found_in file) own) more (record { few = omega (arith, places.few); each = places.each }) within
