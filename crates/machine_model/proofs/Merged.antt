-- That a file that joins others, and these, make an outcome.
use Rattle.std.proofs.Common.{◌≡◌, ℕ, zero, suc, ◌+◌, ◌*◌, ◌<◌, ◌≤◌, true, false, cond, List, [], ◌∷◌, ◌++◌, map, length, refl, subst, arith}
use Rattle.std.specs.Prelude.{All, IfSome, Option, Some, None, ◌==◌, nat_le, option_map, option_and_then, fold, codes, decimal}
use Rattle.std.specs.FinMap.{get, insert, remove}
use Rattle.std.specs.List.{AllByRecursion, IsDistinct, concat, range_with_len}
use Rattle.std.specs.Option.{option_map_or}
use Rattle.std.specs.Str.{IsUtf8}
use Rattle.std.proofs.lemmas.Bool.{leb-true, ne_eqb}
use Rattle.std.proofs.lemmas.List.{append-nil, length-append, length-map}
use Rattle.std.proofs.lemmas.List.Elements.{All-nil, All-cons, All-head, All-tail, All-append, All-weaker}
use Rattle.std.proofs.lemmas.List.FromFn.{length-range_with_len}
use Rattle.std.proofs.lemmas.List.Sums.{sum_by-le}
use Rattle.flowfile_record.specs.Attributes.{AttributeMap, IsPair, IsWithinLimits, encoded_size, shared}
use Rattle.flowfile_record.specs.Outcome.{AreInTurn, IsOutcome, IsWorked, filename_to_come}
use Rattle.flowfile_record.specs.declared.TheConstants.{CONTENT_MAX}
use Rattle.flowfile_record.specs.declared.attributes.TheConstants.{ATTRIBUTES_MAX}
use Rattle.flowfile_record.specs.declared.worked.Origin.{Origin}
use Rattle.flowfile_record.specs.declared.worked.Origin.TheVariants.{Joined}
use Rattle.flowfile_record.specs.declared.worked.Outcome.{Outcome}
use Rattle.flowfile_record.specs.declared.worked.Worked.{Worked}
use Rattle.machine_model.specs.declared.kind.MergeStrategy.{MergeStrategy}
use Rattle.machine_model.specs.declared.kind.MergeStrategy.TheVariants.{BinPacking, Defragment}
use Rattle.machine_model.specs.Making.{TakenFile, made_file, may_have, or_given_up, passed_from, passed_on}
use Rattle.machine_model.specs.MergeContent.{counted, joined, joined_attributes, joined_content, may_join, merge, named_as_whole, shared_by_all, without_fragment}
use Rattle.machine_model.proofs.InTurn.{if_allowed, passed-turn, range-below}
use Rattle.machine_model.proofs.Lessened.{removed-within, shared-within}
use Rattle.machine_model.proofs.OneOutcome.{insert-pairs, literal}
use Rattle.machine_model.proofs.Options.{if_and_then, if_at, if_map, if_weaker, if_when}
use Rattle.machine_model.proofs.Parted.{IsTakenFile, number-text}
use Rattle.machine_model.proofs.SetWhole.{attributes-find}

abbrev sizes_of : List TakenFile → List ℕ
sizes_of taken = map (λ file. length file.bytes) taken

-- ---- what the joined file has

shared-from : (attributes : AttributeMap) (files : List TakenFile) → IsWithinLimits attributes → IsWithinLimits (fold (λ these (other : TakenFile). shared these other.attributes) attributes files)
shared-from attributes [] within = within
shared-from attributes (file ∷ files) within = shared-from (shared attributes file.attributes) files (shared-within attributes file.attributes within)

shared-all : (taken : List TakenFile) → 1 ≤ length taken → All IsTakenFile taken → IsWithinLimits (shared_by_all taken)
shared-all [] some all = absurd (omega arith)
shared-all (file ∷ files) some all = shared-from file.attributes files (All-head IsTakenFile file files all).textual.attributes

fragment-within : (attributes : AttributeMap) → IsWithinLimits attributes → IsWithinLimits (without_fragment attributes)
fragment-within attributes within =
    let first = remove attributes (codes "fragment.identifier") in
    let second = remove first (codes "fragment.index") in
    removed-within second (codes "fragment.count")
    (removed-within first (codes "fragment.index") (removed-within attributes (codes "fragment.identifier") within))

-- attributes that a file of this origin may have
record MayHave (origin : Origin) (attributes : AttributeMap) : Type 0 where
  within : IsWithinLimits attributes
  named : encoded_size attributes + filename_to_come origin attributes ≤ ATTRIBUTES_MAX

set-is : (origin : Origin) (attributes : AttributeMap) (key value : List ℕ) → IsPair (key, value) → IsWithinLimits attributes
    → IfSome (cond (may_have origin (insert attributes key value)) (Some (insert attributes key value)) None) (MayHave origin)
set-is origin attributes key value pair within =
    let set = insert attributes key value in
    if_when (may_have origin set) set (MayHave origin) (λ may.
    let few = leb-true (encoded_size set + filename_to_come origin set) ATTRIBUTES_MAX may in
    record { within = record { pairs = insert-pairs attributes key value pair within.pairs; size = omega (arith, few) }; named = few })

named-is : (strategy : MergeStrategy) (origin : Origin) (attributes : AttributeMap) → IsWithinLimits attributes → IfSome (named_as_whole strategy origin attributes) IsWithinLimits
named-is BinPacking origin attributes within = within
named-is Defragment origin attributes within =
    by_name (get attributes (codes "segment.original.filename")) (attributes-find attributes within (codes "segment.original.filename"))
  where
    by_name : (name : Option (List ℕ)) → IfSome name IsUtf8
        → IfSome (option_map_or (λ name. cond (may_have origin (insert attributes (codes "filename") name)) (Some (insert attributes (codes "filename") name)) None) name (Some attributes)) IsWithinLimits
    by_name None text = within
    by_name (Some name) text =
        let set = insert attributes (codes "filename") name in
        let pair : IsPair (codes "filename", name) = record { key = refl; key_text = literal (codes "filename") refl; value_text = text } in
        if_weaker (cond (may_have origin set) (Some set) None) (MayHave origin) IsWithinLimits (λ set is. is.within) (set-is origin attributes (codes "filename") name pair within)

counted-is : (count : ℕ) (origin : Origin) (attributes : AttributeMap) → count ≤ CONTENT_MAX → IsWithinLimits attributes → IfSome (counted count origin attributes) (MayHave origin)
counted-is count origin attributes few within =
    set-is origin (remove attributes (codes "segment.original.filename")) (codes "merge.count") (decimal count)
    (record { key = refl; key_text = literal (codes "merge.count") refl; value_text = number-text count few })
    (removed-within attributes (codes "segment.original.filename") within)

attributes-are : (strategy : MergeStrategy) (origin : Origin) (taken : List TakenFile) → 1 ≤ length taken → length taken ≤ 1_000 → All IsTakenFile taken → IfSome (joined_attributes strategy origin taken) (MayHave origin)
attributes-are strategy origin taken some few all =
    let common = shared_by_all taken in
    let own = without_fragment common in
    let named = named_as_whole strategy origin own in
    if_allowed (may_have origin common) (option_and_then (counted (length taken) origin) named) (MayHave origin) (λ may.
    if_and_then (counted (length taken) origin) named (MayHave origin) (λ attributes got.
    counted-is (length taken) origin attributes (omega (arith, few))
    (if_at named attributes IsWithinLimits got (named-is strategy origin own (fragment-within common (shared-all taken some all))))))

content-few : (taken : List TakenFile) → IfSome (joined_content taken) (λ bytes. length bytes ≤ CONTENT_MAX)
content-few taken =
    let all = concat (map (λ (file : TakenFile). file.bytes) taken) in
    if_when (nat_le (length all) CONTENT_MAX) all (λ bytes. length bytes ≤ CONTENT_MAX) (leb-true (length all) CONTENT_MAX)

-- ---- its parents

range-apart : (count from one : ℕ) → one < from → AllByRecursion (λ other. (one == other) ≡ false) (range_with_len from count)
range-apart zero from one before = tt
range-apart (suc count) from one before = (ne_eqb one from (λ e. omega arith), range-apart count (from + 1) one (omega arith))

range-distinct : (count from : ℕ) → IsDistinct (λ one other. one == other) (range_with_len from count)
unfolding IsDistinct
range-distinct zero from = tt
range-distinct (suc count) from = (range-apart count (from + 1) from (omega arith), range-distinct count (from + 1))

-- ---- all files

joined-worked : (sizes : List ℕ) (count : ℕ) (attributes : AttributeMap) (bytes : List ℕ) → 1 ≤ count → length bytes ≤ CONTENT_MAX → MayHave (Joined (range_with_len 0 count)) attributes
    → IsWorked 3 sizes (made_file (Joined (range_with_len 0 count)) attributes bytes true 0)
joined-worked sizes count attributes bytes some few may = record {
  names = (omega (arith, length-range_with_len 0 count), range-distinct count 0);
  body = few;
  ends = omega arith;
  routed = tt;
  attributes = may.within;
  named = may.named;
}

passed-each : (relationship place : ℕ) (sizes : List ℕ) (taken : List TakenFile) → relationship < 3 → place + length taken ≤ length sizes → All IsTakenFile taken → All (IsWorked 3 sizes) (passed_from place relationship taken)
passed-each relationship place sizes [] there there_are all = All-nil (IsWorked 3 sizes)
passed-each relationship place sizes (file ∷ taken) there there_are all =
    let within = (All-head IsTakenFile file taken all).textual.attributes in
    All-cons (IsWorked 3 sizes) (passed_on place file.attributes false relationship) (passed_from (place + 1) relationship taken) (record {
      names = tt;
      body = omega (arith, there_are);
      ends = there;
      routed = tt;
      attributes = within;
      named = omega (arith, within.size);
    }) (passed-each relationship (place + 1) sizes taken there (omega (arith, there_are)) (All-tail IsTakenFile file taken all))

passed-many : (relationship place : ℕ) (taken : List TakenFile) → length (passed_from place relationship taken) ≡ length taken
passed-many relationship place [] = refl
passed-many relationship place (file ∷ taken) = omega (arith, passed-many relationship (place + 1) taken)

many-outcome : (sizes : List ℕ) (files : List Worked) → length sizes ≤ 1_000 → length files ≤ 1_001 → AreInTurn 0 (length sizes) files → All (IsWorked 3 sizes) files
    → IsOutcome 3 sizes (record { files = files; sent = None })
many-outcome sizes files few many turn each =
    let short = All-weaker (IsWorked 3 sizes) (λ file. encoded_size file.attributes ≤ 65_536) (λ file worked. worked.attributes.size) files each in
    let most : length files * 65_536 ≤ 65_601_536 = omega (arith, many) in
    record {
      taken = omega (arith, few);
      count = omega (arith, many);
      in_turn = turn;
      each = each;
      attributes = omega (arith, most, sum_by-le (λ (file : Worked). encoded_size file.attributes) 65_536 files short);
      sent = tt;
    }

joined-gives : (strategy : MergeStrategy) (taken : List TakenFile) → 1 ≤ length taken → length taken ≤ 1_000 → All IsTakenFile taken → IfSome (joined strategy taken) (IsOutcome 3 (sizes_of taken))
joined-gives strategy taken some few all =
    let count = length taken in
    let sizes = sizes_of taken in
    let origin = Joined (range_with_len 0 count) in
    let long : length sizes ≡ count = length-map taken (λ (file : TakenFile). length file.bytes) in
    let passed = passed_from 0 1 taken in
    let merged : AttributeMap → List ℕ → Worked = λ attributes bytes. made_file origin attributes bytes true 0 in
    let outcome : AttributeMap → List ℕ → Outcome = λ attributes bytes. record { files = passed ++ merged attributes bytes ∷ []; sent = None } in
    if_and_then (λ attributes. option_map (outcome attributes) (joined_content taken)) (joined_attributes strategy origin taken) (IsOutcome 3 sizes) (λ attributes got.
    let may = if_at (joined_attributes strategy origin taken) attributes (MayHave origin) got (attributes-are strategy origin taken some few all) in
    if_map (outcome attributes) (joined_content taken) (IsOutcome 3 sizes) (λ bytes has.
    let short = if_at (joined_content taken) bytes (λ bytes. length bytes ≤ CONTENT_MAX) has (content-few taken) in
    let last = merged attributes bytes ∷ [] in
    many-outcome sizes (passed ++ last) (omega (arith, long, few)) (omega (arith, few, length-append passed last, passed-many 1 0 taken))
    (passed-turn 1 0 (length sizes) taken last (omega (arith, long)) (record { as_made = refl; parents = range-below 0 count (length sizes) (omega (arith, long)) }, tt))
    (All-append (IsWorked 3 sizes) passed last (passed-each 1 0 sizes taken (omega arith) (omega (arith, long)) all)
    (All-cons (IsWorked 3 sizes) (merged attributes bytes) [] (joined-worked sizes count attributes bytes some short may) (All-nil (IsWorked 3 sizes))))))

given-up-gives : (taken : List TakenFile) (made : Option Outcome) → length taken ≤ 1_000 → All IsTakenFile taken → IfSome made (IsOutcome 3 (sizes_of taken)) → IsOutcome 3 (sizes_of taken) (or_given_up 2 taken made)
given-up-gives taken (Some outcome) few all is = is
given-up-gives taken None few all is =
    let sizes = sizes_of taken in
    let long : length sizes ≡ length taken = length-map taken (λ (file : TakenFile). length file.bytes) in
    let passed = passed_from 0 2 taken in
    many-outcome sizes passed (omega (arith, long, few)) (omega (arith, few, passed-many 2 0 taken))
    (subst (AreInTurn 0 (length sizes)) (append-nil passed) (passed-turn 2 0 (length sizes) taken [] (omega (arith, long)) tt))
    (passed-each 2 0 sizes taken (omega arith) (omega (arith, long)) all)

pub merge-gives : (strategy : MergeStrategy) (taken : List TakenFile) → 1 ≤ length taken → length taken ≤ 1_000 → All IsTakenFile taken → IsOutcome 3 (map (λ file. length file.bytes) taken) (merge strategy taken)
merge-gives strategy taken some few all =
    given-up-gives taken (cond (may_join strategy taken) (joined strategy taken) None) few all
    (if_allowed (may_join strategy taken) (joined strategy taken) (IsOutcome 3 (sizes_of taken)) (λ may. joined-gives strategy taken some few all))
