-- That an object of texts is written as a text.
use Rattle.std.proofs.Common.{ℕ, Bool, true, false, List, [], ◌∷◌, ◌++◌, refl}
use Rattle.std.specs.Prelude.{All}
use Rattle.std.specs.List.{fold}
use Rattle.std.specs.Ordering.{nat_cmp, match_ordering}
use Rattle.std.specs.Cmp.Lexicographic.{slice_cmp}
use Rattle.std.specs.declared.cmp.Ordering.TheVariants.{Less, Equal, Greater}
use Rattle.std.specs.Str.{IsUtf8}
use Rattle.std.proofs.lemmas.List.Elements.{All-head, All-tail}
use Rattle.std.proofs.lemmas.Str.{IsUtf8-append, IsUtf8-nil}
use Rattle.json.proofs.Printed.Utf8.{IsUtf8-are_ascii, IsUtf8-quoted}
use Rattle.json.specs.Print.{quoted}
use Rattle.serde_json.specs.Data.{Data, string, Members, no_members, member, put}
use Rattle.serde_json.specs.Written.{comma_if, compact_text, members_text}
use Rattle.machine_model.specs.AttributesToJson.{object_of}

-- a name and a value that are texts
pub record IsTextPair (pair : List ℕ × List ℕ) : Type 0 where
  pub name : IsUtf8 pair.0
  pub value : IsUtf8 pair.1

abbrev IsTextData : Data → Type 0
IsTextData (string s) = IsUtf8 s
IsTextData _ = ⊥

abbrev AreTextMembers : Members → Type 0
AreTextMembers no_members = Unit {0}
AreTextMembers (member key value members) = IsUtf8 key × IsTextData value × AreTextMembers members

put-texts : (key value : List ℕ) → IsUtf8 key → IsUtf8 value → (members : Members) → AreTextMembers members → AreTextMembers (put key (string value) members)
put-texts key value named is no_members all = (named, is, tt)
put-texts key value named is (member other standing members) all =
    let first = string value in
    elim (slice_cmp nat_cmp key other) as (λ o. AreTextMembers (match_ordering o (member key first (member other standing members)) (member other first members) (member other standing (put key first members)))) [
      | Less ↦ (named, is, all)
      | Equal ↦ (all.0, is, all.2)
      | Greater ↦ (all.0, all.1, put-texts key value named is members all.2)
    ]

puts-texts : (pairs : List (List ℕ × List ℕ)) (members : Members) → All IsTextPair pairs → AreTextMembers members
    → AreTextMembers (fold (λ members pair. put pair.0 (string pair.1) members) members pairs)
puts-texts [] before each all = all
puts-texts (pair ∷ pairs) before each all =
    let is = All-head IsTextPair pair pairs each in
    puts-texts pairs (put pair.0 (string pair.1) before) (All-tail IsTextPair pair pairs each) (put-texts pair.0 pair.1 is.name is.value before all)

data-text : (value : Data) → IsTextData value → IsUtf8 (compact_text value)
data-text (string s) is = IsUtf8-quoted s is
data-text _ is = absurd is

comma-text : (later : Bool) → IsUtf8 (comma_if later)
comma-text true = IsUtf8-are_ascii (44 ∷ []) refl
comma-text false = IsUtf8-nil

written-text : (later : Bool) (members : Members) → AreTextMembers members → IsUtf8 (members_text later members)
written-text later no_members all = IsUtf8-are_ascii (125 ∷ []) refl
written-text later (member key value members) all =
    IsUtf8-append (comma_if later) (quoted key ++ 58 ∷ (compact_text value ++ members_text true members)) (comma-text later)
    (IsUtf8-append (quoted key) (58 ∷ (compact_text value ++ members_text true members)) (IsUtf8-quoted key all.0)
    (IsUtf8-append (58 ∷ []) (compact_text value ++ members_text true members) (IsUtf8-are_ascii (58 ∷ []) refl)
    (IsUtf8-append (compact_text value) (members_text true members) (data-text value all.1) (written-text true members all.2))))

pub object-text : (pairs : List (List ℕ × List ℕ)) → All IsTextPair pairs → IsUtf8 (compact_text (object_of pairs))
object-text pairs each =
    let members = fold (λ (members : Members) (pair : List ℕ × List ℕ). put pair.0 (string pair.1) members) no_members pairs in
    IsUtf8-append (123 ∷ []) (members_text false members) (IsUtf8-are_ascii (123 ∷ []) refl) (written-text false members (puts-texts pairs no_members each tt))
