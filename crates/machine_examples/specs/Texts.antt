-- Tried: what the processors make that read a content as text.
use Rattle.std.specs.Prelude.{◌≡◌, ℕ, ◌+◌, false, List, [], ◌∷◌, length, replicate, ◌++◌, Some, codes}
use Rattle.std.specs.FinMap.{empty, insert}
use Rattle.flowfile_record.specs.Attributes.{AttributeMap}
use Rattle.flowfile_record.specs.declared.worked.Outcome.{Outcome}
use Rattle.machine_model.specs.declared.kind.Kind.{Kind}
use Rattle.machine_model.specs.declared.kind.Kind.TheVariants.{ExtractText, ReplaceText, RouteOnContent}
use Rattle.machine_model.specs.declared.kind.MatchRequirement.TheVariants.{Contains}
use Rattle.machine_model.specs.declared.kind.OwnPattern.{OwnPattern}
use Rattle.machine_model.specs.declared.kind.Replacement.{Replacement}
use Rattle.machine_model.specs.declared.kind.Replacement.TheVariants.{Literal, Regex}
use Rattle.machine_model.specs.declared.pattern.Pattern.{Pattern}
use Rattle.machine_model.specs.Acting.{act}
use Rattle.machine_model.specs.AttributesToJson.{written_on}
use Rattle.machine_model.specs.ExtractText.{found_pairs, value_between}
use Rattle.machine_model.specs.Making.{alone, passed_on}
use Rattle.machine_model.specs.RouteOnAttribute.{routed_file}
use Rattle.machine_examples.specs.Small.{at_moment}

-- what a processor makes of one file with these bytes and no attributes
abbrev pub no_attributes : AttributeMap
no_attributes = empty

abbrev pub MakesOf : Kind → (bytes : List ℕ) → Outcome → Type 0
MakesOf kind bytes outcome =
    (uuid : List ℕ) →
    act kind (record { attributes = no_attributes; uuid = uuid; bytes = bytes } ∷ []) (at_moment 1000)
    ≡ Some outcome

abbrev pub passed_to : (relationship : ℕ) → Outcome
passed_to relationship = alone (passed_on 0 no_attributes false relationship)

-- a byte that begins no character
abbrev pub no_text : List ℕ
no_text = 255 ∷ []

-- ---- ExtractText

abbrev pub ReadFrom : List ℕ → Pattern → Type 0
ReadFrom text pattern = pattern.text ≡ text

abbrev pub own_of : (name : List ℕ) → Pattern → List OwnPattern
own_of name pattern = record { name = name; pattern = pattern } ∷ []

-- a digit in group 1, and behind it maybe an x in group 2
abbrev pub digit : List ℕ
digit = codes "(\\d)(x)?"

-- group 2 takes no part
abbrev pub with_digit : AttributeMap
with_digit =
    insert (insert (insert no_attributes (codes "k.0") (codes "7")) (codes "k.1") (codes "7")) (codes "k") (codes "7")

abbrev pub DigitIsExtracted : Type 0
DigitIsExtracted = (pattern : Pattern) → ReadFrom digit pattern →
    MakesOf (ExtractText (own_of (codes "k") pattern)) (codes "a7") (alone (passed_on 0 with_digit false 0))

-- group 2 takes part, and the property's own name has what group 1 matched
abbrev pub XIsSecond : Type 0
XIsSecond = (pattern : Pattern) → ReadFrom digit pattern →
    found_pairs (codes "a7x") (own_of (codes "k") pattern)
    ≡ (codes "k.0", codes "7x") ∷ (codes "k.1", codes "7") ∷ (codes "k.2", codes "x") ∷ (codes "k", codes "7") ∷ []

abbrev pub NoDigitIsUnmatched : Type 0
NoDigitIsUnmatched = (pattern : Pattern) → ReadFrom digit pattern →
    MakesOf (ExtractText (own_of (codes "k") pattern)) (codes "ab") (passed_to 1)

-- 254 bytes are a name, and the two more of `.0` are too many
abbrev pub LongNameIsUnmatched : Type 0
LongNameIsUnmatched = (pattern : Pattern) → ReadFrom digit pattern →
    MakesOf (ExtractText (own_of (replicate 254 107) pattern)) (codes "a7") (passed_to 1)

abbrev pub NoTextIsUnmatched : Type 0
NoTextIsUnmatched = (own : List OwnPattern) → MakesOf (ExtractText own) no_text (passed_to 1)

-- a character of two bytes that passes 1,024 bytes is left out, and one that doesn't stays
abbrev pub ValueIs : (before : ℕ) → (kept : List ℕ) → Type 0
ValueIs before kept =
    value_between (replicate before 97 ++ 195 ∷ 169 ∷ []) (0, before + 2) ≡ replicate before 97 ++ kept

-- ---- RouteOnContent

abbrev pub NoTextIsRoutedToUnmatched : Type 0
NoTextIsRoutedToUnmatched = (own : List OwnPattern) →
    MakesOf (RouteOnContent Contains own) no_text (alone (routed_file no_attributes (length own)))

abbrev pub two_own : (first second : Pattern) → List OwnPattern
two_own first second =
    record { name = codes "one"; pattern = first } ∷ record { name = codes "two"; pattern = second } ∷ []

abbrev pub SecondFinds : Type 0
SecondFinds = (first second : Pattern) → ReadFrom (codes "y") first → ReadFrom digit second →
    MakesOf (RouteOnContent Contains (two_own first second)) (codes "a7") (alone (routed_file no_attributes 1))

-- ---- ReplaceText

abbrev pub Replaces : Replacement → (bytes written : List ℕ) → Type 0
Replaces replacement bytes written = MakesOf (ReplaceText replacement) bytes (alone (written_on no_attributes written))

abbrev pub LiteralReplaces : Type 0
LiteralReplaces = Replaces (Literal (codes "aa") (codes "b")) (codes "aaaca") (codes "baca")

abbrev pub NoTextFails : Type 0
NoTextFails = (replacement : Replacement) → MakesOf (ReplaceText replacement) no_text (passed_to 1)

-- a group that took no part writes nothing, and two dollar signs are one
abbrev pub TemplateReplaces : Type 0
TemplateReplaces = (pattern : Pattern) → ReadFrom digit pattern →
    Replaces (Regex pattern (codes "<$1$2$$>")) (codes "a7b") (codes "a<7$>b")
