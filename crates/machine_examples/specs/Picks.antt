-- Tried: which files a session takes of the eligible ones.
use Rattle.std.specs.Prelude.{◌≡◌, ℕ, List, [], ◌∷◌, Option, Some, None, codes}
use Rattle.std.specs.FinMap.{empty, insert}
use Rattle.flowfile_record.specs.Attributes.{AttributeMap}
use Rattle.machine_model.specs.declared.kind.TakeRule.{TakeRule}
use Rattle.machine_model.specs.declared.kind.TakeRule.TheVariants.{Bin, Defragment}
use Rattle.machine_model.specs.View.{FileView}
use Rattle.machine_model.specs.Files.{view_of}
use Rattle.machine_model.specs.Taking.{Fragment, fragment_of, picks}
use Rattle.machine_examples.specs.Small.{a_file, waiting}

abbrev pub PicksOf : TakeRule → List FileView → Option (List FileView) → Type 0
PicksOf rule files answer = picks rule files ≡ answer

abbrev pub one : FileView
one = view_of (a_file 1 1)

abbrev pub two : FileView
two = view_of (a_file 2 2)

abbrev pub three : FileView
three = view_of (a_file 3 3)

-- a first file that fills a content, with nothing, two bytes or none behind it
abbrev pub FullPicks : (min : ℕ) → List FileView → (FileView → Option (List FileView)) → Type 0
FullPicks min others answer =
    (full : FileView) → full.size ≡ 16_777_216 → picks (Bin min 5) (full ∷ others) ≡ answer full

abbrev pub no_bytes : FileView
no_bytes = view_of (waiting 2 2 empty [])

-- ---- fragments

-- the part at an index of a whole of three
abbrev pub part : (index : ℕ) → Option Fragment
part index = Some (record { identifier = codes "w"; index = index; count = 3 })

abbrev pub saying : (index count : List ℕ) → AttributeMap
saying index count =
    insert (insert (insert empty (codes "fragment.identifier") (codes "w")) (codes "fragment.index") index)
    (codes "fragment.count") count

abbrev pub FragmentIs : (index count : List ℕ) → Option Fragment → Type 0
FragmentIs index count answer = fragment_of (saying index count) ≡ answer

-- Files a, b and c that are the parts 1, 2 and 3 of a whole, and a file that is no part of any.
pub record AreParts (a b c other : FileView) : Type 0 where
  pub first : fragment_of a.attributes ≡ part 1
  pub second : fragment_of b.attributes ≡ part 2
  pub third : fragment_of c.attributes ≡ part 3
  pub no_part : fragment_of other.attributes ≡ None

abbrev pub PicksParts : (files : FileView → FileView → FileView → FileView → List FileView)
    (answer : FileView → FileView → FileView → FileView → Option (List FileView)) → Type 0
PicksParts files answer =
    (a b c lone : FileView) → AreParts a b c lone → picks Defragment (files a b c lone) ≡ answer a b c lone

abbrev pub TwoAreNoWhole : Type 0
TwoAreNoWhole = PicksParts (λ a b c lone. a ∷ c ∷ []) (λ a b c lone. None)

abbrev pub ThreeAreAWhole : Type 0
ThreeAreAWhole = PicksParts (λ a b c lone. c ∷ a ∷ b ∷ []) (λ a b c lone. Some (a ∷ b ∷ c ∷ []))

abbrev pub LoneGoesBesideTwo : Type 0
LoneGoesBesideTwo = PicksParts (λ a b c lone. a ∷ c ∷ lone ∷ []) (λ a b c lone. Some (lone ∷ []))

abbrev pub EarlierWholeGoes : Type 0
EarlierWholeGoes = PicksParts (λ a b c lone. c ∷ lone ∷ a ∷ b ∷ []) (λ a b c lone. Some (a ∷ b ∷ c ∷ []))

abbrev pub EarlierLoneGoes : Type 0
EarlierLoneGoes = PicksParts (λ a b c lone. lone ∷ c ∷ a ∷ b ∷ []) (λ a b c lone. Some (lone ∷ []))

-- ---- fragments of two wholes

abbrev pub part_of : (whole : List ℕ) → (index count : ℕ) → Option Fragment
part_of whole index count = Some (record { identifier = whole; index = index; count = count })

-- both parts of one whole, both of another, one that doubles the first's index, and one of a greater whole of its name
pub record AreOfWholes (a b c d again greater : FileView) : Type 0 where
  pub first : fragment_of a.attributes ≡ part_of (codes "w") 1 2
  pub second : fragment_of b.attributes ≡ part_of (codes "w") 2 2
  pub other_first : fragment_of c.attributes ≡ part_of (codes "v") 1 2
  pub other_second : fragment_of d.attributes ≡ part_of (codes "v") 2 2
  pub first_again : fragment_of again.attributes ≡ part_of (codes "w") 1 2
  pub of_greater : fragment_of greater.attributes ≡ part_of (codes "w") 2 3

abbrev pub OfWholes : (files : FileView → FileView → FileView → FileView → FileView → FileView → List FileView)
    (answer : FileView → FileView → FileView → FileView → FileView → FileView → Option (List FileView)) → Type 0
OfWholes files answer = (a b c d again greater : FileView) → AreOfWholes a b c d again greater →
    picks Defragment (files a b c d again greater) ≡ answer a b c d again greater

-- the other's first part waits for its second
abbrev pub WholeGoesBesideAPart : Type 0
WholeGoesBesideAPart = OfWholes (λ a b c d again greater. c ∷ a ∷ b ∷ []) (λ a b c d again greater. Some (a ∷ b ∷ []))

-- of two wholes that are there the one whose part stands first
abbrev pub EarlierOfTwoWholes : Type 0
EarlierOfTwoWholes = OfWholes (λ a b c d again greater. d ∷ a ∷ c ∷ b ∷ []) (λ a b c d again greater. Some (c ∷ d ∷ []))

-- of a doubled index the first, and twice the first part is no whole
abbrev pub FirstOfDoubled : Type 0
FirstOfDoubled = OfWholes (λ a b c d again greater. again ∷ a ∷ b ∷ []) (λ a b c d again greater. Some (again ∷ b ∷ []))

abbrev pub TwiceIsNoWhole : Type 0
TwiceIsNoWhole = OfWholes (λ a b c d again greater. a ∷ again ∷ []) (λ a b c d again greater. None)

-- a part of three isn't one of two
abbrev pub CountsTellWholes : Type 0
CountsTellWholes = OfWholes (λ a b c d again greater. a ∷ greater ∷ []) (λ a b c d again greater. None)

-- an attribute of the three is missing
abbrev pub NoCountIsNone : Type 0
NoCountIsNone =
    fragment_of (insert (insert empty (codes "fragment.identifier") (codes "w")) (codes "fragment.index") (codes "1"))
    ≡ None

abbrev pub NoIdentifierIsNone : Type 0
NoIdentifierIsNone =
    fragment_of (insert (insert empty (codes "fragment.index") (codes "1")) (codes "fragment.count") (codes "1"))
    ≡ None
