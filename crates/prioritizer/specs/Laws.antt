-- What holds of every order of files.
use Rattle.std.specs.Prelude.{◌≡◌, ◌<◌, ◌⊎◌, ◌↔◌, ℕ, ℤ, true, Some, List, ◌∷◌, ◌++◌, All, FitsSigned}
use Rattle.std.specs.Cmp.{IsTotalOrder, IsStrictWeakOrder}
use Rattle.std.specs.Fmt.{signed_decimal}
use Rattle.std.specs.Int.{w64}
use Rattle.std.specs.Ordering.{is_lt}
use Rattle.std.specs.declared.cmp.Ordering.TheVariants.{Less, Equal}
use Rattle.prioritizer.specs.declared.prioritizer.Prioritizer.{Prioritizer}
use Rattle.prioritizer.specs.Number.{number_of, is_numeral}
use Rattle.prioritizer.specs.Standing.{Standing}
use Rattle.prioritizer.specs.Order.{GoesBefore, order_cmp, prioritizer_cmp, prioritizers_of}

-- an exchange of the files reverses the answer; `Less` chains; what ties compares alike with every other
abbrev pub OrdersAreTotal : Type 0
OrdersAreTotal = (list : List Prioritizer) → IsTotalOrder (order_cmp list)

-- the same of the test whether a file goes first, as std's sorts ask for it
abbrev pub OrdersSort : Type 0
OrdersSort = (list : List Prioritizer) → IsStrictWeakOrder (λ a b. is_lt (order_cmp list a b))

-- files that tie have one arrival number
abbrev pub OnlyOneArrivalTies : Type 0
OnlyOneArrivalTies = (list : List Prioritizer) (a b : Standing) → order_cmp list a b ≡ Equal → a.arrival ≡ b.arrival

-- no prioritizer of a list tells two files apart
abbrev pub AllTie : List Prioritizer → Standing → Standing → Type 0
AllTie list a b = All (λ prioritizer. prioritizer_cmp prioritizer a b ≡ Equal) list

-- the first prioritizer of a list that tells two files apart puts the first of them first
pub record FirstTellerPrefers (list : List Prioritizer) (a b : Standing) : Type 0 where
  pub before : List Prioritizer
  pub teller : Prioritizer
  pub after : List Prioritizer
  pub parts : list ≡ before ++ teller ∷ after
  pub tied : AllTie before a b
  pub prefers : prioritizer_cmp teller a b ≡ Less

-- a file goes first exactly where the first prioritizer to tell prefers it, or none tells and it arrived first
abbrev pub FirstTellerDecides : Type 0
FirstTellerDecides = (list : List Prioritizer) (a b : Standing) →
    GoesBefore list a b ↔ (FirstTellerPrefers (prioritizers_of list) a b
    ⊎ (AllTie (prioritizers_of list) a b × (a.arrival < b.arrival)))

-- what std writes of a number reads as that number
abbrev pub WrittenNumbersRead : Type 0
WrittenNumbersRead = (number : ℤ) → FitsSigned w64 number → number_of (signed_decimal number) ≡ Some number

-- a '+' (43) or a '0' (48) before digits changes nothing
abbrev pub PlusAndZerosTellNothing : Type 0
PlusAndZerosTellNothing =
    (digits : List ℕ) → is_numeral digits ≡ true
    → (number_of (43 ∷ digits) ≡ number_of digits) × (number_of (48 ∷ digits) ≡ number_of digits)
