-- Elements in the order of their numbers, each number once, and room for more.
use Rattle.std.specs.Prelude.{◌≡◌, ℕ, ◌<◌, ◌==◌, not, nat_lt, List, [], ◌∷◌, map, Option, None, Some, filter, All, if◌then◌else◌}

-- the elements, and for how many more there is room
pub record NumberedItems (A : Type 0) : Type 0 where
  pub items : List A
  pub room : ℕ

-- the element of a number
abbrev pub item_of : {A : Type 0} → (A → ℕ) → ℕ → List A → Option A
item_of number n [] = None
item_of number n (item ∷ items) = if number item == n then Some item else item_of number n items

-- the elements and one more, in the order of their numbers
abbrev pub with_item : {A : Type 0} → (A → ℕ) → A → List A → List A
with_item number new [] = new ∷ []
with_item number new (item ∷ items) =
    if nat_lt (number item) (number new) then item ∷ with_item number new items else new ∷ item ∷ items

-- the elements and these, each in the order of the numbers
abbrev pub with_items : {A : Type 0} → (A → ℕ) → List A → List A → List A
with_items number [] items = items
with_items number (new ∷ news) items = with_items number news (with_item number new items)

-- each of these has a number that none has when it joins
abbrev pub AreNew : {A : Type 0} → (A → ℕ) → List A → List A → Type 0
AreNew number [] items = Unit {0}
AreNew number (new ∷ news) items =
    (item_of number (number new) items ≡ None) × AreNew number news (with_item number new items)

-- the elements, this one in place of that of its number
abbrev pub with_replaced : {A : Type 0} → (A → ℕ) → A → List A → List A
with_replaced number new items = map (λ item. if number item == number new then new else item) items

-- the elements but that of a number
abbrev pub without_item : {A : Type 0} → (A → ℕ) → ℕ → List A → List A
without_item number n items = filter (λ item. not (number item == n)) items

-- each number is above those before it
abbrev pub AscendsByNumber : {A : Type 0} → (A → ℕ) → List A → Type 0
AscendsByNumber number [] = Unit {0}
AscendsByNumber number (item ∷ items) = All (λ later. number item < number later) items × AscendsByNumber number items
