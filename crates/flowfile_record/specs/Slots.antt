-- How slots hold elements by their numbers.
use Rattle.std.specs.Prelude.{◌≡◌, ℕ, List, length, map, IsTrue, Option, Some, All, IfSome}
use Rattle.std.specs.List.{filter_map}
use Rattle.std.specs.Ordering.{nat_cmp}
use Rattle.std.specs.FinMap.{is_sorted}
use Rattle.flowfile_record.specs.declared.numbered_list.Slot.{Slot}

abbrev pub number_and_item : {A : Type 0} → Slot A → ℕ × Option A
number_and_item slot = (slot.number, slot.item)

-- the slot of an element
abbrev pub slot_of : {A : Type 0} → (A → ℕ) → A → Slot A
slot_of number item = record { number = number item; item = Some item }

abbrev pub items_of : {A : Type 0} → List (Slot A) → List A
items_of slots = filter_map (λ slot. slot.item) slots

-- the numbers ascend, an element stands under its own, and so many places aren't empty
pub record AreSlots {A : Type 0} (number : A → ℕ) (slots : List (Slot A)) (held : ℕ) : Type 0 where
  pub ascending : IsTrue (is_sorted nat_cmp (map number_and_item slots))
  pub own : All (λ entry. IfSome entry.1 (λ item. number item ≡ entry.0)) (map number_and_item slots)
  pub count : held ≡ length (items_of slots)
