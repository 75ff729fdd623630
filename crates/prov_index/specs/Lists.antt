-- The numbers of events by file, as a map holds them.
use Rattle.std.specs.Prelude.{◌≡◌, ℕ, ◌-◌, ◌<◌, ◌==◌, Bool, true, false, List, [], ◌∷◌, ◌++◌, length, Option, None, Some, slice_get, Vec, vec_len, vec_capacity, if◌then◌else◌}
use Rattle.std.specs.declared.alloc.Global.{Global}
use Rattle.std.specs.Ordering.{nat_cmp}
use Rattle.std.specs.BTreeMap.{BTreeMap, get}
use Rattle.flowfile_record.specs.declared.event.Event.{Event}
use Rattle.prov_index.specs.Index.{numbers_naming}

abbrev pub Numbers : Type 0
Numbers = Vec ℕ Global

abbrev pub noted_numbers : Option Numbers → List ℕ
noted_numbers None = []
noted_numbers (Some list) = list.items

-- the list of a file, which is empty where the map has none
abbrev pub list_of : BTreeMap ℕ Numbers → ℕ → List ℕ
list_of lists file = noted_numbers (get nat_cmp lists file)

-- each file has the numbers of the events that name it
abbrev pub AreListsOf : BTreeMap ℕ Numbers → List Event → Type 0
AreListsOf lists events = (file : ℕ) → list_of lists file ≡ numbers_naming events file

abbrev pub is_number : ℕ → Option ℕ → Bool
is_number number None = false
is_number number (Some other) = other == number

abbrev pub last_is : ℕ → List ℕ → Bool
last_is number numbers = is_number number (slice_get numbers (length numbers - 1))

-- a number behind the others, unless it is the last of them
abbrev pub noted : ℕ → List ℕ → List ℕ
noted number numbers = if last_is number numbers then numbers else numbers ++ number ∷ []

abbrev pub noted_if : Bool → ℕ → List ℕ → List ℕ
noted_if named number numbers = if named then noted number numbers else numbers

-- a number can be noted here without memory
abbrev pub HasRoomToNote : ℕ → Numbers → Type 0
HasRoomToNote number list = last_is number list.items ≡ false → vec_len list < vec_capacity list

abbrev HasReady : ℕ → Option Numbers → Type 0
HasReady number None = ⊥
HasReady number (Some list) = HasRoomToNote number list

-- .. in the list of a file
abbrev pub IsReadyAt : BTreeMap ℕ Numbers → (number file : ℕ) → Type 0
IsReadyAt lists number file = HasReady number (get nat_cmp lists file)
