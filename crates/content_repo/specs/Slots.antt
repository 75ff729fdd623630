-- The slots of a repository of contents: what is known of each, by number.
use Rattle.std.specs.Prelude.{◌≡◌, ℕ, ◌+◌, ◌^◌, ◌<◌, ◌≤◌, ◌==◌, nat_lt, ◌&&◌, not, Bool, true, false, List, [], ◌∷◌, length, sum_by, count_by, position, All, map, slice_index_or, slice_set, max, Option, None, Some, if◌then◌else◌}
use Rattle.flowfile_record.specs.declared.content.ContentRef.{ContentRef}
use Rattle.content_repo.specs.declared.load.TheConstants.{LIVE_MAX}
use Rattle.content_repo.specs.declared.reclaim.Reclaimed.{Reclaimed}
use Rattle.content_repo.specs.declared.slot.Slot.{Slot}
use Rattle.content_repo.specs.declared.slot.TheConstants.{OPEN_SIZE}
use Rattle.content_repo.specs.declared.slot_set.TheConstants.{SLOTS}
use Rattle.content_repo.specs.SlotSet.{has, bit_of}

abbrev pub unused : Slot
unused = record { live = false; count = 0; size = 0 }

abbrev pub slot_numbered : List Slot → ℕ → Slot
slot_numbered slots k = slice_index_or slots k unused

abbrev pub is_live : List Slot → ℕ → Bool
is_live slots k = (slot_numbered slots k).live

-- how many references to a slot are held
abbrev pub count_of : List Slot → ℕ → ℕ
count_of slots k = (slot_numbered slots k).count

-- the size of a slot's file
abbrev pub size_of : List Slot → ℕ → ℕ
size_of slots k = (slot_numbered slots k).size

-- how many references are held in all
abbrev pub held_in : List Slot → ℕ
held_in slots = sum_by (λ slot. slot.count) slots

abbrev pub is_open : Slot → Bool
is_open slot = slot.live && nat_lt slot.size OPEN_SIZE

abbrev pub is_free : Slot → Bool
is_free slot = not slot.live

abbrev pub is_idle : Slot → Bool
is_idle slot = slot.live && (slot.count == 0)

-- the lowest live slot whose file is shorter than 1 MiB
abbrev pub open_slot : List Slot → Option ℕ
open_slot slots = position is_open slots

-- the lowest slot that is free
abbrev pub free_slot : List Slot → Option ℕ
free_slot slots = position is_free slots

abbrev pub slot_or : Option ℕ → Option ℕ → Option ℕ
slot_or None other = other
slot_or (Some k) other = Some k

-- the slot that the next content goes to
abbrev pub next_slot : List Slot → Option ℕ
next_slot slots = slot_or (open_slot slots) (free_slot slots)

-- one more reference to a slot, which is live with it and whose file has this size
abbrev pub taken : List Slot → ℕ → ℕ → List Slot
taken slots k size = slice_set slots k (record { live = true; count = count_of slots k + 1; size = size })

-- another count of references to a slot
abbrev pub slot_with_count : List Slot → ℕ → ℕ → List Slot
slot_with_count slots k count =
    slice_set slots k (record { live = is_live slots k; count = count; size = size_of slots k })

-- contents of these sizes, appended in this order, find a slot each
abbrev pub SlotsHaveRoom : List Slot → List ℕ → Type 0
SlotsHaveRoom slots [] = Unit {0}
SlotsHaveRoom slots (n ∷ ns) = (k : ℕ) × (next_slot slots ≡ Some k)
    × SlotsHaveRoom (taken slots k (size_of slots k + n)) ns

-- the slots without the idle ones
abbrev pub reclaimed : Slot → Slot
reclaimed slot = if is_idle slot then unused else slot

-- nothing is known of a free slot: its file is empty, and nothing refers to it
abbrev pub HasUnused : List Slot → Type 0
HasUnused slots = (k : ℕ) → is_live slots k ≡ false → slot_numbered slots k ≡ unused

-- so many claims were emptied, none was left as claimed, and their slots are free, of which nothing was known before
pub record IsReclaimed (old new : List Slot) (answer : Reclaimed) : Type 0 where
  pub emptied : answer ≡ record { emptied = count_by is_idle old; claimed = 0 }
  pub slots : new ≡ map reclaimed old
  pub held : held_in new ≡ held_in old
  pub unused : HasUnused old

-- where a content ends
abbrev pub end_of : ContentRef → ℕ
end_of at = at.offset + at.size

-- how many of these references are to a slot
abbrev pub references_to : ℕ → List ContentRef → ℕ
references_to k refs = count_by (λ at. at.slot == k) refs

-- the greatest end of the references to a slot, or 0
abbrev pub covered : ℕ → List ContentRef → ℕ
covered k [] = 0
covered k (at ∷ refs) = if at.slot == k then max (end_of at) (covered k refs) else covered k refs

-- each reference is held once, and each file ends where the last of its contents does
pub record IsLoaded (refs : List ContentRef) (slots : List Slot) : Type 0 where
  pub count : (k : ℕ) → count_of slots k ≡ references_to k refs
  pub size : (k : ℕ) → size_of slots k ≡ covered k refs
  pub live : (k : ℕ) → is_live slots k ≡ nat_lt 0 (references_to k refs)

-- the sets of the open and of the free slots are those of these slots, and nothing is known of a free one
pub record AreSorted (slots : List Slot) (open_slots free_slots : List ℕ) : Type 0 where
  pub long : length slots ≡ SLOTS
  pub opened : (k : ℕ) → k < SLOTS → has open_slots k ≡ bit_of (is_open (slot_numbered slots k))
  pub free : (k : ℕ) → k < SLOTS → has free_slots k ≡ bit_of (is_free (slot_numbered slots k))
  pub unused : HasUnused slots

-- a reference names a slot, and its end is a number of bytes
abbrev pub IsNamed : ContentRef → Type 0
IsNamed at = (at.slot < SLOTS) × (end_of at < 2 ^ 64)

-- the references that a repository is loaded with
pub record AreLive (refs : List ContentRef) : Type 0 where
  pub few : length refs ≤ LIVE_MAX
  pub named : All IsNamed refs
