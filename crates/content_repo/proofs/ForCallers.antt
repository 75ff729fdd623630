-- What a caller knows of slots where a content was appended, or a count changed.
use Rattle.std.proofs.Common.{◌≡◌, ℕ, ◌+◌, ◌<◌, ◌≤◌, true, List, length, sym, ap, ◌∙◌, inl, inr, arith, get_or-set_same, get_or-set_other}
use Rattle.std.specs.Prelude.{Option, None, Some, position}
use Rattle.std.proofs.lemmas.Bool.{cases_eq, cases_lt}
use Rattle.std.proofs.lemmas.List.{get_or_past}
use Rattle.std.proofs.lemmas.List.Quantifiers.{position-Some}
use Rattle.disk_trait.specs.Files.{Files}
use Rattle.flowfile_record.specs.declared.content.ContentRef.{ContentRef}
use Rattle.content_repo.specs.declared.slot.Slot.{Slot}
use Rattle.content_repo.specs.Append.{IsAppended}
use Rattle.content_repo.specs.Claims.{HasSizes}
use Rattle.content_repo.specs.Slots.{unused, count_of, size_of, slot_numbered, is_live, is_open, is_free, end_of, slot_or, next_slot, slot_with_count}

either : (a b : Option ℕ) (k bound : ℕ) → slot_or a b ≡ Some k → ((j : ℕ) → a ≡ Some j → j < bound) → ((j : ℕ) → b ≡ Some j → j < bound) → k < bound
either None b k bound is first second = second k is
either (Some j) b k bound is first second = first k is

-- the next slot is one of the slots
next_within : (slots : List Slot) (k : ℕ) → next_slot slots ≡ Some k → k < length slots
next_within slots k is =
    either (position is_open slots) (position is_free slots) k (length slots) is
    (λ j found. (position-Some is_open slots j unused found).0)
    (λ j found. (position-Some is_free slots j unused found).0)

module _ (bytes digest : List ℕ) (old new : List Slot) (at : ContentRef) (is : IsAppended bytes digest old new at) where
  now : slot_numbered new at.slot ≡ record { live = true; count = count_of old at.slot + 1; size = end_of at }
  now =
      let slot : Slot = record { live = true; count = count_of old at.slot + 1; size = end_of at } in
      ap (λ (slots : List Slot). slot_numbered slots at.slot) is.slots ∙ get_or-set_same old at.slot slot unused (next_within old at.slot is.slot)

  pub held_there : 0 < count_of new at.slot
  held_there = omega (arith, ap (λ (s : Slot). s.count) now)

  pub within_claim : end_of at ≤ size_of new at.slot
  within_claim = omega (arith, ap (λ (s : Slot). s.size) now)

-- a slot that is held is one of the slots
held_within : (slots : List Slot) (k : ℕ) → 0 < count_of slots k → k < length slots
held_within slots k held =
    elim (cases_lt k (length slots)) [
      | inl within ↦ within
      | inr past ↦ absurd (omega (arith, held, ap (λ (s : Slot). s.count) (get_or_past slots k unused past)))
    ]

pub sizes_stay : (slots : List Slot) (k count : ℕ) (files : Files) → 0 < count_of slots k → HasSizes slots files → HasSizes (slot_with_count slots k count) files
sizes_stay slots k count files held sizes j =
    let slot : Slot = record { live = is_live slots k; count = count; size = size_of slots k } in
    let stays : size_of (slot_with_count slots k count) j ≡ size_of slots j =
    elim (cases_eq j k) [
      | inl same ↦
          ap (size_of (slot_with_count slots k count)) same ∙ ap (λ (s : Slot). s.size) (get_or-set_same slots k slot unused (held_within slots k held))
          ∙ ap (size_of slots) (sym same)
      | inr differs ↦ ap (λ (s : Slot). s.size) (get_or-set_other slots k j slot unused differs)
    ] in
    sizes j ∙ sym stays
