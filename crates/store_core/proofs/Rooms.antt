-- Room for contents doesn't look at how often a slot is referred to.
use Rattle.std.proofs.Common.{◌≡◌, ℕ, ◌+◌, Bool, true, cond, not, List, [], ◌∷◌, length, map, set, refl, sym, ap, ◌∙◌}
use Rattle.std.specs.Prelude.{Option, None, Some, nat_lt}
use Rattle.std.specs.List.{prefix_len, position}
use Rattle.std.proofs.lemmas.List.{length-map, map-set}
use Rattle.std.proofs.Math.ListN.{get_or-map}
use Rattle.std.proofs.Math.Seq.{map-set_same}
use Rattle.content_repo.specs.Slots.{SlotsHaveRoom, next_slot, slot_or, is_open, is_free, taken, slot_with_count, size_of, unused}
use Rattle.content_repo.specs.declared.slot.Slot.{Slot}

-- a slot, but for how often it is referred to
abbrev pub shape : Slot → Slot
shape slot = record { live = slot.live; count = 0; size = slot.size }

module _ (test : Slot → Bool) (alike : (slot : Slot) → test (shape slot) ≡ test slot) where
  same_prefix : (slots : List Slot) → prefix_len (λ x. not (test x)) (map shape slots) ≡ prefix_len (λ x. not (test x)) slots
  same_prefix [] = refl
  same_prefix (x ∷ slots) =
      ap (λ (b : Bool). cond (not b) (1 + prefix_len (λ y. not (test y)) (map shape slots)) 0) (alike x)
      ∙ ap (λ (n : ℕ). cond (not (test x)) (1 + n) 0) (same_prefix slots)

  same_position : (slots : List Slot) → position test (map shape slots) ≡ position test slots
  same_position slots =
      ap (λ (n : ℕ). cond (nat_lt n (length (map shape slots))) (Some n) None) (same_prefix slots)
      ∙ ap (λ (l : ℕ). cond (nat_lt (prefix_len (λ x. not (test x)) slots) l) (Some (prefix_len (λ x. not (test x)) slots)) None) (length-map slots shape)

same_next : (slots : List Slot) → next_slot (map shape slots) ≡ next_slot slots
same_next slots =
    ap (λ (o : Option ℕ). slot_or o (position is_free (map shape slots))) (same_position is_open (λ slot. refl) slots)
    ∙ ap (slot_or (position is_open slots)) (same_position is_free (λ slot. refl) slots)

pub next_alike : (a b : List Slot) → map shape a ≡ map shape b → next_slot a ≡ next_slot b
next_alike a b alike = sym (same_next a) ∙ ap next_slot alike ∙ same_next b

same_size : (slots : List Slot) (k : ℕ) → size_of (map shape slots) k ≡ size_of slots k
same_size slots k = ap (λ (slot : Slot). slot.size) (get_or-map shape slots k unused)

pub size_alike : (a b : List Slot) (k : ℕ) → map shape a ≡ map shape b → size_of a k ≡ size_of b k
size_alike a b k alike = sym (same_size a k) ∙ ap (λ (l : List Slot). size_of l k) alike ∙ same_size b k

taken_shape : (slots : List Slot) (k size : ℕ) → map shape (taken slots k size) ≡ set (map shape slots) k (record { live = true; count = 0; size = size })
taken_shape slots k size = map-set shape slots k _

pub taken_alike : (a b : List Slot) (k size : ℕ) → map shape a ≡ map shape b → map shape (taken a k size) ≡ map shape (taken b k size)
taken_alike a b k size alike =
    taken_shape a k size ∙ ap (λ (l : List Slot). set l k (record { live = true; count = 0; size = size })) alike ∙ sym (taken_shape b k size)

pub counted_alike : (slots : List Slot) (k count : ℕ) → map shape (slot_with_count slots k count) ≡ map shape slots
counted_alike slots k count = map-set_same shape slots k _ unused refl

pub room_alike : (sizes : List ℕ) (a b : List Slot) → map shape a ≡ map shape b → SlotsHaveRoom a sizes → SlotsHaveRoom b sizes
room_alike [] a b alike room = tt
room_alike (n ∷ sizes) a b alike room =
    let k = room.0 in
    let size = size_alike a b k alike in (
      k,
      sym (next_alike a b alike) ∙ room.1,
      room_alike sizes (taken a k (size_of a k + n)) (taken b k (size_of b k + n))
          (taken_alike a b k (size_of a k + n) alike ∙ ap (λ (m : ℕ). map shape (taken b k (m + n))) size) room.2,
    )
