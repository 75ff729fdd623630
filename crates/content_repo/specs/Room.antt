-- How contents go into slots: what is left of their sizes behind those that fill the live slots, and so many new ones.
use Rattle.std.specs.Prelude.{ℕ, zero, suc, ◌+◌, nat_lt, List, [], ◌∷◌, count_by, if◌then◌else◌}
use Rattle.content_repo.specs.declared.slot.Slot.{Slot}
use Rattle.content_repo.specs.declared.slot.TheConstants.{OPEN_SIZE}
use Rattle.content_repo.specs.Slots.{is_free}

-- behind those that a claim of this size takes
abbrev pub left_behind : ℕ → List ℕ → List ℕ
left_behind size [] = []
left_behind size (n ∷ ns) = if nat_lt size OPEN_SIZE then left_behind (size + n) ns else n ∷ ns

abbrev pub left_by_slot : Slot → List ℕ → List ℕ
left_by_slot slot ns = if slot.live then left_behind slot.size ns else ns

abbrev pub left_by_live : List Slot → List ℕ → List ℕ
left_by_live [] ns = ns
left_by_live (slot ∷ slots) ns = left_by_live slots (left_by_slot slot ns)

abbrev pub left_by_new : ℕ → List ℕ → List ℕ
left_by_new zero ns = ns
left_by_new (suc count) ns = left_by_new count (left_behind 0 ns)

abbrev pub left_by_all : List Slot → List ℕ → List ℕ
left_by_all slots ns = left_by_new (count_by is_free slots) (left_by_live slots ns)
