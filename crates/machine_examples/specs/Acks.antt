-- Tried: how many entries of a journal were acknowledged by a moment, and in which order they may have been.
use Rattle.std.specs.Prelude.{◌≡◌, ℕ, List, [], ◌∷◌, Option, Some, None}
use Rattle.machine_model.specs.declared.journal.Entry.{Entry}
use Rattle.machine_model.specs.declared.journal.Step.TheVariants.{SwapIn}
use Rattle.machine_model.specs.Acknowledged.{acknowledged, IsInOrder}

abbrev pub acked_at : Option ℕ → Entry
acked_at moment = record { step = SwapIn 0 1; acked = moment }

-- the moments 3 and 5, and one entry without
abbrev pub three : List Entry
three = acked_at (Some 3) ∷ acked_at (Some 5) ∷ acked_at None ∷ []

abbrev pub AcknowledgedIs : (moment count : ℕ) → Type 0
AcknowledgedIs moment count = acknowledged three moment ≡ count

abbrev pub AreInOrder : (low high : ℕ) → List Entry → Type 0
AreInOrder low high journal = IsInOrder low high journal

abbrev pub AreNotInOrder : (low high : ℕ) → List Entry → Type 0
AreNotInOrder low high journal = IsInOrder low high journal → ⊥

-- the later entry first, and one that was acknowledged behind one that wasn't
abbrev pub falling : List Entry
falling = acked_at (Some 5) ∷ acked_at (Some 3) ∷ []

abbrev pub gapped : List Entry
gapped = acked_at None ∷ acked_at (Some 3) ∷ []
