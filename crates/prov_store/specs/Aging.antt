-- Events that are forgotten are taken from the counts.
use Rattle.std.specs.Prelude.{◌≡◌, ℕ, ◌-◌, ◌≤◌, List, slice_index}
use Rattle.flowfile_record.specs.declared.event.Event.{Event}
use Rattle.prov_store.specs.State.{count_of_code}

-- the counts without these events
abbrev pub AreUncounted : List Event → (old new : List ℕ) → Type 0
AreUncounted events old new = (code : ℕ) → 1 ≤ code → code ≤ 12
    → slice_index new (code - 1) ≡ slice_index old (code - 1) - count_of_code code events
