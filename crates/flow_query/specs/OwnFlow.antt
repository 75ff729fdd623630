-- What a query sees of the store of a flow.
use Rattle.std.specs.Prelude.{◌≡◌, ℕ, [], None}
use Rattle.disk_trait.specs.Files.{Files}
use Rattle.flowfile_wal.specs.Current.{current_number}
use Rattle.machine_model.specs.State.{State}
use Rattle.store_core.specs.Flow.{Flow}
use Rattle.store_core.specs.New.{kept_anew}
use Rattle.store_core.specs.State.{state_with}

-- a store is made once one of its logs is current
abbrev pub StoreIsMade : Files → Type 0
StoreIsMade files = current_number files ≡ None → ⊥

-- the state of a new store of a flow: its queues are empty, and nothing has happened
abbrev pub state_anew : Flow → (lot : ℕ) → State
state_anew flow lot = state_with (λ at. []) [] (kept_anew flow lot)
