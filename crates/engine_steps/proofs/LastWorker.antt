-- Which processor got the last session, behind one step more.
use Rattle.std.proofs.Common.{◌≡◌, ℕ, List, [], ◌∷◌, ◌++◌, refl}
use Rattle.std.specs.Prelude.{Option}
use Rattle.machine_model.specs.declared.journal.Entry.{Entry}
use Rattle.machine_model.specs.Acknowledged.{steps}
use Rattle.run_law.specs.Turns.{last_worker, worker_behind}

pub last_behind : (last : Option ℕ) (journal : List Entry) (entry : Entry) → last_worker last (steps (journal ++ entry ∷ [])) ≡ worker_behind (last_worker last (steps journal)) entry.step
last_behind last [] entry = refl
last_behind last (first ∷ journal) entry = last_behind (worker_behind last first.step) journal entry
