-- How a step becomes an entry of the journal.
use Rattle.std.specs.Prelude.{ℕ, List, [], ◌∷◌, ◌++◌, Some, None, Result, Ok, Err}
use Rattle.machine_model.specs.declared.journal.Entry.{Entry}
use Rattle.machine_model.specs.declared.journal.Step.{Step}
use Rattle.engine_steps.specs.declared.error.EngineError.{EngineError}
use Rattle.engine_steps.specs.declared.error.EngineError.TheVariants.{Disk}

-- The journal behind a step that was committed so: acknowledged at the moment that was answered, not acknowledged where
-- the disk failed within the commit, and no entry where it hadn't begun.
abbrev pub journaled : Result ℕ EngineError → Step → List Entry → List Entry
journaled (Ok moment) one journal = journal ++ record { step = one; acked = Some moment } ∷ []
journaled (Err Disk) one journal = journal ++ record { step = one; acked = None } ∷ []
journaled (Err _) one journal = journal
