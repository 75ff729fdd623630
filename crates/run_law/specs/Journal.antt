-- What a journal of a flow says of the inbox.
use Rattle.std.specs.Prelude.{◌⊎◌, ℕ, List, [], ◌∷◌, filter, IsSome, Contains}
use Rattle.std.specs.List.{AllByRecursion}
use Rattle.flowfile_record.specs.NamedFile.{NamedFile}
use Rattle.machine_model.specs.declared.flow.Flow.{Flow}
use Rattle.machine_model.specs.declared.journal.Entry.{Entry}
use Rattle.machine_model.specs.declared.journal.Step.{Step}
use Rattle.machine_model.specs.Kinds.{is_among}
use Rattle.machine_model.specs.Laws.{names_of_step}
use Rattle.machine_model.specs.State.{World}

-- a step takes the file of this name from the inbox
abbrev pub TakesFromInbox : Flow → Step → List ℕ → Type 0
TakesFromInbox flow one name = Contains (names_of_step flow one) name

-- each entry was acknowledged
abbrev pub AreAcknowledged : List Entry → Type 0
AreAcknowledged journal = AllByRecursion (λ entry. IsSome entry.acked) journal

-- an acknowledged session took this name
abbrev pub WasGot : Flow → List ℕ → List Entry → Type 0
WasGot flow name [] = ⊥
WasGot flow name (entry ∷ journal) = (TakesFromInbox flow entry.step name × IsSome entry.acked)
    ⊎ WasGot flow name journal

-- the files of the inbox whose names are left
abbrev pub inbox_left : World → List NamedFile
inbox_left world = filter (λ file. is_among file.name world.left) world.inbox
