-- Which entries of a journal were acknowledged, and when.
use Rattle.std.specs.Prelude.{◌≡◌, ℕ, ◌≤◌, nat_le, Bool, false, List, [], ◌∷◌, map, count_by, Option, Some, None, MatchOption}
use Rattle.std.specs.List.{AllByRecursion}
use Rattle.machine_model.specs.declared.journal.Entry.{Entry}
use Rattle.machine_model.specs.declared.journal.Step.{Step}

-- a journal's steps: an entry is acknowledged later than it is made, so what it does never goes by that
abbrev pub steps : List Entry → List Step
steps journal = map (λ entry. entry.step) journal

abbrev pub is_acknowledged_by : ℕ → Option ℕ → Bool
is_acknowledged_by moment None = false
is_acknowledged_by moment (Some acked) = nat_le acked moment

-- how many entries were acknowledged by a moment
abbrev pub acknowledged : List Entry → ℕ → ℕ
acknowledged journal moment = count_by (λ entry. is_acknowledged_by moment entry.acked) journal

-- The moments at which entries were acknowledged lie between two and don't fall along the journal, and entries that
-- weren't stand last.
abbrev pub IsInOrder : (low high : ℕ) → List Entry → Type 0
IsInOrder low high [] = Unit {0}
IsInOrder low high (entry ∷ journal) =
    MatchOption entry.acked (AllByRecursion (λ later. later.acked ≡ None) journal)
    (λ moment. (low ≤ moment) × (moment ≤ high) × IsInOrder moment high journal)
