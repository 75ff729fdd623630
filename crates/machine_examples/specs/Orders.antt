-- Tried: which files of a queue are eligible, in which order, and when a queue is full.
use Rattle.std.specs.Prelude.{map, ◌≡◌, ℕ, Bool, true, false, List, [], ◌∷◌, Option, Some, None, codes}
use Rattle.prioritizer.specs.declared.prioritizer.Prioritizer.{Prioritizer}
use Rattle.prioritizer.specs.declared.prioritizer.Prioritizer.TheVariants.{PriorityAttribute}
use Rattle.std.specs.FinMap.{get}
use Rattle.machine_model.specs.View.{FileView}
use Rattle.machine_model.specs.declared.flow.QueueLimits.{QueueLimits}
use Rattle.machine_model.specs.State.{QueuedFile}
use Rattle.machine_model.specs.Files.{active_views, queue_view, view_of}
use Rattle.machine_model.specs.Order.{eligible_files, goes_before}
use Rattle.machine_model.specs.Quiet.{is_full}
use Rattle.machine_examples.specs.Small.{wide, a_file}

-- files expire after 3500 milliseconds
abbrev pub brief : QueueLimits
brief = record wide { expiration = 3500 }

-- at 4000
abbrev pub EligibleAre : List Prioritizer → List QueuedFile → List QueuedFile → Type 0
EligibleAre order files answer = eligible_files order brief 4000 (active_views files) ≡ map view_of answer

-- the data of the first to arrive entered last, that of the two others at once
abbrev pub first : QueuedFile
first = record (a_file 7 1) { entered = 3000 }

abbrev pub second : QueuedFile
second = a_file 8 2

abbrev pub third : QueuedFile
third = a_file 9 3

abbrev pub penalised : (end : ℕ) → QueuedFile
penalised end = record third { penalty_end = end }

abbrev pub swapped : QueuedFile
swapped = record third { batch = Some 1 }

abbrev pub since : (entered : ℕ) → QueuedFile
since entered = record third { entered = entered }

-- limits on files and on bytes
abbrev pub FullIs : (objects bytes : ℕ) → List QueuedFile → Bool → Type 0
FullIs objects bytes files answer =
    is_full (record wide { objects = objects; bytes = bytes }) (queue_view files) ≡ answer

-- ---- by the attribute `priority`: by value, then what is no number, then what has none

abbrev pub HasPriority : FileView → Option (List ℕ) → Type 0
HasPriority file text = get file.attributes (codes "priority") ≡ text

abbrev pub GoesFirst : FileView → FileView → Type 0
GoesFirst file other =
    (goes_before (PriorityAttribute ∷ []) file other ≡ true)
    × (goes_before (PriorityAttribute ∷ []) other file ≡ false)

abbrev pub PrioritiesTell : Type 0
PrioritiesTell =
    (ten nine word none : FileView) → HasPriority ten (Some (codes "10")) → HasPriority nine (Some (codes "9"))
    → HasPriority word (Some (codes "x")) → HasPriority none None
    → GoesFirst nine ten × GoesFirst ten word × GoesFirst word none
