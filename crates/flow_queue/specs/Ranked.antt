-- A queue's files in its order, by what is noted of each.
use Rattle.std.specs.Prelude.{◌≡◌, ℕ, ◌-◌, ◌<◌, Bool, true, false, List, length, map, nat_lt, slice_index_or, Option, Some, None, if◌then◌else◌}
use Rattle.std.specs.List.{AllWithin, filter_map}
use Rattle.std.specs.Option.{option_map_or}
use Rattle.flowfile_record.specs.NumberedItems.{item_of}
use Rattle.flowfile_record.specs.declared.flow_file.FlowFile.{FlowFile}
use Rattle.prioritizer.specs.declared.prioritizer.Prioritizer.{Prioritizer}
use Rattle.machine_model.specs.declared.flow.QueueLimits.{QueueLimits}
use Rattle.machine_model.specs.Order.{goes_before, in_order, is_eligible}
use Rattle.machine_model.specs.View.{FileView}
use Rattle.flow_queue.specs.declared.held.Held.{Held}
use Rattle.flow_queue.specs.declared.queue.ranked.Note.{Note}
use Rattle.flow_queue.specs.Queue.{held_number, held_view, views_of}

-- what is noted of a file
abbrev pub noted_as : FileView → Note
noted_as file = record { number = file.number; penalty_end = file.penalty_end }

abbrev pub noted_file : FlowFile → Note
noted_file file = record { number = file.number; penalty_end = file.penalty_end }

-- the numbers that are noted
abbrev pub numbers_noted : List Note → List ℕ
numbers_noted notes = map (λ note. note.number) notes

-- all files are noted, the first that goes first
abbrev pub IsRanked : List Prioritizer → List Held → List Note → Type 0
IsRanked order files notes = notes ≡ map noted_as (in_order order (views_of files))

-- so many files go before one, the first of all in their order
pub record IsRankOf (order : List Prioritizer) (file : FileView) (files : List FileView) (place : ℕ) : Type 0 where
  pub before : AllWithin (λ other. goes_before order other file ≡ true) files 0 place
  pub after : AllWithin (λ other. goes_before order other file ≡ false) files place (length files)

-- whether the file of a number goes before one
abbrev pub goes_ahead : List Prioritizer → FileView → List Held → ℕ → Bool
goes_ahead order file files number =
    option_map_or (λ held. goes_before order (held_view held) file) (item_of held_number number files) false

-- the last noted file goes before one
abbrev pub IsBehindLast : List Prioritizer → FileView → List Held → List Note → Type 0
IsBehindLast order file files notes =
    (note : Note) → (0 < length notes) × (goes_ahead order file files (slice_index_or notes (length notes - 1) note).number ≡ true)

-- the first noted file is that of a number
abbrev pub IsFirst : ℕ → List Note → Type 0
IsFirst number notes = (note : Note) → (0 < length notes) × ((slice_index_or notes 0 note).number ≡ number)

abbrev pub held_before : List Prioritizer → Option Held → Option Held → Bool
held_before order (Some one) (Some other) = goes_before order (held_view one) (held_view other)
held_before order (Some one) None = true
held_before order None other = false

-- whether one noted file goes before another: one that isn't there goes last
abbrev pub is_before : List Prioritizer → List Held → Note → Note → Bool
is_before order files one other = held_before order (item_of held_number one.number files) (item_of held_number other.number files)

-- a file, where a session may take it at a moment
abbrev pub if_eligible : QueueLimits → ℕ → Option Held → Option FileView
if_eligible limits moment None = None
if_eligible limits moment (Some held) =
    if is_eligible limits moment (held_view held) then Some (held_view held) else None

-- the file that is noted, where its penalty has ended and a session may take it
abbrev pub eligible_at : QueueLimits → ℕ → List Held → Note → Option FileView
eligible_at limits moment files note =
    if nat_lt moment note.penalty_end then None else if_eligible limits moment (item_of held_number note.number files)

-- the files that are noted and that a session may take
abbrev pub eligible_among : QueueLimits → ℕ → List Held → List Note → List FileView
eligible_among limits moment files notes = filter_map (eligible_at limits moment files) notes
