-- The files of a queue by their ages, where files expire.
use Rattle.std.specs.Prelude.{ℕ, ◌<◌, ◌≤◌, List, []}
use Rattle.machine_model.specs.declared.flow.QueueLimits.{QueueLimits}
use Rattle.flow_queue.specs.declared.held.Held.{Held}
use Rattle.flow_queue.specs.declared.queue.ranked.Note.{Note}
use Rattle.flow_queue.specs.Ranked.{IsRanked}

-- all files are noted, the oldest first: that is the order of an empty list of prioritizers
abbrev pub HasAges : QueueLimits → List Held → List Note → Type 0
HasAges limits files notes = 0 < limits.expiration → IsRanked [] files notes

-- so many notes have room
abbrev pub HasAgeRoom : QueueLimits → (count capacity : ℕ) → Type 0
HasAgeRoom limits count capacity = 0 < limits.expiration → count ≤ capacity
