-- What the engine owes its queues before any session, and what it owes itself.
use Rattle.std.specs.Prelude.{ℕ, ◌+◌, ◌-◌, ◌*◌, ◌/◌, ◌==◌, ◌&&◌, nat_lt, nat_le, Bool, List, length, map, filter, drop, Option, Some, None, option_map, slice_get, if◌then◌else◌}
use Rattle.std.specs.List.{enumerate_from, filter_map}
use Rattle.prioritizer.specs.declared.prioritizer.Prioritizer.{Prioritizer}
use Rattle.flowfile_record.specs.declared.limits.TheConstants.{EVENTS_PER_FILE, NUMBER_LIMIT}
use Rattle.machine_model.specs.declared.journal.TheConstants.{RECLAIM_ENTRIES}
use Rattle.machine_model.specs.declared.flow.Connection.{Connection}
use Rattle.machine_model.specs.declared.flow.Flow.{Flow}
use Rattle.machine_model.specs.declared.flow.QueueLimits.{QueueLimits}
use Rattle.machine_model.specs.Events.{ascending}
use Rattle.machine_model.specs.Order.{in_order}
use Rattle.machine_model.specs.View.{FileView, QueueView, is_expired, at_rest}

-- ---- of one queue

abbrev pub numbers_of : List FileView → List ℕ
numbers_of files = map (λ file. file.number) files

-- the expired files of a queue that no session works on, ascending
abbrev pub expired_numbers : QueueLimits → ℕ → List FileView → List ℕ
expired_numbers limits moment files =
    ascending (numbers_of (filter (is_expired limits.expiration moment) (at_rest files)))

-- how many files a batch has: half of the threshold, rounded down
abbrev pub batch_size : QueueLimits → ℕ
batch_size limits = limits.swap / 2

-- The batch that has to go, where there are as many files as the threshold and a batch: those that go last of the files
-- that no session works on, penalised and expired ones too.
abbrev pub last_batch : List Prioritizer → QueueLimits → List FileView → Option (List ℕ)
last_batch order limits files =
    let ordered = in_order order (at_rest files) in
    let size = batch_size limits in
    if nat_le (limits.swap + size) (length ordered)
    then Some (numbers_of (drop (length ordered - size) ordered)) else None

-- the batch that has to come back, where fewer files than the threshold are active: the lowest
abbrev pub lowest_batch : QueueLimits → QueueView → Option ℕ
lowest_batch limits queue =
    if nat_lt (length queue.active) limits.swap
    then slice_get (ascending (map (λ batch. batch.number) queue.batches)) 0 else None

-- ---- of all queues, which are told by their connections' places: the first one, by the flow's order, that owes this

abbrev pub at_place : {X : Type 0} → (Connection → QueueView → Option X) → (ℕ → QueueView) → ℕ × Connection →
    Option (ℕ × X)
at_place owes queues (place, connection) = option_map (λ x. (place, x)) (owes connection (queues place))

abbrev pub first_due : {X : Type 0} → (Connection → QueueView → Option X) → Flow → (ℕ → QueueView) → Option (ℕ × X)
first_due owes flow queues = slice_get (filter_map (at_place owes queues) (enumerate_from 0 flow.connections)) 0

abbrev pub some_numbers : List ℕ → Option (List ℕ)
some_numbers numbers = if length numbers == 0 then None else Some numbers

-- a connection, and the numbers of its files that expire
abbrev pub due_expiry : Flow → (ℕ → QueueView) → ℕ → Option (ℕ × List ℕ)
due_expiry flow queues moment =
    first_due (λ connection queue. some_numbers (expired_numbers connection.limits moment queue.active)) flow queues

-- a connection, and the numbers of its files that are swapped out
abbrev pub due_swap_out : Flow → (ℕ → QueueView) → Option (ℕ × List ℕ)
due_swap_out flow queues =
    first_due (λ connection queue. last_batch connection.order connection.limits queue.active) flow queues

-- a connection, and its batch that comes back
abbrev pub due_swap_in : Flow → (ℕ → QueueView) → Option (ℕ × ℕ)
due_swap_in flow queues = first_due (λ connection queue. lowest_batch connection.limits queue) flow queues

-- ---- of the store

-- the log of this number has so many entries behind its beginning, and another log can follow it
abbrev pub is_checkpoint_due : (checkpoint entries number : ℕ) → Bool
is_checkpoint_due checkpoint entries number = nat_le checkpoint entries && nat_lt number (NUMBER_LIMIT - 1)

-- The line to which events are forgotten, where so many are kept at least: the end of the last file of events that all
-- of these are behind, where that is past the line of now.
abbrev pub due_aging : (kept line last_event : ℕ) → Option ℕ
due_aging kept line last_event =
    let due = (last_event - kept) / EVENTS_PER_FILE * EVENTS_PER_FILE in
    if nat_lt line due then Some due else None

-- so many entries were journaled since the last reclaim
abbrev pub is_reclaim_due : (entries : ℕ) → Bool
is_reclaim_due entries = nat_le RECLAIM_ENTRIES entries
