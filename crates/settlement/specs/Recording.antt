-- That a store can record what a settlement places.
use Rattle.std.specs.Prelude.{◌≡◌, ℕ, ◌+◌, ◌*◌, ◌<◌, ◌≤◌, ◌^◌, List, length, map, All, IfSome, Some, slice_get}
use Rattle.std.specs.List.{sum}
use Rattle.flowfile_record.specs.Attributes.{IsWithinLimits, encoded_size}
use Rattle.flowfile_record.specs.Shared.{own_bytes}
use Rattle.flowfile_record.specs.declared.TheConstants.{CONTENT_MAX}
use Rattle.flowfile_record.specs.declared.change.Settled.{Settled}
use Rattle.flowfile_record.specs.declared.limits.TheConstants.{FILES_MAX, FILENAME_SIZE, SESSION_ATTRIBUTES_MAX}
use Rattle.flowfile_record.specs.declared.stored.Placed.{Placed}
use Rattle.machine_model.specs.declared.flow.Flow.{Flow}
use Rattle.machine_model.specs.declared.flow.Processor.{Processor}
use Rattle.machine_model.specs.declared.given.Given.{Given}
use Rattle.machine_model.specs.declared.limits.TheConstants.{FAN_OUT_MAX}
use Rattle.machine_model.specs.Placing.{connections_of}
use Rattle.settlement.specs.declared.counters.Counters.{Counters}
use Rattle.settlement.specs.declared.handed.Ended.{Ended}
use Rattle.settlement.specs.Whole.{generator_count}

-- The processor is this one, none of whose relationships leads to more connections than one may; taken files came from
-- a connection of the flow, at moments of 64 bits.
pub record MayRecord (flow : Flow) (ended : Ended) (processor : Processor) : Type 0 where
  pub found : slice_get flow.processors ended.processor ≡ Some processor
  pub fan_out : (relationship : List ℕ) → length (connections_of flow ended.processor relationship) ≤ FAN_OUT_MAX
  pub connection : 0 < length ended.taken → ended.connection < length flow.connections
  pub entered : All (λ file. file.entered < 2 ^ 64) ended.taken

-- a placed file goes to a connection of the flow, and each of its parts can be told in an entry
pub record IsRecordable (flow : Flow) (placed : Placed) : Type 0 where
  pub connection : placed.connection < length flow.connections
  pub attributes : IsWithinLimits placed.file.attributes
  pub entered : placed.file.entered < 2 ^ 64
  pub penalty_end : placed.file.penalty_end < 2 ^ 64
  pub fresh : IfSome (own_bytes placed.fresh) (λ bytes. length bytes ≤ CONTENT_MAX)

-- What a settlement places can be told in one entry: there are no more files and no more bytes of attributes than a
-- session's files have, each at the end of so many connections. No counter falls.
pub record Records (flow : Flow) (given : Given) (counters : Counters) (ended : Ended) (processor : Processor)
    (settled : Settled) : Type 0 where
  pub placed : All (IsRecordable flow) settled.placed
  pub few : length settled.placed ≤ FAN_OUT_MAX * FILES_MAX
  pub attributes : sum (map (λ p. encoded_size p.file.attributes) settled.placed)
      ≤ FAN_OUT_MAX * (SESSION_ATTRIBUTES_MAX + FILES_MAX * FILENAME_SIZE)
  pub next_number : counters.next_number ≤ settled.next_number
  pub next_arrival : counters.next_arrival ≤ settled.next_arrival
  pub count : settled.count ≡ generator_count processor.kind ended.processor given.index

-- that holds of each processor that it may be
abbrev pub RecordsAll : Flow → Given → Counters → Ended → Settled → Type 0
RecordsAll flow given counters ended settled =
    (processor : Processor) → MayRecord flow ended processor → Records flow given counters ended processor settled
