-- What a flow is at a moment, and the world around it.
use Rattle.std.specs.Prelude.{ℕ, List, Option}
use Rattle.std.specs.FinSet.{FinSet}
use Rattle.std.specs.declared.cmp.Ordering.{Ordering}
use Rattle.std.specs.Ordering.{nat_cmp, on, then_cmp}
use Rattle.flowfile_record.specs.Attributes.{AttributeMap}
use Rattle.flowfile_record.specs.NamedFile.{NamedFile}
use Rattle.flowfile_record.specs.declared.event.Event.{Event}

-- a flow file in a queue, with its bytes; `batch` is that which it is swapped out in, and none while it is active
pub record QueuedFile : Type 0 where
  pub number : ℕ
  pub attributes : AttributeMap
  pub bytes : List ℕ
  pub entered : ℕ
  pub penalty_end : ℕ
  pub arrival : ℕ
  pub batch : Option ℕ

-- That one file came from another is a triple (child, parent, number of the event that names them). Triples stand by
-- their children, then by their parents, then by their events.
abbrev pub kin_cmp : ℕ × ℕ × ℕ → ℕ × ℕ × ℕ → Ordering
kin_cmp = then_cmp (on (λ k. k.0) nat_cmp) (then_cmp (on (λ k. k.1) nat_cmp) (on (λ k. k.2) nat_cmp))

abbrev pub Kin : Type 0
Kin = FinSet kin_cmp

-- The id of the store; the line, which is the number up to which events are forgotten; for each connection the files of
-- its queue, by arrival; what has happened past the line; which file came from which, as events past the line tell; the
-- numbers that come next; the number of the last event, 0 before the first; and for each processor how many files it
-- has generated.
pub record State : Type 0 where
  pub store : ℕ
  pub line : ℕ
  pub queues : List (List QueuedFile)
  pub events : List Event
  pub kin : Kin
  pub next_number : ℕ
  pub next_arrival : ℕ
  pub next_batch : ℕ
  pub last_event : ℕ
  pub counts : List ℕ

-- the files that the inbox had when the run began, the names of those that are left of it, and what stands in the
-- outbox under each name
pub record World : Type 0 where
  pub inbox : List NamedFile
  pub left : List (List ℕ)
  pub outbox : List ℕ → Option (List ℕ)

pub record Machine : Type 0 where
  pub state : State
  pub world : World
