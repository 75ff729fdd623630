-- The fields of a queue, and what they stand for.
use Rattle.std.specs.Prelude.{◌≡◌, ℕ, ◌+◌, ◌<◌, ◌≤◌, ◌^◌, true, List, [], All, length, sum_by}
use Rattle.std.specs.VecDeque.{deque_capacity}
use Rattle.flow_queue.specs.declared.held.Held.{Held}
use Rattle.flow_queue.specs.declared.queue.Queue.TheInside.{Inside}
use Rattle.flow_queue.specs.Ages.{HasAges, HasAgeRoom}
use Rattle.flow_queue.specs.Counts.{AreCountsOf, count_places}
use Rattle.flow_queue.specs.Queue.{QueueState, AreApart, held_bytes}
use Rattle.flow_queue.specs.Ranked.{IsRanked}

abbrev pub queue_in : Inside → QueueState
queue_in queue = record {
  order = queue.order;
  limits = queue.limits;
  files = queue.files.items;
  spare = queue.files.room;
  batches = queue.batches.items;
  batch_room = queue.batch_room;
}

-- what holds of the files: the sum of the sizes is kept
pub record AreSound (files : List Held) (bytes : ℕ) : Type 0 where
  pub apart : AreApart files
  pub sizes : All (λ held. held_bytes held < 2 ^ 64) files
  pub sum : bytes ≡ sum_by held_bytes files

-- The files are noted in the order of the queue, and where files expire from the oldest on. Those of as many more files as
-- there is room for have capacity, the counts have room for these, and a batch has it where there is room for one.
pub record IsSoundQueue (queue : Inside) : Type 0 where
  pub files : AreSound queue.files.items queue.bytes
  pub ranked : IsRanked queue.order queue.files.items queue.by_rank.items
  pub room : length queue.files.items + queue.files.room ≤ deque_capacity queue.by_rank
  pub oldest_first : queue.oldest_first ≡ []
  pub ages : HasAges queue.limits queue.files.items queue.by_age.items
  pub age_room : HasAgeRoom queue.limits (length queue.files.items + queue.files.room) (deque_capacity queue.by_age)
  pub counts : AreCountsOf queue.counts queue.files.items
  pub count_room : length queue.files.items + queue.files.room ≤ count_places queue.counts
  pub batch_room : queue.batch_room ≡ true → 0 < queue.batches.room
