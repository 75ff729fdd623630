-- Many files come into a queue at once, which no session works on.
use Rattle.std.specs.Prelude.{ℕ, ◌+◌, ◌-◌, ◌<◌, ◌≤◌, ◌^◌, List, length, map, All}
use Rattle.std.specs.List.{AllPairs}
use Rattle.flowfile_record.specs.NumberedItems.{with_items}
use Rattle.flowfile_record.specs.declared.flow_file.FlowFile.{FlowFile}
use Rattle.flow_queue.specs.declared.held.Held.{Held}
use Rattle.flow_queue.specs.declared.queue.counts.Counts.{Counts}
use Rattle.flow_queue.specs.Counts.{AreCountsOf, count_places}
use Rattle.flow_queue.specs.Inside.{AreSound}
use Rattle.flow_queue.specs.Queue.{QueueState, IsApart, held_number}
use Rattle.flow_queue.specs.Swapping.{AreTwo, rested}

-- files that may come one by one: no two have one number or one arrival, nor has one that of a file that is there
pub record MayComeTogether (held : List Held) (files : List FlowFile) : Type 0 where
  pub apart : All (λ file. IsApart file held) files
  pub distinct : AllPairs AreTwo files

abbrev pub files_with : List FlowFile → List Held → List Held
files_with files held = with_items held_number (map rested files) held

-- the queue when these files have come, which takes as much room
abbrev pub queue_joined_by : List FlowFile → QueueState → QueueState
queue_joined_by files queue =
    record queue { files = files_with files queue.files; spare = queue.spare - length files }

-- what a queue knows of its files, with room for more: the sum of their sizes, and what is counted of them
pub record AreKept (files : List Held) (room : ℕ) (counts : Counts) (bytes : ℕ) : Type 0 where
  pub sound : AreSound files bytes
  pub counted : AreCountsOf counts files
  pub places : length files + room ≤ count_places counts
  pub few : length files + room < 2 ^ 63
