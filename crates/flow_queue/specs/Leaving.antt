-- Many files of a queue leave at once, each named by its number.
use Rattle.std.specs.Prelude.{◌≡◌, ℕ, ◌+◌, Bool, true, not, List, length, filter, All, IsSome, is_some}
use Rattle.flowfile_record.specs.NumberedItems.{item_of, AscendsByNumber}
use Rattle.machine_model.specs.Files.{are_distinct, is_number_among}
use Rattle.flow_queue.specs.declared.held.Held.{Held}
use Rattle.flow_queue.specs.declared.queue.ranked.Note.{Note}
use Rattle.flow_queue.specs.Queue.{QueueState, held_number}

abbrev pub goes_out : List ℕ → Held → Bool
goes_out numbers held = is_number_among numbers (held_number held)

abbrev pub files_going : List ℕ → List Held → List Held
files_going numbers files = filter (goes_out numbers) files

abbrev pub files_staying : List ℕ → List Held → List Held
files_staying numbers files = filter (λ held. not (goes_out numbers held)) files

-- the queue when these files have left, which leaves room for as many
abbrev pub queue_left_by : List ℕ → QueueState → QueueState
queue_left_by numbers queue =
    record queue { files = files_staying numbers queue.files; spare = queue.spare + length numbers }

-- files that may be taken one by one: they stand by their numbers, those of these numbers are there, each named once
pub record MayLeaveTogether (files : List Held) (numbers : List ℕ) : Type 0 where
  pub ascends : AscendsByNumber held_number files
  pub there : All (λ number. IsSome (item_of held_number number files)) numbers
  pub distinct : are_distinct numbers ≡ true

-- the file that is noted is there
abbrev pub is_held : List Held → Note → Bool
is_held files note = is_some (item_of held_number note.number files)
