-- A queue as one sees it who decides what to do next: its files without their contents, and its batches.
use Rattle.std.specs.Prelude.{ℕ, ◌+◌, ◌-◌, ◌&&◌, nat_lt, nat_le, Bool, not, List, length, filter, sum_by}
use Rattle.flowfile_record.specs.Attributes.{AttributeMap}

-- an active file: `size` is how many bytes its content has, and it is in flight while a session works on it
pub record FileView : Type 0 where
  pub number : ℕ
  pub attributes : AttributeMap
  pub size : ℕ
  pub entered : ℕ
  pub penalty_end : ℕ
  pub arrival : ℕ
  pub in_flight : Bool

-- a batch of files that are swapped out: how many they are, and the sum of their sizes
pub record BatchView : Type 0 where
  pub number : ℕ
  pub files : ℕ
  pub size : ℕ

-- the active files, those in flight too, and the batches; the order of neither list matters
pub record QueueView : Type 0 where
  pub active : List FileView
  pub batches : List BatchView

-- its penalty ends after the moment
abbrev pub is_penalised : ℕ → FileView → Bool
is_penalised moment file = nat_lt moment file.penalty_end

-- so much time has passed since its data entered; a limit of 0 is none
abbrev pub is_expired : (limit moment : ℕ) → FileView → Bool
is_expired limit moment file = nat_lt 0 limit && nat_le limit (moment - file.entered)

-- the files that no session works on
abbrev pub at_rest : List FileView → List FileView
at_rest files = filter (λ file. not file.in_flight) files

-- how many files a queue has, and the sum of their sizes, with those that are swapped out
abbrev pub file_count : QueueView → ℕ
file_count queue = length queue.active + sum_by (λ batch. batch.files) queue.batches

abbrev pub byte_count : QueueView → ℕ
byte_count queue = sum_by (λ file. file.size) queue.active + sum_by (λ batch. batch.size) queue.batches
