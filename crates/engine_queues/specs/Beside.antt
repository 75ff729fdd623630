-- Queues beside sessions in flight: which of their files those sessions took.
use Rattle.std.specs.Prelude.{ℕ, ◌==◌, ◌||◌, not, Bool, List, map, filter}
use Rattle.std.specs.List.{list_any}
use Rattle.machine_model.specs.View.{FileView, QueueView}

-- a session in flight took the file of this number, where they took these
abbrev pub is_out : (out : List ℕ) → ℕ → Bool
is_out out number = list_any (λ n. n == number) out

-- the files that are out, but for these
abbrev pub out_without : (numbers out : List ℕ) → List ℕ
out_without numbers out = filter (λ number. not (is_out numbers number)) out

-- the file, which is in flight also where it is out
abbrev pub file_beside : (out : List ℕ) → FileView → FileView
file_beside out file = record file { in_flight = file.in_flight || is_out out file.number }

-- the queue, in which the files that are out are in flight
abbrev pub queue_beside : (out : List ℕ) → QueueView → QueueView
queue_beside out queue = record queue { active = map (file_beside out) queue.active }

-- all queues so
abbrev pub beside : (out : List ℕ) → (ℕ → QueueView) → ℕ → QueueView
beside out queues place = queue_beside out (queues place)
