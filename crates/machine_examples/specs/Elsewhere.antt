-- Tried: steps at the second of two connections, sessions whose files wait elsewhere, and what is due of two queues.
use Rattle.std.specs.Prelude.{◌≡◌, ◌-◌, ◌^◌, ℕ, Bool, List, [], ◌∷◌, Option, Some, None, codes}
use Rattle.flowfile_record.specs.declared.event.EventKind.TheVariants as kind
use Rattle.machine_model.specs.declared.flow.Flow.{Flow}
use Rattle.machine_model.specs.declared.flow.QueueLimits.{QueueLimits}
use Rattle.machine_model.specs.declared.journal.Step.{Step}
use Rattle.machine_model.specs.declared.journal.Step.TheVariants.{Expire, SwapOut, SwapIn}
use Rattle.machine_model.specs.declared.kind.Conflict.TheVariants.{Replace}
use Rattle.machine_model.specs.declared.kind.Kind.{Kind}
use Rattle.machine_model.specs.declared.kind.Kind.TheVariants.{PutFile}
use Rattle.machine_model.specs.declared.kind.TakeRule.TheVariants.{One}
use Rattle.machine_model.specs.Due.{due_expiry, due_swap_in, due_swap_out, is_checkpoint_due, is_reclaim_due}
use Rattle.machine_model.specs.Files.{queues_of}
use Rattle.machine_model.specs.Quiet.{is_held_back, wants}
use Rattle.machine_model.specs.State.{QueuedFile, State}
use Rattle.machine_model.specs.Stepping.{step, taken_files}
use Rattle.machine_examples.specs.Small.{hi, processor, connection, a_file, machine, state_of, told, nothing}
use Rattle.machine_examples.specs.Clones.{duplicating}

-- files expire after 500 milliseconds, and are swapped past 2
abbrev pub limits : QueueLimits
limits = record { expiration = 500; objects = 0; bytes = 0; swap = 2 }

-- a GetFile, a DuplicateFlowFile and a PutFile, one behind the other
abbrev pub chain : Flow
chain =
    record duplicating { connections = connection (codes "c1") 0 1 limits ∷ connection (codes "c2") 1 2 limits ∷ [] }

-- these files before the DuplicateFlowFile, and those before the PutFile
abbrev pub chained : List QueuedFile → List QueuedFile → State
chained front back = record (state_of (front ∷ back ∷ []) 9 9 (0 ∷ 0 ∷ 0 ∷ [])) { next_batch = 3 }

abbrev pub in_batch : (batch : ℕ) → QueuedFile → QueuedFile
in_batch batch file = record file { batch = Some batch }

abbrev pub three : List QueuedFile
three = a_file 1 1 ∷ a_file 2 2 ∷ a_file 3 3 ∷ []

abbrev pub three_more : List QueuedFile
three_more = a_file 4 4 ∷ a_file 5 5 ∷ a_file 6 6 ∷ []

abbrev pub Leaves : State → Step → State → Type 0
Leaves before entry after = step chain (machine before nothing) entry ≡ Some (machine after nothing)

abbrev pub IsNoStep : State → Step → Type 0
IsNoStep before entry = step chain (machine before nothing) entry ≡ None

-- ---- steps of the second queue

abbrev pub both_wait : State
both_wait = chained (a_file 1 1 ∷ []) (a_file 2 2 ∷ [])

abbrev pub SecondExpires : Type 0
SecondExpires =
    Leaves both_wait (Expire 1 (2 ∷ []) 2000)
    (record (chained (a_file 1 1 ∷ []) []) {
      events = told 1 2000 kind.Expire (codes "c2") 2 [] hi ∷ [];
      last_event = 1;
    })

abbrev pub NotOfTheFirst : Type 0
NotOfTheFirst = IsNoStep both_wait (Expire 0 (2 ∷ []) 2000)

abbrev pub SecondSwapsOut : Type 0
SecondSwapsOut =
    Leaves (chained three three_more) (SwapOut 1 (5 ∷ []) 3)
    (record (chained three (a_file 4 4 ∷ in_batch 3 (a_file 5 5) ∷ a_file 6 6 ∷ [])) { next_batch = 4 })

abbrev pub both_swapped : State
both_swapped = chained (in_batch 1 (a_file 1 1) ∷ []) (in_batch 2 (a_file 2 2) ∷ [])

abbrev pub SecondSwapsIn : Type 0
SecondSwapsIn = Leaves both_swapped (SwapIn 1 2) (chained (in_batch 1 (a_file 1 1) ∷ []) (a_file 2 2 ∷ []))

abbrev pub FirstsBatchIsNotSeconds : Type 0
FirstsBatchIsNotSeconds = IsNoStep both_swapped (SwapIn 1 1)

-- ---- sessions take what waits before their processor

abbrev pub TakesOf : (processor number : ℕ) → Option (List QueuedFile) → Type 0
TakesOf processor number taken = taken_files chain both_wait processor One (number ∷ []) 1000 ≡ taken

-- ---- what waits before a processor makes it want, and what is full behind it holds it back

abbrev pub WantsIs : State → (place : ℕ) → Kind → Bool → Type 0
WantsIs state place kind answer = wants chain state nothing 1000 (place, processor (codes "p") kind []) ≡ answer

-- a queue is full with one file
abbrev pub narrow_chain : Flow
narrow_chain = record chain {
  connections =
      connection (codes "c1") 0 1 (record limits { objects = 1 })
      ∷ connection (codes "c2") 1 2 (record limits { objects = 1 }) ∷ [];
}

abbrev pub HeldBackIs : State → (place : ℕ) → Bool → Type 0
HeldBackIs state place answer =
    is_held_back narrow_chain (queues_of state) (place, processor (codes "p") (PutFile Replace) []) ≡ answer

-- ---- what is due of both: the first that owes it, by the flow's order

abbrev pub ExpiryIs : State → (moment : ℕ) → Option (ℕ × List ℕ) → Type 0
ExpiryIs state moment due = due_expiry chain (queues_of state) moment ≡ due

abbrev pub SwapOutIs : State → Option (ℕ × List ℕ) → Type 0
SwapOutIs state due = due_swap_out chain (queues_of state) ≡ due

abbrev pub SwapInIs : State → Option (ℕ × ℕ) → Type 0
SwapInIs state due = due_swap_in chain (queues_of state) ≡ due

abbrev pub fresh : QueuedFile
fresh = record (a_file 9 9) { entered = 1900 }

-- ---- what the store owes itself

abbrev pub CheckpointIs : (entries number : ℕ) → Bool → Type 0
CheckpointIs entries number due = is_checkpoint_due 4096 entries number ≡ due

abbrev pub last_log : ℕ
last_log = 2 ^ 62 - 1

abbrev pub ReclaimIs : (entries : ℕ) → Bool → Type 0
ReclaimIs entries due = is_reclaim_due entries ≡ due
