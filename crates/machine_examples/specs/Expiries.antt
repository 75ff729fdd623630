-- Tried: files expire, are swapped out and come back.
use Rattle.std.specs.Prelude.{Option, ◌≡◌, ℕ, Bool, List, [], ◌∷◌, Some, None, codes}
use Rattle.flowfile_record.specs.declared.event.Event.{Event}
use Rattle.flowfile_record.specs.declared.event.EventKind.TheVariants as kind
use Rattle.machine_model.specs.declared.flow.Flow.{Flow}
use Rattle.machine_model.specs.declared.flow.QueueLimits.{QueueLimits}
use Rattle.machine_model.specs.declared.journal.Step.TheVariants.{Expire, SwapOut, SwapIn}
use Rattle.machine_model.specs.declared.kind.Conflict.TheVariants.{Replace}
use Rattle.machine_model.specs.State.{QueuedFile, State}
use Rattle.machine_model.specs.Due.{last_batch, lowest_batch}
use Rattle.machine_model.specs.Files.{queue_view, view_of}
use Rattle.machine_model.specs.Stepping.{step, replay}
use Rattle.machine_model.specs.View.{is_expired}
use Rattle.machine_examples.specs.Small.{hi, get_to_put, a_file, state_of, machine, told, nothing}

-- files expire after so many milliseconds, and are swapped past so many
abbrev pub limits : (expiration swap : ℕ) → QueueLimits
limits expiration swap = record { expiration = expiration; objects = 0; bytes = 0; swap = swap }

abbrev pub queued : List QueuedFile → State
queued files = state_of (files ∷ []) 9 9 (0 ∷ 0 ∷ [])

-- a file that entered at 1000
abbrev pub ExpiredIs : (expiration moment : ℕ) → Bool → Type 0
ExpiredIs expiration moment answer = is_expired expiration moment (view_of (a_file 1 1)) ≡ answer

abbrev pub expiry : (number moment file : ℕ) → Event
expiry number moment file = told number moment kind.Expire (codes "c1") file [] hi

-- ---- expiry

abbrev pub flow : Flow
flow = get_to_put Replace (limits 1 20_000)

abbrev pub OneExpires : Type 0
OneExpires =
    step flow (machine (queued (a_file 1 1 ∷ [])) nothing) (Expire 0 (1 ∷ []) 2000)
    ≡ Some (machine (record (queued []) { events = expiry 1 2000 1 ∷ []; last_event = 1 }) nothing)

abbrev pub NoneExpiresAtOnce : Type 0
NoneExpiresAtOnce = step flow (machine (queued (a_file 1 1 ∷ [])) nothing) (Expire 0 (1 ∷ []) 1000) ≡ None

-- two of three, told by ascending number, whatever order they are named in
abbrev pub TwoExpire : Type 0
TwoExpire =
    step flow (machine (queued (a_file 1 1 ∷ a_file 2 2 ∷ a_file 3 3 ∷ [])) nothing) (Expire 0 (3 ∷ 1 ∷ []) 2000)
    ≡ Some (machine (record (queued (a_file 2 2 ∷ [])) {
      events = expiry 1 2000 1 ∷ expiry 2 2000 3 ∷ [];
      last_event = 2;
    }) nothing)

-- ---- swaps: past 2 active files, in batches of one

abbrev pub swapping : Flow
swapping = get_to_put Replace (limits 500 2)

abbrev pub late : QueuedFile
late = record (a_file 3 3) { entered = 9000 }

abbrev pub late_in_batch : QueuedFile
late_in_batch = record late { batch = Some 1 }

abbrev pub all_active : State
all_active = queued (a_file 1 1 ∷ a_file 2 2 ∷ late ∷ [])

abbrev pub two_active : State
two_active = record (queued (a_file 1 1 ∷ a_file 2 2 ∷ late_in_batch ∷ [])) { next_batch = 2 }

abbrev pub one_active : State
one_active =
    record (queued (a_file 2 2 ∷ late_in_batch ∷ [])) { next_batch = 2; events = expiry 1 2000 1 ∷ []; last_event = 1 }

abbrev pub back_again : State
back_again =
    record (queued (a_file 2 2 ∷ late ∷ [])) { next_batch = 2; events = expiry 1 2000 1 ∷ []; last_event = 1 }

abbrev pub BatchGoes : Type 0
BatchGoes = step swapping (machine all_active nothing) (SwapOut 0 (3 ∷ []) 1) ≡ Some (machine two_active nothing)

abbrev pub BatchMustWait : Type 0
BatchMustWait = step swapping (machine two_active nothing) (SwapIn 0 1) ≡ None

abbrev pub BatchComesBack : Type 0
BatchComesBack = step swapping (machine one_active nothing) (SwapIn 0 1) ≡ Some (machine back_again nothing)

abbrev pub GoesAndComesBack : Type 0
GoesAndComesBack =
    replay swapping (machine all_active nothing) (SwapOut 0 (3 ∷ []) 1 ∷ Expire 0 (1 ∷ []) 2000 ∷ SwapIn 0 1 ∷ [])
    ≡ Some (machine back_again nothing)

-- what is due with these files in the queue
abbrev pub SwapsDueAre : List QueuedFile → (out : Option (List ℕ)) (back : Option ℕ) → Type 0
SwapsDueAre files out back =
    (last_batch [] (limits 500 2) (queue_view files).active ≡ out)
    × (lowest_batch (limits 500 2) (queue_view files) ≡ back)
