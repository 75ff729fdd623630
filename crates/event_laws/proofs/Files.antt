-- Files of queues by their numbers, also where another queue stands in one's place.
use Rattle.std.proofs.Common.{◌⊎◌, inl, inr, ℕ, zero, suc, List, [], ◌∷◌, map, subst}
use Rattle.std.specs.Prelude.{slice_set}
use Rattle.std.specs.List.{flat_map}
use Rattle.machine_model.specs.State.{QueuedFile, State}
use Rattle.machine_model.specs.Valid.{files_of_all}
use Rattle.machine_model.proofs.Among.{Among, contains_among, among_contained, among_left, among_right, among_either, IsMade, is_made, makes}
use Rattle.machine_model.proofs.BatchPlaces.{at}
use Rattle.machine_model.proofs.Numbered.{number_of}
use Rattle.event_laws.specs.Told.{IsQueued}

-- a file of this number is there
abbrev pub Has : List QueuedFile → ℕ → Type 0
Has files number = IsMade number_of files number

pub queued-has : (state : State) (number : ℕ) → IsQueued state number → Has (files_of_all state) number
queued-has state number h = is_made number_of (files_of_all state) number (among_contained number (map number_of (files_of_all state)) h)

pub has-queued : (state : State) (number : ℕ) → Has (files_of_all state) number → IsQueued state number
has-queued state number h =
    contains_among number (map number_of (files_of_all state))
    (subst (λ n. Among n (map number_of (files_of_all state))) h.is (makes number_of (files_of_all state) h.source h.there))

abbrev pub all : List (List QueuedFile) → List QueuedFile
all queues = flat_map (λ queue. queue) queues

pub at-all : (queues : List (List QueuedFile)) (place : ℕ) (file : QueuedFile) → Among file (at queues place) → Among file (all queues)
at-all [] place file h = absurd h
at-all (queue ∷ queues) zero file h = among_left file queue (all queues) h
at-all (queue ∷ queues) (suc place) file h = among_right file queue (all queues) (at-all queues place file h)

-- ---- a queue in another's place

-- what is there then was there, or is the new queue's
pub set-was : (queues : List (List QueuedFile)) (place : ℕ) (new : List QueuedFile) (file : QueuedFile) → Among file (all (slice_set queues place new)) → Among file (all queues) ⊎ Among file new
set-was [] place new file h = absurd h
set-was (queue ∷ queues) zero new file h =
    elim (among_either file new (all queues) h) [ inl here ↦ inr here | inr later ↦ inl (among_right file queue (all queues) later) ]
set-was (queue ∷ queues) (suc place) new file h =
    elim (among_either file queue (all (slice_set queues place new)) h) [
      | inl here ↦ inl (among_left file queue (all queues) here)
      | inr later ↦ elim (set-was queues place new file later) [ inl old ↦ inl (among_right file queue (all queues) old) | inr comes ↦ inr comes ]
    ]

-- what was there is there, or was the old queue's
pub set-keeps : (queues : List (List QueuedFile)) (place : ℕ) (new : List QueuedFile) (file : QueuedFile) → Among file (all queues) → Among file (all (slice_set queues place new)) ⊎ Among file (at queues place)
set-keeps [] place new file h = absurd h
set-keeps (queue ∷ queues) zero new file h =
    elim (among_either file queue (all queues) h) [ inl here ↦ inr here | inr later ↦ inl (among_right file new (all queues) later) ]
set-keeps (queue ∷ queues) (suc place) new file h =
    elim (among_either file queue (all queues) h) [
      | inl here ↦ inl (among_left file queue (all (slice_set queues place new)) here)
      | inr later ↦ elim (set-keeps queues place new file later) [ inl kept ↦ inl (among_right file queue (all (slice_set queues place new)) kept) | inr old ↦ inr old ]
    ]

-- what the new queue has is there, if the old one had any file
pub set-has : (queues : List (List QueuedFile)) (place : ℕ) (new : List QueuedFile) (old file : QueuedFile) → Among old (at queues place) → Among file new → Among file (all (slice_set queues place new))
set-has [] place new old file h k = absurd h
set-has (queue ∷ queues) zero new old file h k = among_left file new (all queues) k
set-has (queue ∷ queues) (suc place) new old file h k = among_right file queue (all (slice_set queues place new)) (set-has queues place new old file h k)
