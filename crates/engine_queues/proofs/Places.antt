-- The queue at a place of the state that is kept.
use Rattle.std.proofs.Common.{◌≡◌, ℕ, zero, suc, ◌+◌, ◌<◌, ◌≤◌, List, [], ◌∷◌, length, map, refl, ap, ◌∙◌, arith}
use Rattle.std.specs.Prelude.{slice_get, unwrap_or}
use Rattle.std.specs.List.{enumerate_from}
use Rattle.flowfile_record.specs.Stored.{Kept}
use Rattle.flowfile_record.specs.declared.content.ContentRef.{ContentRef}
use Rattle.flowfile_record.specs.declared.event.Event.{Event}
use Rattle.machine_model.specs.Files.{queue_at}
use Rattle.machine_model.specs.State.{QueuedFile}
use Rattle.store_core.specs.State.{queue_of, state_with}

abbrev Queues : Type 0
Queues = ℕ → List QueuedFile

abbrev at : Queues → (from : ℕ) → List (List ℕ) → ℕ → List QueuedFile
at queues from names place = unwrap_or (slice_get (map (λ (c : ℕ × List ℕ). queues c.0) (enumerate_from from names)) place) []

there : (queues : Queues) (from place : ℕ) (names : List (List ℕ)) → place < length names → at queues from names place ≡ queues (from + place)
there queues from place [] lt = absurd (omega (arith, lt))
there queues from zero (name ∷ names) lt = ap queues (omega arith)
there queues from (suc place) (name ∷ names) lt = there queues (from + 1) place names (omega (arith, lt)) ∙ ap queues (omega arith)

past : (queues : Queues) (from place : ℕ) (names : List (List ℕ)) → length names ≤ place → at queues from names place ≡ []
past queues from place [] le = refl
past queues from zero (name ∷ names) le = absurd (omega (arith, le))
past queues from (suc place) (name ∷ names) le = past queues (from + 1) place names (omega (arith, le))

module _ (contents : ContentRef → List ℕ) (events : List Event) (k : Kept) where
  pub queue_there : (place : ℕ) → place < length k.connections → queue_at (state_with contents events k) place ≡ queue_of contents k.files place
  queue_there place lt = there (queue_of contents k.files) 0 place k.connections lt ∙ ap (queue_of contents k.files) (omega arith)

  pub queue_past : (place : ℕ) → length k.connections ≤ place → queue_at (state_with contents events k) place ≡ []
  queue_past place le = past (queue_of contents k.files) 0 place k.connections le
