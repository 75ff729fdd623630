-- Behind a settled session the queues have the files that are left and those that are placed, and no other.
use Rattle.std.proofs.Common.{◌≡◌, ℕ, ◌+◌, ◌<◌, ◌==◌, List, [], ◌∷◌, length, map, refl, ap, ◌∙◌, arith}
use Rattle.std.specs.Prelude.{All, filter}
use Rattle.std.specs.List.{enumerate_from, flat_map}
use Rattle.flowfile_record.specs.Stored.{Kept}
use Rattle.flowfile_record.specs.declared.change.Settled.{Settled}
use Rattle.flowfile_record.specs.declared.content.ContentRef.{ContentRef}
use Rattle.flowfile_record.specs.declared.event.Event.{Event}
use Rattle.flowfile_record.specs.declared.stored.ActiveFile.{ActiveFile}
use Rattle.flowfile_record.specs.declared.stored.Placed.{Placed}
use Rattle.kept_state.specs.Applied.{left_after}
use Rattle.machine_model.specs.Changing.{placed_file, placed_into, queue_after, state_after}
use Rattle.machine_model.specs.State.{QueuedFile}
use Rattle.machine_model.specs.Stepping.{without_files}
use Rattle.machine_model.specs.Valid.{files_of_all}
use Rattle.machine_model.proofs.Tally.{tally, tally-append, tally-map, tally-plus}
use Rattle.store_core.specs.State.{queue_of, queued_active, state_with}
use Rattle.store_core.proofs.Queues.{line, queue_left}
use Rattle.engine_change.proofs.Counts.{by_place, tally-fold}

module _ (contents : ContentRef → List ℕ) (s : Settled) (files : List ActiveFile) (w : QueuedFile → ℕ) where
  abbrev of_left : ℕ × List ℕ → ℕ
  of_left q = tally (λ (a : ActiveFile). w (queued_active contents a)) (filter (λ a. a.connection == q.0) (left_after s.gone files))

  abbrev of_placed : ℕ × List ℕ → ℕ
  of_placed q = tally (λ (p : Placed). w (placed_file contents s.placed p)) (filter (λ p. p.connection == q.0) s.placed)

  one_queue : (place : ℕ) (id : List ℕ) → tally w (queue_after contents s (place, queue_of contents files place)) ≡ of_left (place, id) + of_placed (place, id)
  one_queue place id =
      let left = left_after s.gone files in
      let of_place = filter (λ (a : ActiveFile). a.connection == place) left in
      let come = filter (λ (p : Placed). p.connection == place) s.placed in
      omega (
        arith,
        tally-fold w (placed_into contents s.placed place s.placed) (without_files (queue_of contents files place) s.gone),
        ap (tally w) (queue_left contents place s.gone files),
        tally-fold w (line contents place left) [],
        tally-map w (queued_active contents) of_place,
        tally-map w (placed_file contents s.placed) come,
      )

  all_queues : (from : ℕ) (connections : List (List ℕ))
      → tally w (flat_map (λ queue. queue) (map (queue_after contents s) (enumerate_from from (map (λ c. queue_of contents files c.0) (enumerate_from from connections)))))
      ≡ tally (λ q. of_left q + of_placed q) (enumerate_from from connections)
  all_queues from [] = refl
  all_queues from (id ∷ connections) =
      let rest = map (queue_after contents s) (enumerate_from (from + 1) (map (λ (c : ℕ × List ℕ). queue_of contents files c.0) (enumerate_from (from + 1) connections))) in
      tally-append w (queue_after contents s (from, queue_of contents files from)) (flat_map (λ queue. queue) rest)
      ∙ ap (λ n. n + tally w (flat_map (λ (queue : List QueuedFile). queue) rest)) (one_queue from id)
      ∙ ap (λ n. of_left (from, id) + of_placed (from, id) + n) (all_queues (from + 1) connections)

-- each left file's and each placed one's connection is there
pub record StandSomewhere (k : Kept) (s : Settled) : Type 0 where
  pub left : All (λ a. a.connection < length k.connections) (left_after s.gone k.files)
  pub placed : All (λ p. p.connection < length k.connections) s.placed

pub all_files : (contents : ContentRef → List ℕ) (events : List Event) (k : Kept) (s : Settled) (w : QueuedFile → ℕ) → StandSomewhere k s
    → tally w (files_of_all (state_after contents (state_with contents events k) s))
    ≡ tally (λ a. w (queued_active contents a)) (left_after s.gone k.files) + tally (λ p. w (placed_file contents s.placed p)) s.placed
all_files contents events k s w stand =
    let left = left_after s.gone k.files in
    omega (
      arith,
      all_queues contents s k.files w 0 k.connections,
      tally-plus (of_left contents s k.files w) (of_placed contents s k.files w) (enumerate_from 0 k.connections),
      by_place (λ (a : ActiveFile). w (queued_active contents a)) (λ a. a.connection) k.connections left stand.left,
      by_place (λ (p : Placed). w (placed_file contents s.placed p)) (λ p. p.connection) k.connections s.placed stand.placed,
    )
