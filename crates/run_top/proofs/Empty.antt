-- A disk that has no files stands for the state of a new store.
use Rattle.std.proofs.Common.{◌≡◌, ℕ, ◌+◌, ◌%◌, ◌^◌, List, [], ◌∷◌, length, map, refl, ap, ◌∙◌}
use Rattle.std.specs.FinSet.{empty}
use Rattle.std.specs.List.{enumerate_from}
use Rattle.std.specs.Prelude.{None, Ok, replicate}
use Rattle.disk_trait.specs.Files.{named}
use Rattle.disk_trait.specs.declared.file_name.FileKind.TheVariants.{Log}
use Rattle.disk_trait.proofs.Search.{greatest_none}
use Rattle.flowfile_record.specs.declared.limits.TheConstants.{STORE_LIMIT}
use Rattle.flowfile_record.specs.declared.content.ContentRef.{ContentRef}
use Rattle.record_codec.specs.Frames.{counts}
use Rattle.flowfile_wal.specs.Current.{current_number}
use Rattle.content_repo.specs.Claims.{content_in}
use Rattle.machine_model.specs.State.{QueuedFile, State}
use Rattle.machine_model.specs.Valid.{new_state}
use Rattle.machine_model.specs.declared.flow.Connection.{Connection}
use Rattle.machine_model.specs.declared.flow.Flow.{Flow}
use Rattle.machine_model.specs.declared.flow.Processor.{Processor}
use Rattle.store_core.specs.Agreement.{IsUnmade}
use Rattle.store_core.specs.New.{kept_anew}
use Rattle.store_core.specs.State.{queue_of, state_with}
use Rattle.store_core.proofs.Agreeing.{stands_by_kept, state_of_sound}
use Rattle.store_core.proofs.EventsStay.{no_event}
use Rattle.store_core.proofs.Making.{kept_unmade}
use Rattle.engine_change.specs.Committing.{identity_of}
use Rattle.run_top.specs.Opening.{IsOfFlow}
use Rattle.run_top.specs.Trial.{no_disk_files}

no_log : current_number no_disk_files ≡ None
unfolding current_number
no_log = greatest_none (λ n. counts (no_disk_files (named Log n))) (2 ^ 64) (λ m lt. refl)

unmade : IsUnmade no_disk_files
unmade = record {
  log = no_log;
  logs = λ n up lt. refl;
  snapshots = λ n up lt. refl;
  swaps = λ n lt. refl;
  claims = λ n lt. refl;
  events = λ n lt. refl;
}

-- ---- its state

queues_are : (contents : ContentRef → List ℕ) (from : ℕ) (cs : List Connection)
    → map (λ c. queue_of contents [] c.0) (enumerate_from from (map (λ c. c.id) cs)) ≡ map (λ (c : Connection). []) cs
queues_are contents from [] = refl
queues_are contents from (c ∷ cs) = ap (λ (rest : List (List QueuedFile)). [] ∷ rest) (queues_are contents (from + 1) cs)

counts_are : (ps : List Processor) → replicate {A = ℕ} (length ps) 0 ≡ map (λ (p : Processor). 0) ps
counts_are [] = refl
counts_are (p ∷ ps) = ap (λ (rest : List ℕ). 0 ∷ rest) (counts_are ps)

state_is : (contents : ContentRef → List ℕ) (flow : Flow) (lot : ℕ) → state_with contents [] (kept_anew (identity_of flow) lot) ≡ new_state flow lot
state_is contents flow lot =
    let made : List (List QueuedFile) → List ℕ → State = λ queues counts. record {
      store = lot % STORE_LIMIT;
      line = 0;
      queues = queues;
      events = [];
      kin = empty;
      next_number = 1;
      next_arrival = 1;
      next_batch = 1;
      last_event = 0;
      counts = counts;
    } in
    λ i. made (queues_are contents 0 flow.connections i) (counts_are flow.processors i)

pub none_kept : (flow : Flow) (lot : ℕ) → IsOfFlow flow lot no_disk_files (new_state flow lot)
none_kept flow lot =
    let keeps = kept_unmade (identity_of flow) lot no_disk_files unmade in
    record {
      stands =
          stands_by_kept (identity_of flow) lot no_disk_files (kept_anew (identity_of flow) lot) keeps
          ∙ state_of_sound no_disk_files (kept_anew (identity_of flow) lot) [] refl (no_event no_disk_files)
          ∙ ap Ok (state_is (content_in no_disk_files) flow lot);
      kept = kept_anew (identity_of flow) lot;
      keeps = keeps;
      is = refl;
    }
