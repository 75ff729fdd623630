-- A store that was just made stands for what its files stood for before.
use Rattle.std.proofs.Common.{◌≡◌, ℕ, cond, Bool, true, List, [], ◌++◌, map, refl, sym, ap, ◌∙◌, arith}
use Rattle.std.specs.Prelude.{None, Result, Ok, Err}
use Rattle.std.proofs.lemmas.List.Elements.{All-nil}
use Rattle.disk_trait.specs.Files.{Files, At}
use Rattle.disk_trait.specs.Images.{After, Since}
use Rattle.disk_trait.proofs.Moments.{wider, one_after_another, at_the_end}
use Rattle.disk_trait.specs.declared.damage.Damage.{Damage}
use Rattle.disk_trait.specs.declared.damage.Damage.TheVariants.{Form}
use Rattle.flowfile_record.specs.Stored.{Kept}
use Rattle.flowfile_record.specs.declared.stored.SwapBatch.{SwapBatch}
use Rattle.flowfile_record.specs.declared.content.ContentRef.{ContentRef}
use Rattle.record_codec.specs.declared.TheConstants.{FORMAT_VERSION}
use Rattle.checkpoint_store.specs.Consistent.{IsConsistent}
use Rattle.checkpoint_store.specs.Reading.{snapshot_of}
use Rattle.checkpoint_store.specs.Snapshot.{snapshot_file}
use Rattle.checkpoint_store.proofs.ReadBack.{read_back}
use Rattle.content_repo.specs.Claims.{content_in}
use Rattle.flowfile_wal.specs.Current.{CurrentLog}
use Rattle.flowfile_wal.specs.Steps.{IsClosedIn}
use Rattle.flowfile_wal.proofs.Beginnings.{begun_in}
use Rattle.flowfile_wal.proofs.States.{begun_ready}
use Rattle.store_core.specs.Agreement.{IsUnmade}
use Rattle.store_core.specs.Flow.{Flow, agrees_with}
use Rattle.store_core.specs.Kept.{kept_in, snapshot_for, of_flow, least_of, unless_swapped, with_entries, behind_snapshot}
use Rattle.store_core.specs.New.{kept_anew}
use Rattle.store_core.specs.Opened.{IsNewStore, SameMeaning}
use Rattle.store_core.proofs.Agreeing.{kept_by_log, same_state}
use Rattle.store_core.specs.Discard.{Discards}
use Rattle.store_core.proofs.EventsStay.{no_event}
use Rattle.store_core.proofs.Making.{kept_unmade}
use Rattle.store_core.proofs.Reviving.{unmade_discarded, unmade_snapshot}
use Rattle.store_core.proofs.Opening.{stands_whole}

-- the log of a store that was just made
abbrev pub first_log : CurrentLog
first_log = record { number = 1; version = FORMAT_VERSION; entries = []; end = 47 }

pub made_current : (k : Kept) (files : Files) → IsNewStore k files → IsClosedIn first_log files
made_current k files made = begun_ready FORMAT_VERSION 1 files (begun_in FORMAT_VERSION 1 files refl (refl, omega arith) made.log.begun made.log.greater)

of_agreed : (flow : Flow) (k : Kept) (agrees : Bool) → agrees_with flow k ≡ agrees → agrees ≡ true → of_flow flow (snapshot_file 1) (Ok k) ≡ Ok k
of_agreed flow k agrees is true_is = ap (λ (b : Bool). cond b (Ok k) (Err (Form (snapshot_file 1) 0))) (is ∙ true_is)

pub made_kept : (flow : Flow) (lot : ℕ) (k : Kept) (files : Files) → IsNewStore k files → IsConsistent k → k.batches ≡ [] → agrees_with flow k ≡ true → kept_in flow lot files ≡ Ok k
unfolding snapshot_for
made_kept flow lot k files made consistent none agrees =
    kept_by_log flow lot files first_log (made_current k files made).current
    ∙ ap (λ (bytes : List ℕ). behind_snapshot files first_log (of_flow flow (snapshot_file 1) (snapshot_of FORMAT_VERSION (snapshot_file 1) bytes))) made.snapshot.1
    ∙ ap (λ (read : Result Kept Damage). behind_snapshot files first_log (of_flow flow (snapshot_file 1) read)) (read_back FORMAT_VERSION (snapshot_file 1) k made.snapshot.0 consistent)
    ∙ ap (behind_snapshot files first_log) (of_agreed flow k true agrees refl)
    ∙ ap (λ (batches : List SwapBatch). with_entries first_log k (unless_swapped (least_of (map (λ b. b.batch) batches ++ [])))) none

-- files that keep what a new store does stand for what those of no store do
pub means_new : (flow : Flow) (lot : ℕ) (old new : Files) → IsUnmade old → kept_in flow lot new ≡ Ok (kept_anew flow lot) → SameMeaning flow lot old new
means_new flow lot old new was is =
    let k = kept_anew flow lot in
    let kept = kept_unmade flow lot old was in
    record {
      kept = is ∙ sym kept;
      state =
          stands_whole flow lot new k [] is refl (no_event new)
          ∙ ap Ok (same_state (content_in new) (content_in old) [] k (All-nil (λ (at : ContentRef). content_in new at ≡ content_in old at)))
          ∙ sym (stands_whole flow lot old k [] kept refl (no_event old));
    }

-- ---- while it is made

module _ {D : Type 0} (moment : D → ℕ) (images : D → ℕ → Files → Type 0) where
  -- other files go first
  pub since_discards : (old new : D) → ((d : Files) → images old (moment old) d → IsUnmade d) → Since moment images old new (After (Discards None) (images old (moment old))) → Since moment images old new IsUnmade
  since_discards old new unmade since = wider moment images old new (After (Discards None) (images old (moment old))) IsUnmade since
      (λ c after. unmade_discarded after.0 c (unmade after.0 after.1) after.2)

  -- then the snapshot is written
  pub since_snapshot : (old mid new : D) (P : List ℕ → List ℕ → Type 0) → Since moment images old mid IsUnmade
      → Since moment images mid new (After (At (snapshot_file 1) P) (images mid (moment mid))) → Since moment images old new IsUnmade
  since_snapshot old mid new P first second =
      one_after_another moment images old mid new IsUnmade (After (At (snapshot_file 1) P) (images mid (moment mid))) IsUnmade first second (λ c unmade. unmade)
      (λ c after. unmade_snapshot after.0 c P (at_the_end moment images old mid IsUnmade first after.0 after.1) after.2)
