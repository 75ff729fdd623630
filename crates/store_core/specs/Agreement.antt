-- When two sets of files agree on all that a state needs of them.
use Rattle.std.specs.Prelude.{◌≡◌, ℕ, ◌^◌, ◌<◌, List, [], All, None, Some, Ok}
use Rattle.disk_trait.specs.Files.{Files, named}
use Rattle.disk_trait.specs.declared.file_name.FileKind.TheVariants.{Log, Snapshot, Swap, Claim, Events}
use Rattle.flowfile_record.specs.Stored.{Kept}
use Rattle.flowfile_record.specs.declared.content.ContentRef.{ContentRef}
use Rattle.checkpoint_store.specs.Snapshot.{snapshot_file}
use Rattle.content_repo.specs.Claims.{content_in, IsCovered}
use Rattle.flowfile_wal.specs.Current.{CurrentLog, current_log, current_number}
use Rattle.prov_store.specs.Events.{events_file}
use Rattle.prov_store.specs.State.{SameEvents}
use Rattle.store_core.specs.Flow.{Flow}
use Rattle.store_core.specs.Kept.{kept_in, snapshot_for}
use Rattle.store_core.specs.State.{live_contents}
use Rattle.kept_state.specs.Applied.{batches_that_matter}

-- ---- files with a current log

-- what a state needs of its files: the current log and its snapshot, of this number, the files of these batches, these
-- contents, and the events up to the last one
pub record Needs : Type 0 where
  pub log : ℕ
  pub batches : List ℕ
  pub contents : List ContentRef
  pub last_event : ℕ

-- a content stands there as before
pub record SameContent (old new : Files) (at : ContentRef) : Type 0 where
  pub bytes : content_in new at ≡ content_in old at
  pub covered : IsCovered old at → IsCovered new at

-- All that a state needs is the same: the current log with its entries, the snapshot of its number, the swap files of
-- the batches that matter, the bytes of the live contents, and those of the events up to the last one.
pub record Agrees (needs : Needs) (old new : Files) : Type 0 where
  pub log : current_log new ≡ current_log old
  pub snapshot : new (snapshot_file needs.log) ≡ old (snapshot_file needs.log)
  pub batches : All (λ batch. new (named Swap batch) ≡ old (named Swap batch)) needs.batches
  pub contents : All (SameContent old new) needs.contents
  pub events : SameEvents 0 needs.last_event old new

-- The current log of these files has this number, and these batches matter there; where the files keep a state, these
-- are its contents and its last event.
pub record IsNeeded (flow : Flow) (lot : ℕ) (files : Files) (needs : Needs) : Type 0 where
  pub log : CurrentLog
  pub current : current_log files ≡ Ok (Some log)
  pub number : needs.log ≡ log.number
  pub batches : (k : Kept) → snapshot_for flow (snapshot_file log.number) (files (snapshot_file log.number)) ≡ Ok k
      → needs.batches ≡ batches_that_matter k log.entries
  pub contents : (k : Kept) → kept_in flow lot files ≡ Ok k → needs.contents ≡ live_contents k
  pub last_event : (k : Kept) → kept_in flow lot files ≡ Ok k → needs.last_event ≡ k.last_event

-- what a state without batches needs of a log of this number
pub record IsPlain (needs : Needs) (number : ℕ) : Type 0 where
  pub log : needs.log ≡ number
  pub batches : needs.batches ≡ []

-- each file of events is as it was
abbrev pub SameEventFiles : Files → Files → Type 0
SameEventFiles old new = (k : ℕ) → new (events_file k) ≡ old (events_file k)

-- ---- files without one

-- no log is current, and but for logs and snapshots up to the first number there is nothing
pub record IsUnmade (files : Files) : Type 0 where
  pub log : current_number files ≡ None
  pub logs : (n : ℕ) → 1 < n → n < 2 ^ 64 → files (named Log n) ≡ []
  pub snapshots : (n : ℕ) → 1 < n → n < 2 ^ 64 → files (named Snapshot n) ≡ []
  pub swaps : (n : ℕ) → n < 2 ^ 64 → files (named Swap n) ≡ []
  pub claims : (n : ℕ) → n < 2 ^ 64 → files (named Claim n) ≡ []
  pub events : (n : ℕ) → n < 2 ^ 64 → files (named Events n) ≡ []
