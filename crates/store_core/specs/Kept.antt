-- What files keep: the snapshot of the current log's number with the log's entries applied, or the first damage.
use Rattle.std.specs.Prelude.{ℕ, min, List, fold, Option, None, Some, Result, Ok, Err, if◌then◌else◌}
use Rattle.disk_trait.specs.Files.{Files, named}
use Rattle.disk_trait.specs.declared.damage.Damage.{Damage}
use Rattle.disk_trait.specs.declared.damage.Damage.TheVariants.{Short, Form}
use Rattle.disk_trait.specs.declared.file_name.FileKind.TheVariants.{Log, Swap}
use Rattle.disk_trait.specs.declared.file_name.FileName.{FileName}
use Rattle.flowfile_record.specs.Stored.{Kept}
use Rattle.flowfile_record.specs.declared.flow_file.FlowFile.{FlowFile}
use Rattle.record_codec.specs.declared.block.TheConstants.{HEADER_SIZE}
use Rattle.record_codec.specs.declared.TheConstants.{FORMAT_VERSION}
use Rattle.checkpoint_store.specs.Reading.{snapshot_of}
use Rattle.checkpoint_store.specs.Snapshot.{snapshot_file}
use Rattle.flowfile_wal.specs.Current.{CurrentLog, current_log}
use Rattle.store_core.specs.Flow.{Flow, agrees_with}
use Rattle.store_core.specs.New.{first_stray, unless_stray}
use Rattle.kept_state.specs.Applied.{batches_that_matter}
use Rattle.kept_state.specs.Changes.{no_files}
use Rattle.kept_state.specs.Fits.{replayed}

-- ---- the snapshot

-- a Head that doesn't agree with the flow is damage
abbrev pub of_flow : Flow → FileName → Result Kept Damage → Result Kept Damage
of_flow flow file (Ok k) = if agrees_with flow k then Ok k else Err (Form file 0)
of_flow flow file (Err damage) = Err damage

-- what the bytes of a snapshot say to who has this flow
unfoldable pub snapshot_for : Flow → FileName → List ℕ → Result Kept Damage
snapshot_for flow file bytes = of_flow flow file (snapshot_of FORMAT_VERSION file bytes)

-- ---- the batches that matter

-- a file that is absent where a block is wanted at its start
abbrev pub absent : FileName → Damage
absent file = Short file 0 HEADER_SIZE 0

-- the least of a number and those before it
abbrev pub with_least : Option ℕ → ℕ → Option ℕ
with_least None n = Some n
with_least (Some least) n = Some (min least n)

abbrev pub least_of : List ℕ → Option ℕ
least_of numbers = fold with_least None numbers

-- The files of each batch that matters. No batch is swapped out yet: one that matters is damage, as where the file of
-- the lowest one is absent.
abbrev pub unless_swapped : Option ℕ → Result (ℕ → List FlowFile) Damage
unless_swapped None = Ok no_files
unless_swapped (Some batch) = Err (absent (named Swap batch))

abbrev pub batches_in : Files → List ℕ → Result (ℕ → List FlowFile) Damage
batches_in files batches = unless_swapped (least_of batches)

-- ---- the fit of the entries

-- what is kept once all entries are applied; one that doesn't fit is damage of its log
abbrev pub fitted : (log : ℕ) → Result Kept ℕ → Result Kept Damage
fitted log (Ok k) = Ok k
fitted log (Err at) = Err (Form (named Log log) at)

abbrev pub with_entries : CurrentLog → Kept → Result (ℕ → List FlowFile) Damage → Result Kept Damage
with_entries log k (Ok batches) = fitted log.number (replayed batches k log.entries)
with_entries log k (Err damage) = Err damage

-- ---- all of it

abbrev pub behind_snapshot : Files → CurrentLog → Result Kept Damage → Result Kept Damage
behind_snapshot files log (Ok k) = with_entries log k (batches_in files (batches_that_matter k log.entries))
behind_snapshot files log (Err damage) = Err damage

abbrev pub behind_log : Flow → (lot : ℕ) → Files → Result (Option CurrentLog) Damage → Result Kept Damage
behind_log flow lot files (Ok None) = unless_stray flow lot (first_stray files)
behind_log flow lot files (Ok (Some log)) =
    behind_snapshot files log
    (snapshot_for flow (snapshot_file log.number) (files (snapshot_file log.number)))
behind_log flow lot files (Err damage) = Err damage

-- What files keep for who has this flow, or their first damage: of the current log, of the snapshot of its number, of
-- the batches that matter, and of the entries' fit. The lot is what a new store is made of, where no log is current.
unfoldable pub kept_in : Flow → (lot : ℕ) → Files → Result Kept Damage
kept_in flow lot files = behind_log flow lot files (current_log files)
