use Rattle.std.proofs.Common.{◌≡◌, ℕ, ap, ◌∙◌}
use Rattle.std.specs.Prelude.{Ok, Err}
use Rattle.disk_trait.specs.Files.{named}
use Rattle.disk_trait.specs.declared.file_name.FileKind.TheVariants.{Swap}
use Rattle.flowfile_record.specs.Stored.{kept_of}
use Rattle.kept_state.specs.Applied.{batches_that_matter}
use Rattle.kept_state.specs.Changes.{no_files}
use Rattle.kept_state.specs.Fits.{replayed}
use Rattle.store_core.specs.Kept.{absent, least_of, unless_swapped, fitted, with_entries}
use Rattle.store_core.proofs.Finding.{if_ok}
use Rattle.store_core.proofs.KeptRead.{none_matters, found_least, log_at, swapped_damage, entries_alone}
use Rattle.store_core.proofs.reading.apply_entries.Goals as goal

pub returns-in-Some-clause-damaged : goal.returns-in-Some-clause-damaged
returns-in-Some-clause-damaged c damage is version end =
    let same : absent (named Swap c.in-Some.batch) ≡ damage = cc is in
    let k = kept_of c.args.stored in
    let entries = c.args.entries.items in
    let least = found_least k entries c.as_slice.result.now c.least_batch.result c.least_swapped-least.result c.least_batch.ensures c.as_slice.ensures.value c.least_swapped-least.ensures in
    swapped_damage k c.args.number version entries end c.in-Some.batch (least ∙ c.in-Some.is)
    ∙ ap Err same

pub replay_entries-requires-clause-unswapped : goal.replay_entries-requires-clause-unswapped
replay_entries-requires-clause-unswapped c =
    let k = kept_of c.args.stored in
    let least = found_least k c.args.entries.items c.as_slice.result.now c.least_batch.result c.least_swapped-least.result c.least_batch.ensures c.as_slice.ensures.value c.least_swapped-least.ensures in
    (none_matters k c.args.entries.items (least ∙ c.in-None.is)).swapped

pub replay_entries-requires-clause-no_batches : goal.replay_entries-requires-clause-no_batches
replay_entries-requires-clause-no_batches c =
    let k = kept_of c.args.stored in
    let least = found_least k c.args.entries.items c.as_slice.result.now c.least_batch.result c.least_swapped-least.result c.least_batch.ensures c.as_slice.ensures.value c.least_swapped-least.ensures in
    (none_matters k c.args.entries.items (least ∙ c.in-None.is)).batches

pub replay_entries-requires-clause-consistent : goal.replay_entries-requires-clause-consistent
replay_entries-requires-clause-consistent c =
    let k = kept_of c.args.stored in
    let least = found_least k c.args.entries.items c.as_slice.result.now c.least_batch.result c.least_swapped-least.result c.least_batch.ensures c.as_slice.ensures.value c.least_swapped-least.ensures in
    c.requires.consistent (none_matters k c.args.entries.items (least ∙ c.in-None.is)).batches

pub returns-in-None-clause-kept : goal.returns-in-None-clause-kept
returns-in-None-clause-kept c =
    let k = kept_of c.args.stored in
    let entries = c.args.entries.items in
    let least = found_least k entries c.as_slice.result.now c.least_batch.result c.least_swapped-least.result c.least_batch.ensures c.as_slice.ensures.value c.least_swapped-least.ensures in
    if_ok c.replay_entries.result (λ state. replayed no_files k entries ≡ Ok state.kept)
    (λ state. (version end : ℕ) → with_entries (log_at c.args.number version entries end) k (unless_swapped (least_of (batches_that_matter k entries))) ≡ Ok state.kept)
    (λ state is version end. entries_alone k c.args.number version entries end (least ∙ c.in-None.is) ∙ ap (fitted c.args.number) is) c.replay_entries.ensures.kept

pub returns-in-None-clause-damaged : goal.returns-in-None-clause-damaged
returns-in-None-clause-damaged c damage is version end =
    let k = kept_of c.args.stored in
    let entries = c.args.entries.items in
    let least = found_least k entries c.as_slice.result.now c.least_batch.result c.least_swapped-least.result c.least_batch.ensures c.as_slice.ensures.value c.least_swapped-least.ensures in
    entries_alone k c.args.number version entries end (least ∙ c.in-None.is) ∙ c.replay_entries.ensures.damaged damage is
