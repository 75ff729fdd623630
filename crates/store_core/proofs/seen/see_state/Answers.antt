use Rattle.std.proofs.Common.{◌≡◌, ℕ, IsTrue, ap, ◌∙◌}
use Rattle.std.specs.Prelude.{Ok, Err}
use Rattle.std.proofs.lemmas.Result.{err_from_is_err_and}
use Rattle.flowfile_record.specs.Stored.{kept_of}
use Rattle.checkpoint_store.specs.Snapshot.{snapshot_file}
use Rattle.kept_state.specs.Applied.{batches_that_matter}
use Rattle.store_core.specs.Errors.{of_block}
use Rattle.store_core.specs.Kept.{least_of, unless_swapped, with_entries, snapshot_for, behind_snapshot}
use Rattle.store_core.specs.Seen.{no_flow}
use Rattle.store_core.specs.declared.error.StoreError.TheVariants.{Damaged}
use Rattle.store_core.proofs.Finding.{if_ok}
use Rattle.store_core.proofs.KeptRead.{log_at, agreed_snapshot, damaged_snapshot}
use Rattle.store_core.proofs.Refusals.{block_damaged}
use Rattle.store_core.proofs.Seeing.{agrees_with_no_flow}
use Rattle.store_core.proofs.seen.see_state.Goals as goal

pub returns-in_err-found-clause-damaged : goal.returns-in_err-found-clause-damaged
returns-in_err-found-clause-damaged g c damage is told version end =
    let file = snapshot_file c.args.number in
    let held = g.D.Disk.held c.args.disk.now in
    let p = err_from_is_err_and c.from_residual.result c.from_residual.ensures.1 in
    let same : of_block c.in_err-found.field-0.0 ≡ Damaged damage = cc (p.1, p.2, is) in
    ap (behind_snapshot held (log_at c.args.number version c.args.entries.items end))
    (damaged_snapshot no_flow file (held file) damage (c.in_err-found.ensures.damaged damage (ap Err (block_damaged c.in_err-found.field-0.0 damage same)) told))

pub returns-clause-kept : goal.returns-clause-kept
returns-clause-kept g c =
    let file = snapshot_file c.args.number in
    let held = g.D.Disk.held c.args.disk.now in
    let k = kept_of c.in_ok-found.found.stored in
    let entries = c.args.entries.items in
    if_ok c.apply_entries.result
    (λ state. (version end : ℕ) → with_entries (log_at c.args.number version entries end) k (unless_swapped (least_of (batches_that_matter k entries))) ≡ Ok state.kept)
    (λ state. IsTrue g.D.Disk.tells → (version end : ℕ) → behind_snapshot held (log_at c.args.number version entries end) (snapshot_for no_flow file (held file)) ≡ Ok state.kept)
    (λ state is told version end.
    ap (behind_snapshot held (log_at c.args.number version entries end))
    (agreed_snapshot no_flow file (held file) k (c.in_ok-found.ensures.read told) (agrees_with_no_flow k c.has_bytes.ensures)) ∙ is version end)
    c.apply_entries.ensures.kept

pub returns-clause-damaged : goal.returns-clause-damaged
returns-clause-damaged g c damage is told version end =
    let file = snapshot_file c.args.number in
    let held = g.D.Disk.held c.args.disk.now in
    ap (behind_snapshot held (log_at c.args.number version c.args.entries.items end))
    (agreed_snapshot no_flow file (held file) (kept_of c.in_ok-found.found.stored) (c.in_ok-found.ensures.read told) (agrees_with_no_flow (kept_of c.in_ok-found.found.stored) c.has_bytes.ensures))
    ∙ c.apply_entries.ensures.damaged damage is version end
