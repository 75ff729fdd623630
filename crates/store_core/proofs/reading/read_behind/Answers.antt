use Rattle.std.proofs.Common.{◌≡◌, ℕ, true, IsTrue, sym, ap, ◌∙◌}
use Rattle.std.specs.Prelude.{Option, None, Ok, Err}
use Rattle.flowfile_wal.specs.Steps.{numbered_log}
use Rattle.checkpoint_store.specs.Snapshot.{snapshot_file}
use Rattle.store_core.specs.Flow.{agrees_with}
use Rattle.store_core.specs.Kept.{snapshot_for, behind_snapshot, behind_log}
use Rattle.store_core.specs.New.{first_stray, unless_stray, kept_anew}
use Rattle.store_core.proofs.Finding.{if_ok}
use Rattle.store_core.proofs.KeptRead.{log_at, both_ok, own_flow}
use Rattle.store_core.proofs.reading.read_behind.Goals as goal

pub returns-in-Some-clause-kept : goal.returns-in-Some-clause-kept
returns-in-Some-clause-kept g c =
    let held = g.D.Disk.held c.args.disk.now in
    let flow = c.args.flow.now in
    let items = c.args.entries.items in
    let number = c.in-Some.number in
    if_ok c.read_state.result
    (λ state. IsTrue g.D.Disk.tells → (version end : ℕ) → behind_snapshot held (log_at number version items end) (snapshot_for flow (snapshot_file number) (held (snapshot_file number))) ≡ Ok state.kept)
    (λ state. IsTrue g.D.Disk.tells → (version end : ℕ) → behind_log flow c.args.lot held (Ok (numbered_log c.args.current version items end)) ≡ Ok state.kept)
    (λ state is told version end. ap (λ (o : Option ℕ). behind_log flow c.args.lot held (Ok (numbered_log o version items end))) c.in-Some.is ∙ is told version end)
    c.read_state.ensures.kept

pub returns-in-Some-clause-damaged : goal.returns-in-Some-clause-damaged
returns-in-Some-clause-damaged g c damage is told version end =
    ap (λ (o : Option ℕ). behind_log c.args.flow.now c.args.lot (g.D.Disk.held c.args.disk.now) (Ok (numbered_log o version c.args.entries.items end))) c.in-Some.is ∙ c.read_state.ensures.damaged damage is told version end

pub returns-in-None-clause-kept : goal.returns-in-None-clause-kept
returns-in-None-clause-kept g c =
    let held = g.D.Disk.held c.args.disk.now in
    let flow = c.args.flow.now in
    let items = c.args.entries.items in
    both_ok c.new_state.result (λ state. state.kept ≡ kept_anew flow c.args.lot) (IsTrue g.D.Disk.tells → first_stray held ≡ None)
    (λ state. IsTrue g.D.Disk.tells → (version end : ℕ) → behind_log flow c.args.lot held (Ok (numbered_log c.args.current version items end)) ≡ Ok state.kept)
    (λ state is none told version end.
    ap (λ (o : Option ℕ). behind_log flow c.args.lot held (Ok (numbered_log o version items end))) c.in-None.is
    ∙ ap (unless_stray flow c.args.lot) (none told) ∙ ap Ok (sym is))
    c.new_state.ensures.kept c.new_state.ensures.none

pub returns-in-None-clause-damaged : goal.returns-in-None-clause-damaged
returns-in-None-clause-damaged g c damage is told version end =
    let stray = c.new_state.ensures.damaged damage is told in
    ap (λ (o : Option ℕ). behind_log c.args.flow.now c.args.lot (g.D.Disk.held c.args.disk.now) (Ok (numbered_log o version c.args.entries.items end))) c.in-None.is
    ∙ ap (unless_stray c.args.flow.now c.args.lot) stray.stray ∙ ap Err (sym stray.is)

pub returns-in-None-clause-flow : goal.returns-in-None-clause-flow
returns-in-None-clause-flow g c =
    if_ok c.new_state.result (λ state. state.kept ≡ kept_anew c.args.flow.now c.args.lot) (λ state. agrees_with c.args.flow.now state.kept ≡ true)
    (λ state is. ap (agrees_with c.args.flow.now) is ∙ own_flow c.args.flow.now c.args.lot) c.new_state.ensures.kept
