use Rattle.std.proofs.Common.{◌≡◌, ℕ, refl, sym, ap, ◌∙◌}
use Rattle.std.specs.Prelude.{Option, None, Some, Ok, Err}
use Rattle.std.proofs.lemmas.Result.{err_from_is_err_and}
use Rattle.flowfile_wal.specs.Steps.{numbered_log}
use Rattle.store_core.specs.Kept.{behind_log}
use Rattle.store_core.specs.New.{unless_stray}
use Rattle.store_core.specs.Seen.{no_flow}
use Rattle.store_core.specs.declared.error.StoreError.TheVariants.{Damaged}
use Rattle.store_core.proofs.seen.see_behind.Goals as goal

pub returns-in_err-state-in-Some-clause-damaged : goal.returns-in_err-state-in-Some-clause-damaged
returns-in_err-state-in-Some-clause-damaged g c damage is told version end =
    let p = err_from_is_err_and c.from_residual.result c.from_residual.ensures.1 in
    let same : c.in_err-state-in-Some.field-0.0 ≡ Damaged damage = cc (p.1, p.2, is) in
    ap (λ (o : Option ℕ). behind_log no_flow 0 (g.D.Disk.held c.args.disk.now) (Ok (numbered_log o version c.args.entries.items end))) c.in-Some.is
    ∙ c.in_err-state-in-Some.ensures.damaged damage (ap Err same) told version end

pub returns-in_ok-state-in-Some-clause-kept : goal.returns-in_ok-state-in-Some-clause-kept
returns-in_ok-state-in-Some-clause-kept g c told version end =
    ap (λ (o : Option ℕ). behind_log no_flow 0 (g.D.Disk.held c.args.disk.now) (Ok (numbered_log o version c.args.entries.items end))) c.in-Some.is
    ∙ c.in_ok-state-in-Some.ensures.kept told version end

pub returns-in_ok-state-in-Some-clause-made : goal.returns-in_ok-state-in-Some-clause-made
returns-in_ok-state-in-Some-clause-made g c = (
  λ none. absurd cc,
  λ none. let both : Some c.in-Some.number ≡ None = sym c.in-Some.is ∙ none in absurd cc,
)

pub returns-in_err-refuse_stray-in-None-clause-damaged : goal.returns-in_err-refuse_stray-in-None-clause-damaged
returns-in_err-refuse_stray-in-None-clause-damaged g c damage is told version end =
    let p = err_from_is_err_and c.from_residual-in_err-refuse_stray-in-None.result c.from_residual-in_err-refuse_stray-in-None.ensures.1 in
    let same : c.in_err-refuse_stray-in-None.field-0.0 ≡ Damaged damage = cc (p.1, p.2, is) in
    let stray = c.in_err-refuse_stray-in-None.ensures.damaged damage (ap Err same) told in
    ap (λ (o : Option ℕ). behind_log no_flow 0 (g.D.Disk.held c.args.disk.now) (Ok (numbered_log o version c.args.entries.items end))) c.in-None.is
    ∙ ap (unless_stray no_flow 0) stray.stray ∙ ap Err (sym stray.is)

pub returns-in_ok-refuse_stray-in-None-clause-kept : goal.returns-in_ok-refuse_stray-in-None-clause-kept
returns-in_ok-refuse_stray-in-None-clause-kept g c told version end =
    ap (λ (o : Option ℕ). behind_log no_flow 0 (g.D.Disk.held c.args.disk.now) (Ok (numbered_log o version c.args.entries.items end))) c.in-None.is
    ∙ ap (unless_stray no_flow 0) (c.in_ok-refuse_stray-in-None.ensures.none told)

pub returns-in_ok-refuse_stray-in-None-clause-made : goal.returns-in_ok-refuse_stray-in-None-clause-made
returns-in_ok-refuse_stray-in-None-clause-made g c = (λ none. c.in-None.is, λ none. refl)
