use Rattle.std.proofs.Common.{◌≡◌, ◌↔◌, sym, ap, ◌∙◌}
use Rattle.std.specs.Prelude.{Option, None, Ok, Err, IsTrue, option_map}
use Rattle.std.proofs.lemmas.Result.{err_from_is_err_and}
use Rattle.flowfile_wal.specs.Current.{current_number}
use Rattle.kept_state.specs.Memory.{InMemory}
use Rattle.store_core.specs.Errors.{of_load}
use Rattle.store_core.specs.Kept.{kept_in}
use Rattle.store_core.specs.Seen.{no_flow, or_anew}
use Rattle.store_core.specs.declared.error.StoreError.TheVariants.{Damaged}
use Rattle.store_core.proofs.Finding.{if_ok}
use Rattle.store_core.proofs.KeptRead.{damaged_log, found_by}
use Rattle.store_core.proofs.Refusals.{load_damaged}
use Rattle.store_core.proofs.Touching.{number_read}
use Rattle.store_core.proofs.seen.see_kept.Goals as goal

pub returns-in_err-log-clause-damaged : goal.returns-in_err-log-clause-damaged
returns-in_err-log-clause-damaged g c damage is told =
    let p = err_from_is_err_and c.from_residual.result c.from_residual.ensures.1 in
    let same : of_load c.in_err-log.field-0.0 ≡ Damaged damage = cc (p.1, p.2, is) in
    damaged_log no_flow 0 (g.D.Disk.held c.args.disk.now) damage
    (c.in_err-log.ensures.damaged damage (ap Err (load_damaged c.in_err-log.field-0.0 damage same)) told)

pub returns-clause-kept : goal.returns-clause-kept
returns-clause-kept g c =
    if_ok c.see_behind.result _
    (λ (state : Option InMemory). IsTrue g.D.Disk.tells → kept_in no_flow 0 (g.D.Disk.held c.args.disk.now) ≡ Ok (or_anew (option_map (λ m. m.kept) state)))
    (λ state is told.
    found_by no_flow 0 (g.D.Disk.held c.args.disk.now) (g.D.Disk.held c.load.new.disk) c.in_ok-log.log c.in_ok-log.entries.items c.number.result (Ok (or_anew (option_map (λ m. m.kept) state)))
    c.load.ensures.stays.files c.number.ensures (c.in_ok-log.ensures.loaded told) (is told c.in_ok-log.log.version c.in_ok-log.log.end))
    c.see_behind.ensures.kept

pub returns-clause-made : goal.returns-clause-made
returns-clause-made g c =
    if_ok c.see_behind.result _
    (λ (state : Option InMemory). IsTrue g.D.Disk.tells → ((state ≡ None) ↔ (current_number (g.D.Disk.held c.args.disk.now) ≡ None)))
    (λ state is told.
    let read = number_read c.in_ok-log.log c.in_ok-log.entries.items (g.D.Disk.held c.args.disk.now) (c.in_ok-log.ensures.loaded told) in
    (λ none. read ∙ sym c.number.ensures ∙ is.0 none, λ none. is.1 (c.number.ensures ∙ sym read ∙ none)))
    c.see_behind.ensures.made

pub returns-clause-damaged : goal.returns-clause-damaged
returns-clause-damaged g c damage is told =
    found_by no_flow 0 (g.D.Disk.held c.args.disk.now) (g.D.Disk.held c.load.new.disk) c.in_ok-log.log c.in_ok-log.entries.items c.number.result (Err damage)
    c.load.ensures.stays.files c.number.ensures (c.in_ok-log.ensures.loaded told) (c.see_behind.ensures.damaged damage is told c.in_ok-log.log.version c.in_ok-log.log.end)
