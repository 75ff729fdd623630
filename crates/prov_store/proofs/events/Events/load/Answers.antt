use Rattle.std.proofs.Common.{◌≡◌, ℕ, suc, ◌+◌, ◌*◌, ◌/◌, inr, refl, sym, ap, subst, ◌∙◌, arith, rules}
use Rattle.std.specs.Prelude.{Err}
use Rattle.std.proofs.lemmas.Result.{err_from_is_err_and}
use Rattle.disk_trait.specs.Files.{Files}
use Rattle.prov_store.specs.Events.{events_of_files}
use Rattle.prov_store.specs.Loading.{EventsAreLoaded, LoadWantsMemory, loaded_state}
use Rattle.prov_store.specs.State.{AreLonger, EventsState, HasStale}
use Rattle.flowfile_record.specs.declared.limits.TheConstants.{EVENTS_PER_FILE}
use Rattle.block_file.specs.declared.error.BlockError.TheVariants.{Damaged, Memory}
use Rattle.prov_store.proofs.Listing.{none_longer}
use Rattle.prov_store.proofs.Loaded.{none_loaded, all_damaged, few_counted, has_events, same_stale}
use Rattle.prov_store.proofs.InFiles.{all_files}
use Rattle.prov_store.proofs.events.Events.load.Goals as goal

pub loop-number-init : goal.loop-number-init
loop-number-init g c = record {
  line = refl;
  end = refl;
  loaded = none_loaded g.D.Disk.tells (g.D.Disk.held c.args.disk.now) _ _ refl c.requires.line.whole refl refl (search rules);
  listed = none_longer g.D.Disk.tells (g.D.Disk.held c.args.disk.now) _ _ _ (search rules);
  stays = search rules;
  faults = omega arith;
}

pub returns-in_err-read_file-clause-damaged : goal.returns-in_err-read_file-clause-damaged
returns-in_err-read_file-clause-damaged g c damage is told =
    let inv = c.loop-number.invariant in
    let k = c.loop-number.number in
    let files = g.D.Disk.held c.loop-number.disk in
    let p = err_from_is_err_and c.from_residual.result c.from_residual.ensures.1 in
    let same : c.in_err-read_file.field-0.0 ≡ Damaged damage = cc (p.1, p.2, is) in
    all_damaged k c.args.line c.args.end files (g.D.Disk.held c.args.disk.now) damage inv.stays.files c.loop-number-test.true
    (λ more.
    ap (λ (n : ℕ). events_of_files (k + suc more) n c.args.end 0 files) (sym inv.line) ∙ ap (λ (n : ℕ). events_of_files (k + suc more) c.loop-number.loading.line n 0 files) (sym inv.end)
    ∙ c.in_err-read_file.ensures.damaged damage (ap Err same) told more)

pub invariant_of-result : goal.invariant_of-result
invariant_of-result g c =
    let inv = c.loop-number.invariant in
    let few = few_counted g.D.Disk.tells (g.D.Disk.held c.args.disk.now) c.loop-number.number c.loop-number.loading inv.loaded in
    (c.requires.end, c.requires.line, inv.loaded.long, λ k d lt. let here = few k d lt in omega (arith, here, inv.end))

pub returns-clause-found : goal.returns-clause-found
returns-clause-found g c =
    let inv = c.loop-number.invariant in
    let held = g.D.Disk.held in
    let d0 = c.loop-number.disk in
    let loading = c.loop-number.loading in
    let stale = c.in_ok-stale.stale.items in
    let state : EventsState = record { line = c.args.line; end = c.args.end; offset = loading.offset; counts = loading.counts.counts; stale = stale } in
    let all : c.loop-number.number ≡ loading.end / EVENTS_PER_FILE + 1 =
    omega (arith, c.loop-number-test.false, c.loop-number.auto.number-end (omega (arith, c.requires.line.within)), inv.end) in
    let loaded = subst (λ (n : ℕ). EventsAreLoaded g.D.Disk.tells (held c.args.disk.now) n loading) all inv.loaded in
    record {
      line = refl;
      end = refl;
      has = λ told. has_events g.D.Disk.tells (held c.args.disk.now) loading loaded told state (sym inv.line) (sym inv.end) refl refl;
      stale = λ told.
          same_stale state (loaded_state loading stale) (held c.args.disk.now) (sym inv.line) (sym inv.end) refl
          (subst (λ (f : Files). HasStale (loaded_state loading stale) f) inv.stays.files (c.in_ok-stale.ensures.stale told));
      longer = subst (λ (f : Files). AreLonger g.D.Disk.tells f stale) inv.stays.files c.in_ok-stale.ensures.longer;
    }

pub returns-in_err-read_file-clause-memory : goal.returns-in_err-read_file-clause-memory
returns-in_err-read_file-clause-memory g c is told =
    let inv = c.loop-number.invariant in
    let p = err_from_is_err_and c.from_residual.result c.from_residual.ensures.1 in
    let same : c.in_err-read_file.field-0.0 ≡ Memory = cc (p.1, p.2, is) in
    subst (λ (n : ℕ). LoadWantsMemory (g.D.Disk.held c.args.disk.now) n c.args.end) inv.line
    (subst (LoadWantsMemory (g.D.Disk.held c.args.disk.now) c.loop-number.loading.line) inv.end
    (subst (λ (f : Files). LoadWantsMemory f c.loop-number.loading.line c.loop-number.loading.end) inv.stays.files (c.in_err-read_file.ensures.memory (ap Err same) told)))

pub returns-in_err-stale-clause-memory : goal.returns-in_err-stale-clause-memory
returns-in_err-stale-clause-memory g c is told =
    let inv = c.loop-number.invariant in
    let loading = c.loop-number.loading in
    let files = g.D.Disk.held c.args.disk.now in
    let all : EVENTS_PER_FILE * c.loop-number.number ≡ EVENTS_PER_FILE * (c.args.end / EVENTS_PER_FILE + 1) =
    omega (arith, c.loop-number-test.false, c.loop-number.auto.number-end (omega (arith, c.requires.line.within))) in
    let says = ap (λ (n : ℕ). events_of_files c.loop-number.number n c.args.end 0 files) (sym inv.line) ∙ ap (λ (n : ℕ). events_of_files c.loop-number.number loading.line n 0 files) (sym inv.end) ∙ inv.loaded.says told in
    record {
      reached = c.args.end;
      from = c.requires.line.within;
      to = omega arith;
      events = inv.loaded.events;
      says = all_files c.loop-number.number c.args.line c.args.end files inv.loaded.events says (omega (arith, all));
      wants = inr (inr refl);
    }
