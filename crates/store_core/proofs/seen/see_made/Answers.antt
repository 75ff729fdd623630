use Rattle.std.proofs.Common.{◌≡◌, refl, sym, ap, subst, ◌∙◌}
use Rattle.std.specs.Prelude.{None, Some, Err}
use Rattle.std.proofs.lemmas.Result.{err_from_is_err_and}
use Rattle.disk_trait.specs.Files.{Files}
use Rattle.flowfile_record.specs.Stored.{Kept, kept_of}
use Rattle.prov_store.specs.Events.{events_in}
use Rattle.prov_store.specs.State.{HasEvents}
use Rattle.block_file.specs.declared.error.BlockError.{BlockError}
use Rattle.store_core.specs.declared.error.StoreError.TheVariants.{Damaged}
use Rattle.store_core.proofs.Refusals.{block_damaged}
use Rattle.store_core.proofs.Restoring.{moved}
use Rattle.store_core.proofs.Seeing.{torn_content, torn_event}
use Rattle.store_core.proofs.seen.see_made.Goals as goal

pub returns-in_err-read_contents-clause-damaged : goal.returns-in_err-read_contents-clause-damaged
returns-in_err-read_contents-clause-damaged g c damage is told =
    let p = err_from_is_err_and c.from_residual.result c.from_residual.ensures.1 in
    let same : c.in_err-read_contents.field-0.0 ≡ Damaged damage = cc (p.1, p.2, is) in
    let held = g.D.Disk.held c.args.disk.now in
    let k = c.args.state.kept in
    torn_content held k damage
    (moved held held k (kept_of c.stored-kept.result.now) (Some damage) refl c.stored-kept.ensures.kept (c.in_err-read_contents.ensures.damaged damage (ap Err same) told))

pub returns-in_err-events-clause-damaged : goal.returns-in_err-events-clause-damaged
returns-in_err-events-clause-damaged g c damage is told =
    let p = err_from_is_err_and c.from_residual-in_err-events.result c.from_residual-in_err-events.ensures.1 in
    let same : c.in_err-events.field-0.0 ≡ BlockError.Damaged damage = block_damaged c.in_err-events.field-0.0 damage (cc (p.1, p.2, is)) in
    let held = g.D.Disk.held c.args.disk.now in
    let mid = g.D.Disk.held c.read_contents.new.disk in
    let k = c.args.state.kept in
    let kept_is : kept_of c.stored-kept.result.now ≡ k = c.stored-kept.ensures.kept in
    torn_event held k damage
    (moved held held k (kept_of c.stored-kept.result.now) None refl kept_is (c.in_ok-read_contents.ensures.sound told))
    (ap (λ (f : Files). events_in f 0 k.last_event) (sym c.read_contents.ensures.stays.files)
    ∙ ap (λ (x : Kept). events_in mid 0 x.last_event) (sym kept_is)
    ∙ c.in_err-events.ensures.damaged damage (ap Err same) told)

pub returns-clause-seen : goal.returns-clause-seen
returns-clause-seen g c =
    let held = g.D.Disk.held c.args.disk.now in
    let k = c.args.state.kept in
    let kept_is : kept_of c.stored-kept.result.now ≡ k = c.stored-kept.ensures.kept in
    record {
      stored_is = refl;
      line = c.in_ok-events.ensures.found.line;
      last_event = c.in_ok-events.ensures.found.end ∙ ap (λ (x : Kept). x.last_event) kept_is;
      sound = λ told. moved held held k (kept_of c.stored-kept.result.now) None refl kept_is (c.in_ok-read_contents.ensures.sound told);
      events = λ told. subst (λ (f : Files). HasEvents c.in_ok-events.events f) c.read_contents.ensures.stays.files (c.in_ok-events.ensures.found.has told);
    }
