use Rattle.std.proofs.Common.{◌≡◌, ap}
use Rattle.std.specs.Prelude.{None, Some, Err, IsTrue}
use Rattle.std.proofs.lemmas.Result.{err_from_is_err_and}
use Rattle.store_core.specs.Seen.{no_flow, SeenState, kept_seen, IsSeenOn}
use Rattle.store_core.specs.declared.error.StoreError.TheVariants.{Damaged}
use Rattle.store_core.proofs.Finding.{if_ok}
use Rattle.store_core.proofs.Opening.{kept_damaged}
use Rattle.store_core.proofs.Seeing.{last_seen, made_seen, none_seen, made_torn, none_torn}
use Rattle.store_core.proofs.seen.read_store.Goals as goal

pub returns-in_err-kept-clause-damaged : goal.returns-in_err-kept-clause-damaged
returns-in_err-kept-clause-damaged g c damage is told =
    let p = err_from_is_err_and c.from_residual.result c.from_residual.ensures.1 in
    let same : c.in_err-kept.field-0.0 ≡ Damaged damage = cc (p.1, p.2, is) in
    kept_damaged no_flow 0 (g.D.Disk.held c.args.disk.now) damage (c.in_err-kept.ensures.damaged damage (ap Err same) told)

pub returns-in-Some-clause-seen : goal.returns-in-Some-clause-seen
returns-in-Some-clause-seen g c =
    let held = g.D.Disk.held in
    if_ok c.see_made.result _ (λ (s : SeenState). IsTrue g.D.Disk.tells → IsSeenOn (held c.args.disk.now) s)
    (λ s read. made_seen g.D.Disk.tells (held c.args.disk.now) (held c.see_kept.new.disk) c.in_ok-kept.kept c.in-Some.state s c.in-Some.is c.see_kept.ensures.stays.files
    c.in_ok-kept.ensures.kept c.in_ok-kept.ensures.made read) c.see_made.ensures.seen

pub returns-in-Some-clause-damaged : goal.returns-in-Some-clause-damaged
returns-in-Some-clause-damaged g c damage is told =
    let held = g.D.Disk.held in
    made_torn (held c.args.disk.now) (held c.see_kept.new.disk) c.in_ok-kept.kept c.in-Some.state damage c.in-Some.is c.see_kept.ensures.stays.files
    (c.in_ok-kept.ensures.kept told) (c.see_made.ensures.damaged damage is told)

pub returns-in-None-clause-seen : goal.returns-in-None-clause-seen
returns-in-None-clause-seen g c =
    let held = g.D.Disk.held in
    if_ok c.see_none.result _ (λ (s : SeenState). IsTrue g.D.Disk.tells → IsSeenOn (held c.args.disk.now) s)
    (λ s read. none_seen g.D.Disk.tells (held c.args.disk.now) (held c.see_kept.new.disk) c.in_ok-kept.kept s c.in-None.is c.see_kept.ensures.stays.files
    c.in_ok-kept.ensures.kept c.in_ok-kept.ensures.made read) c.see_none.ensures.seen

pub returns-in-None-clause-damaged : goal.returns-in-None-clause-damaged
returns-in-None-clause-damaged g c damage is told =
    let held = g.D.Disk.held in
    none_torn (held c.args.disk.now) (held c.see_kept.new.disk) c.in_ok-kept.kept damage c.in-None.is c.see_kept.ensures.stays.files
    (c.in_ok-kept.ensures.kept told) (c.see_none.ensures.damaged damage is told)

pub returns-in-Some-clause-last : goal.returns-in-Some-clause-last
returns-in-Some-clause-last g c =
    if_ok c.see_made.result _ (λ (s : SeenState). s.events.end ≡ (kept_seen s).last_event)
    (λ s read. last_seen g.D.Disk.tells (g.D.Disk.held c.see_kept.new.disk) (Some c.in-Some.state.kept) s read) c.see_made.ensures.seen

pub returns-in-None-clause-last : goal.returns-in-None-clause-last
returns-in-None-clause-last g c =
    if_ok c.see_none.result _ (λ (s : SeenState). s.events.end ≡ (kept_seen s).last_event)
    (λ s read. last_seen g.D.Disk.tells (g.D.Disk.held c.see_kept.new.disk) None s read) c.see_none.ensures.seen
