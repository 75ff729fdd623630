use Rattle.std.proofs.Common.{◌≡◌, ℕ, sym, ap, ◌∙◌}
use Rattle.std.specs.Prelude.{Option, None, Some, Err}
use Rattle.std.proofs.lemmas.Result.{err_from_is_err_and}
use Rattle.flowfile_record.specs.Stored.{Kept, kept_of}
use Rattle.store_core.specs.Flow.{flow_in}
use Rattle.store_core.specs.declared.error.StoreError.TheVariants.{Damaged, OtherFlow}
use Rattle.store_core.proofs.Opening.{kept_damaged, contents_damaged, since_read}
use Rattle.block_file.specs.declared.error.BlockError.{BlockError}
use Rattle.store_core.proofs.Refusals.{block_damaged}
use Rattle.store_core.proofs.Restoring.{moved, events_told, events_torn, is_other, is_found, not_shut, opened_on, stays_in_turn}
use Rattle.store_core.specs.Touched.{log_opened}
use Rattle.store_core.proofs.Touching.{number_found, reads_alone, revived_alone}
use Rattle.store_core.proofs.load.restore.Goals as goal

pub returns-in_err-found-clause-damaged : goal.returns-in_err-found-clause-damaged
returns-in_err-found-clause-damaged g c damage is =
    let p = err_from_is_err_and c.from_residual.result c.from_residual.ensures.1 in
    let same : c.in_err-found.field-0.0 ≡ Damaged damage = cc (p.1, p.2, is) in (
      c.read_kept.ensures.stays,
      λ told. kept_damaged c.args.flow.now c.args.lot (g.D.Disk.held c.args.disk.now) damage (c.in_err-found.ensures.damaged damage (ap Err same) told),
    )

pub returns-in_err-opened-clause-damaged : goal.returns-in_err-opened-clause-damaged
returns-in_err-opened-clause-damaged g c damage is =
    let p = err_from_is_err_and c.from_residual-in_err-opened.result c.from_residual-in_err-opened.ensures.1 in
    let same : c.in_err-opened.field-0.0 ≡ Damaged damage = cc (p.1, p.2, is) in (
      stays_in_turn g.D.Disk.held g.D.Disk.moment g.D.Disk.images c.args.disk.now c.read_kept.new.disk c.read_contents.new.disk c.read_kept.ensures.stays c.read_contents.ensures.stays,
      λ told.
          contents_damaged c.args.flow.now c.args.lot (g.D.Disk.held c.args.disk.now) c.in_ok-found.found.state.kept damage (c.in_ok-found.ensures.found told).kept
          (moved (g.D.Disk.held c.args.disk.now) (g.D.Disk.held c.read_kept.new.disk) c.in_ok-found.found.state.kept (kept_of c.stored-kept.result.now) (Some damage)
          c.read_kept.ensures.stays.files c.stored-kept.ensures.kept (c.in_err-opened.ensures.damaged damage (ap Err same) told)),
    )

pub returns-in_err-events-clause-damaged : goal.returns-in_err-events-clause-damaged
returns-in_err-events-clause-damaged g c damage is =
    let p = err_from_is_err_and c.from_residual-in_err-events.result c.from_residual-in_err-events.ensures.1 in
    let same : c.in_err-events.field-0.0 ≡ BlockError.Damaged damage = block_damaged c.in_err-events.field-0.0 damage (cc (p.1, p.2, is)) in
    let held = g.D.Disk.held in
    let d0 = c.args.disk.now in
    let k = c.in_ok-found.found.state.kept in
    let kept_is : kept_of c.stored-kept.result.now ≡ k = c.stored-kept.ensures.kept in
    let last_is : (kept_of c.stored-kept.result.now).last_event ≡ k.last_event = ap (λ (x : Kept). x.last_event) kept_is in
    let files : held c.read_contents.new.disk ≡ held d0 = c.read_contents.ensures.stays.files ∙ c.read_kept.ensures.stays.files in (
      stays_in_turn held g.D.Disk.moment g.D.Disk.images d0 c.read_contents.new.disk c.load.new.disk
          (stays_in_turn held g.D.Disk.moment g.D.Disk.images d0 c.read_kept.new.disk c.read_contents.new.disk c.read_kept.ensures.stays c.read_contents.ensures.stays)
          c.load.ensures.stays,
      λ told.
          events_torn c.args.flow.now c.args.lot (held d0) (held c.read_contents.new.disk) k (kept_of c.stored-kept.result.now).last_event damage (c.in_ok-found.ensures.found told).kept
          (moved (held d0) (held c.read_kept.new.disk) k (kept_of c.stored-kept.result.now) None c.read_kept.ensures.stays.files kept_is (c.in_ok-opened.ensures.sound told))
          files last_is (c.in_err-events.ensures.damaged damage (ap Err same) told),
    )

pub returns-in_err-check_flow-clause-images : goal.returns-in_err-check_flow-clause-images
returns-in_err-check_flow-clause-images g c =
    since_read g.D.Disk.held g.D.Disk.moment g.D.Disk.images c.args.flow.now c.args.lot c.args.disk.now c.load.new.disk c.requires.synced
    (stays_in_turn g.D.Disk.held g.D.Disk.moment g.D.Disk.images c.args.disk.now c.read_contents.new.disk c.load.new.disk
    (stays_in_turn g.D.Disk.held g.D.Disk.moment g.D.Disk.images c.args.disk.now c.read_kept.new.disk c.read_contents.new.disk c.read_kept.ensures.stays c.read_contents.ensures.stays)
    c.load.ensures.stays)

pub returns-in_err-check_flow-clause-other_flow : goal.returns-in_err-check_flow-clause-other_flow
returns-in_err-check_flow-clause-other_flow g c digest other is =
    let p = err_from_is_err_and c.from_residual-in_err-check_flow.result c.from_residual-in_err-check_flow.ensures.1 in
    let same : c.in_err-check_flow.field-0.0 ≡ OtherFlow digest other = cc (p.1, p.2, is) in
    let told_of = c.in_err-check_flow.ensures.other in
    let held = g.D.Disk.held in
    let d0 = c.args.disk.now in
    let k = c.in_ok-found.found.state.kept in
    let kept_is : kept_of c.stored-kept.result.now ≡ k = c.stored-kept.ensures.kept in
    let last_is : (kept_of c.stored-kept.result.now).last_event ≡ k.last_event = ap (λ (x : Kept). x.last_event) kept_is in
    let files : held c.read_contents.new.disk ≡ held d0 = c.read_contents.ensures.stays.files ∙ c.read_kept.ensures.stays.files in
    let both : OtherFlow (kept_of c.stored-kept.result.now).flow c.args.flow.now.digest ≡ OtherFlow digest other = sym told_of.1 ∙ same in
    let is_digest : (kept_of c.stored-kept.result.now).flow ≡ digest = cc in
    let is_ours : other ≡ c.args.flow.now.digest = cc in
    let flows : k.flow ≡ (kept_of c.stored-kept.result.now).flow = ap (λ (x : Kept). x.flow) (sym kept_is) in (
      stays_in_turn held g.D.Disk.moment g.D.Disk.images d0 c.read_contents.new.disk c.load.new.disk
          (stays_in_turn held g.D.Disk.moment g.D.Disk.images d0 c.read_kept.new.disk c.read_contents.new.disk c.read_kept.ensures.stays c.read_contents.ensures.stays)
          c.load.ensures.stays,
      is_ours,
      λ told.
          let has = c.in_ok-events.ensures.found.has told in
          is_other c.args.flow.now c.args.lot (held d0) k has.events digest (c.in_ok-found.ensures.found told).kept
          (moved (held d0) (held c.read_kept.new.disk) k (kept_of c.stored-kept.result.now) None c.read_kept.ensures.stays.files kept_is (c.in_ok-opened.ensures.sound told))
          (events_told (held d0) (held c.read_contents.new.disk) k c.in_ok-events.events (kept_of c.stored-kept.result.now).last_event files c.in_ok-events.ensures.found.line c.in_ok-events.ensures.found.end last_is has)
          (flows ∙ is_digest) (λ e. told_of.0 (sym flows ∙ e)),
    )

pub returns-clause-opened : goal.returns-clause-opened
returns-clause-opened g c =
    let held = g.D.Disk.held in
    let d0 = c.args.disk.now in
    let k = c.in_ok-found.found.state.kept in
    let kept_is : kept_of c.stored-kept.result.now ≡ k = c.stored-kept.ensures.kept in
    let last_is : (kept_of c.stored-kept.result.now).last_event ≡ k.last_event = ap (λ (x : Kept). x.last_event) kept_is in
    let files : held c.read_contents.new.disk ≡ held d0 = c.read_contents.ensures.stays.files ∙ c.read_kept.ensures.stays.files in
    let flow : flow_in k ≡ c.args.flow.now = ap flow_in (sym kept_is) ∙ c.in_ok-check_flow.ensures.same in
    opened_on g.D.Disk.tells held g.D.Disk.moment g.D.Disk.images c.args.flow.now c.args.lot d0 c.revive.new.disk c.in_ok-found.found c.revive.result flow
    (λ store revived told.
    let has = c.in_ok-events.ensures.found.has told in
    is_found c.args.flow.now c.args.lot (held d0) k has.events _ (c.in_ok-found.ensures.found told).kept
    (moved (held d0) (held c.read_kept.new.disk) k (kept_of c.stored-kept.result.now) None c.read_kept.ensures.stays.files kept_is (c.in_ok-opened.ensures.sound told))
    (events_told (held d0) (held c.read_contents.new.disk) k c.in_ok-events.events (kept_of c.stored-kept.result.now).last_event files c.in_ok-events.ensures.found.line c.in_ok-events.ensures.found.end last_is has)
    revived.kept
    (revived.log ∙ ap (λ (o : Option ℕ). Some (log_opened o)) (sym (number_found c.args.flow.now c.args.lot (held d0) c.in_ok-found.found (c.in_ok-found.ensures.found told)))))
    c.revive.ensures.revived c.revive.ensures.kept c.revive.ensures.tidy

pub returns-clause-shut : goal.returns-clause-shut
returns-clause-shut g c told shut =
    let held = g.D.Disk.held in
    let d0 = c.args.disk.now in
    let k = c.in_ok-found.found.state.kept in
    let kept_is : kept_of c.stored-kept.result.now ≡ k = c.stored-kept.ensures.kept in
    let last_is : (kept_of c.stored-kept.result.now).last_event ≡ k.last_event = ap (λ (x : Kept). x.last_event) kept_is in
    let files : held c.read_contents.new.disk ≡ held d0 = c.read_contents.ensures.stays.files ∙ c.read_kept.ensures.stays.files in
    let has = c.in_ok-events.ensures.found.has told in
    absurd
    (not_shut c.args.flow.now c.args.lot (held d0) k has.events (c.in_ok-found.ensures.found told).kept
    (moved (held d0) (held c.read_kept.new.disk) k (kept_of c.stored-kept.result.now) None c.read_kept.ensures.stays.files kept_is (c.in_ok-opened.ensures.sound told))
    (events_told (held d0) (held c.read_contents.new.disk) k c.in_ok-events.events (kept_of c.stored-kept.result.now).last_event files c.in_ok-events.ensures.found.line c.in_ok-events.ensures.found.end last_is has)
    (ap flow_in (sym kept_is) ∙ c.in_ok-check_flow.ensures.same) shut)

pub returns-in_err-check_flow-clause-alone : goal.returns-in_err-check_flow-clause-alone
returns-in_err-check_flow-clause-alone g c =
    reads_alone g.D.Disk.tells g.D.Disk.held g.D.Disk.moment g.D.Disk.images c.args.disk.now c.load.new.disk c.requires.synced
    (stays_in_turn g.D.Disk.held g.D.Disk.moment g.D.Disk.images c.args.disk.now c.read_contents.new.disk c.load.new.disk
    (stays_in_turn g.D.Disk.held g.D.Disk.moment g.D.Disk.images c.args.disk.now c.read_kept.new.disk c.read_contents.new.disk c.read_kept.ensures.stays c.read_contents.ensures.stays)
    c.load.ensures.stays)

pub returns-clause-alone : goal.returns-clause-alone
returns-clause-alone g c =
    let laws = g.met.D.Disk g.world.𝓛 g.world.𝓜 g.world.𝓡 ((λ s x. x), (λ x. x), (λ x. x), λ x. x) in
    revived_alone g.D.Disk.tells g.D.Disk.held g.D.Disk.moment g.D.Disk.images (λ disk j e left. laws.left_is_told disk j e left)
    c.args.flow.now c.args.lot c.in_ok-found.found c.args.disk.now c.load.new.disk c.revive.new.disk c.in_ok-found.ensures.found
    (stays_in_turn g.D.Disk.held g.D.Disk.moment g.D.Disk.images c.args.disk.now c.read_contents.new.disk c.load.new.disk
    (stays_in_turn g.D.Disk.held g.D.Disk.moment g.D.Disk.images c.args.disk.now c.read_kept.new.disk c.read_contents.new.disk c.read_kept.ensures.stays c.read_contents.ensures.stays)
    c.load.ensures.stays)
    c.revive.ensures.alone
