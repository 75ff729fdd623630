use Rattle.std.proofs.Common.{◌≡◌, Ok, Err, refl, sym, ap, subst, ◌∙◌, inr, arith}
use Rattle.std.proofs.lemmas.Result.{err_from_is_err_and}
use Rattle.disk_trait.specs.Files.{Files}
use Rattle.flow_report.proofs.Writing.{writes-named}
use Rattle.std.specs.List.{flat_map}
use Rattle.store_core.specs.Seen.{no_flow, kept_seen, IsSeenOn}
use Rattle.store_core.specs.State.{stands_for}
use Rattle.flow_query.specs.Texts.{event_text, events_text}
use Rattle.flow_query.specs.declared.asking.Query.TheVariants as query
use Rattle.flow_query.proofs.Known.{known, all_left, range_more, range_failed, none_left}
use Rattle.flow_query.proofs.Refusing.{begun, refused, sink_failed}
use Rattle.flow_query.proofs.Steps.{stays_still, stays_on}
use Rattle.flow_query.proofs.Written.{leaves-none}
use Rattle.flow_query.proofs.events.show_events.Goals as goal

pub loop-shown-init : goal.loop-shown-init
loop-shown-init g c = record {
  within = omega arith;
  stays = stays_still g.D.Disk.held g.D.Disk.moment g.D.Disk.images c.args.disk.now;
  left = λ told writes seen state is. all_left c.args.seen.now state (g.S.Sink.written c.args.sink.now) (known (g.D.Disk.held c.args.disk.now) c.args.seen.now state seen is);
  disk_faults = omega arith;
  sink_faults = omega arith;
}

pub returns-in_err-events-clause-printed : goal.returns-in_err-events-clause-printed
returns-in_err-events-clause-printed g c told seen state is writes =
    let p = err_from_is_err_and c.from_residual.result c.from_residual.ensures.1 in
    let inv = c.loop-shown.invariant in
    let s = c.args.seen.now in
    let here : IsSeenOn (g.D.Disk.held c.loop-shown.disk) s = subst (λ (f : Files). IsSeenOn f s) (sym inv.stays.files) seen in
    refused query.Events (kept_seen s).connections state (g.S.Sink.written c.args.sink.now) (g.S.Sink.written c.loop-shown.sink) c.in_err-events.field-0.0 c.from_residual.result (cc (p.1, p.2))
    c.in_err-events.ensures.refusal (λ damage same. c.in_err-events.ensures.undamaged damage (ap Err same) told here)
    (inr (begun query.Events (kept_seen s).connections state (events_text state) _ _ _ refl (inv.left told writes seen state is)))

pub returns-in_err-write_events-clause-printed : goal.returns-in_err-write_events-clause-printed
returns-in_err-write_events-clause-printed g c told seen state is writes =
    let p = err_from_is_err_and c.from_residual-in_err-write_events.result c.from_residual-in_err-write_events.ensures.1 in
    let inv = c.loop-shown.invariant in
    let s = c.args.seen.now in
    let held = g.D.Disk.held in
    let here : IsSeenOn (held c.loop-shown.disk) s = subst (λ (f : Files). IsSeenOn f s) (sym inv.stays.files) seen in
    let stands : stands_for no_flow 0 (held c.loop-shown.disk) ≡ Ok state = ap (stands_for no_flow 0) inv.stays.files ∙ is in
    let store = c.store_of-store.result in
    let to = c.next_stop-to.result in
    rw (p.1, p.2)
    (sink_failed query.Events (kept_seen s).connections state (events_text state) _ _ _ refl
    (range_failed s state c.loop-shown.shown to store c.in_ok-events.events.items _ _ _ _ (known (held c.args.disk.now) s state seen is) c.next_stop-to.ensures.more
    (omega (arith, c.next_stop-to.ensures.within, c.last_event-last.ensures)) c.store_of-store.ensures (c.in_ok-events.ensures.events told here state stands) (inv.left told writes seen state is)
    (writes-named _ _ _ _ _ (ap (flat_map (event_text store)) c.deref.ensures.value) (c.in_err-write_events.ensures.written writes))))

pub loop-shown-preserved : goal.loop-shown-preserved
loop-shown-preserved g c =
    let inv = c.loop-shown.invariant in
    let s = c.args.seen.now in
    let held = g.D.Disk.held in
    let store = c.store_of-store.result in
    let to = c.next_stop-to.result in
    record {
      within = c.next_stop-to.ensures.within;
      stays = stays_on held g.D.Disk.moment g.D.Disk.images c.args.disk.now c.loop-shown.disk c.events_between.new.disk inv.stays c.events_between.ensures.stays;
      left = λ told writes seen state is.
          let here : IsSeenOn (held c.loop-shown.disk) s = subst (λ (f : Files). IsSeenOn f s) (sym inv.stays.files) seen in
          let stands : stands_for no_flow 0 (held c.loop-shown.disk) ≡ Ok state = ap (stands_for no_flow 0) inv.stays.files ∙ is in
          range_more s state c.loop-shown.shown to store c.in_ok-events.events.items _ _ _ (known (held c.args.disk.now) s state seen is) c.next_stop-to.ensures.more
          (omega (arith, c.next_stop-to.ensures.within, c.last_event-last.ensures)) c.store_of-store.ensures (c.in_ok-events.ensures.events told here state stands) (inv.left told writes seen state is)
          (writes-named _ _ _ _ _ (ap (flat_map (event_text store)) c.deref.ensures.value) (c.in_ok-write_events.ensures.written writes));
      disk_faults = omega (arith, inv.disk_faults, c.events_between.ensures.cause.never_falls);
      sink_faults = omega (arith, inv.sink_faults, c.write_events.ensures.cause.never_falls);
    }

pub returns-clause-printed : goal.returns-clause-printed
returns-clause-printed g c told seen state is writes =
    let s = c.args.seen.now in (
      events_text state,
      refl,
      leaves-none _ _ _ _ (none_left s state c.loop-shown.shown (omega (arith, c.loop-shown-test.false, c.last_event-last.ensures))) (c.loop-shown.invariant.left told writes seen state is),
    )
