use Rattle.std.proofs.Common.{◌≡◌, ◌+◌, ◌<◌, List, ◌++◌, Ok, sym, ap, subst, ◌∙◌, arith}
use Rattle.std.specs.Prelude.{All, filter}
use Rattle.std.proofs.lemmas.Bool.{false≢true}
use Rattle.std.proofs.lemmas.List.Elements.{All-nil}
use Rattle.disk_trait.specs.Files.{Files}
use Rattle.flowfile_record.specs.NumberedItems.{AscendsByNumber}
use Rattle.flowfile_record.specs.declared.event.Event.{Event}
use Rattle.machine_model.specs.Lineage.{is_named}
use Rattle.prov_index.specs.Index.{event_number}
use Rattle.prov_store.specs.Scanning.{is_within}
use Rattle.prov_store.proofs.Scans.{all_between, none_between}
use Rattle.store_core.specs.Seen.{no_flow, IsSeenOn}
use Rattle.store_core.specs.State.{stands_for}
use Rattle.flow_query.specs.Parts.{IsFoundBy}
use Rattle.flow_query.proofs.Known.{known}
use Rattle.flow_query.proofs.Ranges.{parted, goes_on}
use Rattle.flow_query.proofs.Steps.{stays_still, stays_on}
use Rattle.flow_query.proofs.lineage.read_events.Goals as goal

pub loop-shown-init : goal.loop-shown-init
loop-shown-init g c =
    let none = c.new-index.ensures in
    record {
      within = omega arith;
      stays = stays_still g.D.Disk.held g.D.Disk.moment g.D.Disk.images c.args.disk.now;
      events = λ told seen state is. none ∙ sym (none_between 1 0 state.events (omega arith));
      ascends = subst (AscendsByNumber event_number) (sym none) tt;
      below = subst (λ (l : List Event). All (λ (e : Event). e.number < 0 + 1) l) (sym none) (All-nil (λ (e : Event). e.number < 0 + 1));
      named = λ n is passes. false≢true (ap (λ (l : List Event). is_named l n) (sym none) ∙ passes);
      disk_faults = omega arith;
    }

pub add_events-requires : goal.add_events-requires
add_events-requires g c =
    let inv = c.loop-shown.invariant in
    (goes_on c.loop-shown.shown c.next_stop-to.result c.args.seen.now.events.end c.loop-shown.index c.in_ok-events.events.items c.next_stop-to.ensures.more inv.ascends inv.below
    c.in_ok-events.ensures.numbered).ascends

pub loop-shown-preserved : goal.loop-shown-preserved
loop-shown-preserved g c =
    let inv = c.loop-shown.invariant in
    let s = c.args.seen.now in
    let held = g.D.Disk.held in
    let index = c.loop-shown.index in
    let events = c.in_ok-events.events.items in
    let shown = c.loop-shown.shown in
    let to = c.next_stop-to.result in
    let added : c.add_events.new.index ≡ index ++ events = c.in_ok-add_events.ensures in
    let on = goes_on shown to s.events.end index events c.next_stop-to.ensures.more inv.ascends inv.below c.in_ok-events.ensures.numbered in
    record {
      within = c.next_stop-to.ensures.within;
      stays = stays_on held g.D.Disk.moment g.D.Disk.images c.args.disk.now c.loop-shown.disk c.events_between.new.disk inv.stays c.events_between.ensures.stays;
      events = λ told seen state is.
          let here : IsSeenOn (held c.loop-shown.disk) s = subst (λ (f : Files). IsSeenOn f s) (sym inv.stays.files) seen in
          let stands : stands_for no_flow 0 (held c.loop-shown.disk) ≡ Ok state = ap (stands_for no_flow 0) inv.stays.files ∙ is in
          added ∙ ap (λ (l : List Event). l ++ events) (inv.events told seen state is)
          ∙ ap (λ (l : List Event). filter (is_within 1 shown) state.events ++ l) (c.in_ok-events.ensures.events told here state stands)
          ∙ parted 1 shown to 1 state.events (known (held c.args.disk.now) s state seen is).row (omega arith) (omega (arith, c.next_stop-to.ensures.more));
      ascends = subst (AscendsByNumber event_number) (sym added) on.ascends;
      below = subst (λ (l : List Event). All (λ (e : Event). e.number < to + 1) l) (sym added) on.below;
      named = subst (λ (l : List Event). IsFoundBy c.store_of-store.result c.args.id (is_named l) c.find_behind-file.result)
          (ap (λ (l : List Event). index ++ l) c.deref.ensures.value ∙ sym added) (c.find_behind-file.ensures index inv.named);
      disk_faults = omega (arith, inv.disk_faults, c.events_between.ensures.cause.never_falls);
    }

pub returns-clause-events : goal.returns-clause-events
returns-clause-events g c told seen state is =
    let k = known (g.D.Disk.held c.args.disk.now) c.args.seen.now state seen is in
    c.loop-shown.invariant.events told seen state is
    ∙ all_between 1 c.loop-shown.shown 1 state.events k.row (omega arith) (omega (arith, k.many, c.loop-shown-test.false, c.last_event-last.ensures))
