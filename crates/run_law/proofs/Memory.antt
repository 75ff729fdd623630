-- That what a store has in memory is the machine's state.
use Rattle.std.proofs.Common.{◌≡◌, ℕ, ◌+◌, ◌-◌, List, length, refl, sym, ◌∙◌, ap, subst, arith}
use Rattle.std.specs.Prelude.{Ok, Result}
use Rattle.disk_trait.specs.Files.{Files}
use Rattle.disk_trait.specs.declared.damage.Damage.{Damage}
use Rattle.flowfile_record.specs.declared.event.Event.{Event}
use Rattle.content_repo.specs.Claims.{content_in}
use Rattle.machine_model.specs.declared.flow.Flow.{Flow as TheFlow}
use Rattle.machine_model.specs.State.{Machine, State}
use Rattle.prov_store.specs.Events.{events_in}
use Rattle.prov_store.specs.State.{AreNumberedFrom, IsEventLine, counts_of}
use Rattle.store_core.specs.Flow.{Flow, flow_in}
use Rattle.store_core.specs.State.{stands_for, state_with}
use Rattle.store_core.specs.Store.{FilesHold, StoreState, kept_by}
use Rattle.store_core.specs.Valid.{HeldFilesStandForKept}
use Rattle.store_core.proofs.EventsStay.{since_none}
use Rattle.engine_change.specs.Committing.{AreEventsUpTo, identity_of}
use Rattle.run_law.specs.Run.{StandsFor}
use Rattle.run_law.specs.Laws.{MemoryCountsEvents, MemoryIsTheState}

ok_is : (a b : State) → ◌≡◌ {A = Result State Damage} (Ok a) (Ok b) → a ≡ b
ok_is a b is = cc

-- the events that files have past a line and up to a last one are in a row
abbrev pub AreInRows : Type 0
AreInRows = (files : Files) (line last : ℕ) (events : List Event) → IsEventLine line last → events_in files line last ≡ Ok events
    → AreNumberedFrom (line + 1) events × (length events ≡ last - line)

-- the state is what is kept, with the events that the files have
state_kept : HeldFilesStandForKept → (flow : TheFlow) (s : StoreState) (files : Files) (m : Machine) → flow_in (kept_by s) ≡ identity_of flow → (kept_by s).last_event ≡ s.events.end → (holds : FilesHold s files) → StandsFor flow s.lot m files
    → m.state ≡ state_with (content_in files) holds.events.events (kept_by s)
state_kept law flow s files m is last holds stands =
    let told : events_in files 0 (kept_by s).last_event ≡ Ok holds.events.events = since_none files s.events (kept_by s).last_event holds.line last ∙ holds.events.says in
    ok_is m.state _ (sym stands ∙ ap (λ (f : Flow). stands_for f s.lot files) (sym is) ∙ law s files holds.events.events holds told)

pub memory_counts_events : HeldFilesStandForKept → MemoryCountsEvents
memory_counts_events law flow s files m is last holds stands =
    holds.events.counts ∙ ap (λ (t : State). counts_of t.events) (sym (state_kept law flow s files m is last holds stands))

pub memory_is_the_state : HeldFilesStandForKept → AreInRows → MemoryIsTheState
memory_is_the_state law rows flow s files m is last holds stands =
    let events : List Event = holds.events.events in
    let told : events_in files 0 (kept_by s).last_event ≡ Ok events = since_none files s.events (kept_by s).last_event holds.line last ∙ holds.events.says in
    let kept : m.state ≡ state_with (content_in files) events (kept_by s) = state_kept law flow s files m is last holds stands in
    let same : m.state.events ≡ events = ap (λ (t : State). t.events) kept in
    let row = rows files 0 (kept_by s).last_event events (record { whole = refl; within = omega arith }) told in
    let many : length events ≡ (kept_by s).last_event = omega (arith, row.1) in
    record {
      is = ap (λ (l : List Event). state_with (content_in files) l (kept_by s)) same ∙ sym kept;
      events = subst (λ (l : List Event). AreEventsUpTo (kept_by s).last_event l) (sym same) (many, row.0);
    }
