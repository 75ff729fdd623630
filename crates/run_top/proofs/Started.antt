-- A store that was opened, as the beginning of a run.
use Rattle.std.proofs.Common.{◌≡◌, ℕ, ◌+◌, ◌-◌, ◌≤◌, Bool, List, [], length, refl, sym, ◌∙◌, ap, subst, arith}
use Rattle.std.proofs.lemmas.List.{length-map}
use Rattle.std.specs.Prelude.{Option, Ok, Result}
use Rattle.disk_trait.specs.Files.{Files}
use Rattle.disk_trait.specs.declared.damage.Damage.{Damage}
use Rattle.flowfile_record.specs.NamedFile.{NamedFile}
use Rattle.flowfile_record.specs.declared.event.Event.{Event}
use Rattle.checkpoint_store.specs.Consistent.{IsConsistent}
use Rattle.content_repo.specs.Claims.{content_in}
use Rattle.machine_model.specs.declared.flow.Connection.{Connection}
use Rattle.machine_model.specs.declared.flow.Flow.{Flow}
use Rattle.machine_model.specs.State.{State}
use Rattle.machine_model.specs.Valid.{IsValid}
use Rattle.prov_store.specs.Events.{events_in}
use Rattle.prov_store.specs.State.{AreNumberedFrom, IsEventLine}
use Rattle.store_core.specs.Calls.{SinceSync}
use Rattle.store_core.specs.Flow as store
use Rattle.store_core.specs.Opened.{SameMeaning}
use Rattle.store_core.specs.State.{stands_for, state_with}
use Rattle.store_core.specs.Store.{StoreState, kept_by, FilesHold}
use Rattle.store_core.specs.Valid.{HeldFilesStandForKept, KeptIsValid}
use Rattle.store_core.proofs.EventsStay.{since_none}
use Rattle.engine_change.specs.Committing.{identity_of}
use Rattle.run_law.specs.Going.{IsRunningAt}
use Rattle.run_law.specs.Laws.{OpenedRunsBegin}
use Rattle.run_law.specs.Puts.{Start}
use Rattle.run_law.specs.Run.{machine_at}
use Rattle.run_law.specs.Work.{IsAtWork}

ok_is : {a b : State} → ◌≡◌ {A = Result State Damage} (Ok a) (Ok b) → a ≡ b
ok_is is = cc

-- the law of events that files have past a line and up to a last one
abbrev pub Rows : Type 0
Rows = (files : Files) (line last : ℕ) (events : List Event) → IsEventLine line last → events_in files line last ≡ Ok events
    → AreNumberedFrom (line + 1) events × (length events ≡ last - line)

module _ (law : HeldFilesStandForKept) (flow : Flow) (s : StoreState) (lot : ℕ) (files : Files) (state : State) (events : List Event) where
  -- what the store has in memory is the state that the files stand for
  state_is_kept : store.flow_in (kept_by s) ≡ identity_of flow → s.lot ≡ lot → events_in files 0 (kept_by s).last_event ≡ Ok events → FilesHold s files
      → stands_for (identity_of flow) lot files ≡ Ok state → state ≡ state_with (content_in files) events (kept_by s)
  state_is_kept of is told holds stands =
      ok_is (sym stands ∙ ap (λ (l : ℕ). stands_for (identity_of flow) l files) (sym is) ∙ ap (λ (f : store.Flow). stands_for f s.lot files) (sym of) ∙ law s files events holds told)

module _ {D : Type 0} (moment : D → ℕ) (images : D → ℕ → Files → Type 0) (begins : OpenedRunsBegin moment images) (law : HeldFilesStandForKept) (valid : KeptIsValid) (rows : Rows)
    (flow : Flow) (tells : Bool) (held : D → Files) (s : StoreState) (lot : ℕ) (old new : D) (state : State) where
  -- a store that works, behind its opening
  pub starts : (start : Start) (time : ℕ) → start.time ≤ time → (left : List NamedFile) (standing : List ℕ → Option (List ℕ)) → IsAtWork flow tells held moment images s new → s.lot ≡ lot
      → IsConsistent (kept_by s) → (kept_by s).batches ≡ [] → (kept_by s).last_event ≡ s.events.end → images new (moment new) (held new)
      → SinceSync moment images old new (SameMeaning (identity_of flow) lot (held old)) → stands_for (identity_of flow) lot (held old) ≡ Ok state
      → IsRunningAt flow start time moment images s.lot (machine_at state left standing) old new [] (machine_at state left standing) left (record { standing = standing; puts = start.puts })
  starts start time le left standing work is consistent none last is_left since stands =
      let same : SameMeaning (identity_of flow) lot (held old) (held new) = since.each (moment new) (held new) since.begun (omega arith) is_left in
      let holds : FilesHold s (held new) = work.kept.holds work.works (held new) is_left in
      let events : List Event = holds.events.events in
      let told : events_in (held new) 0 (kept_by s).last_event ≡ Ok events = since_none (held new) s.events (kept_by s).last_event holds.line last ∙ holds.events.says in
      let kept : state ≡ state_with (content_in (held new)) events (kept_by s) = state_is_kept law flow s lot (held new) state events work.flow_is is told holds (same.state ∙ stands) in
      let row = rows (held new) 0 (kept_by s).last_event events (record { whole = refl; within = omega arith }) told in
      let many : length events ≡ (kept_by s).last_event = omega (arith, row.1) in
      let sound : IsValid flow (state_with (content_in (held new)) events (kept_by s)) = valid flow (content_in (held new)) events (kept_by s) consistent none row.0 many
      (ap (λ (f : store.Flow). length f.connections) work.flow_is ∙ length-map flow.connections (λ (connection : Connection). connection.id)) (ap (λ (f : store.Flow). f.processors) work.flow_is)
      in
      subst (λ (l : ℕ). IsRunningAt flow start time moment images l (machine_at state left standing) old new [] (machine_at state left standing) left (record { standing = standing; puts = start.puts })) (sym is)
      (begins flow start time lot (held old) old new state left standing (subst (λ (x : State). IsValid flow x) (sym kept) sound) le stands since)
