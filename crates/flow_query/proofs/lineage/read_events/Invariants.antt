use Rattle.std.proofs.Common.{◌≡◌, ◌+◌, ◌-◌, ◌<◌, ◌≤◌, IsTrue, Ok}
use Rattle.std.specs.Prelude.{All, filter}
use Rattle.disk_trait.specs.Images.{Stays}
use Rattle.flowfile_record.specs.NumberedItems.{AscendsByNumber}
use Rattle.flowfile_record.specs.declared.event.Event.{Event}
use Rattle.machine_model.specs.Lineage.{is_named}
use Rattle.machine_model.specs.State.{State}
use Rattle.prov_index.specs.Index.{event_number}
use Rattle.prov_store.specs.Scanning.{is_within}
use Rattle.store_core.specs.Seen.{no_flow, IsSeenOn}
use Rattle.store_core.specs.State.{stands_for}
use Rattle.flow_query.specs.Parts.{IsFoundBy}
use Rattle.flow_query.proofs.lineage.read_events.Given as goal

-- the events so far are in the index, and it is known whether one of them names the file
abbrev pub invariant-loop-shown : goal.invariant-loop-shown
invariant-loop-shown g l = record {
  within : l.shown ≤ l.last;
  stays : Stays g.D.Disk.held g.D.Disk.moment g.D.Disk.images l.fn.disk l.disk;
  events : IsTrue g.D.Disk.tells → IsSeenOn (g.D.Disk.held l.fn.disk) l.seen → (state : State) → stands_for no_flow 0 (g.D.Disk.held l.fn.disk) ≡ Ok state
      → l.index ≡ filter (is_within 1 l.shown) state.events;
  ascends : AscendsByNumber event_number l.index;
  below : All (λ (e : Event). e.number < l.shown + 1) l.index;
  named : IsFoundBy l.store l.id (is_named l.index) l.file;
  disk_faults : g.D.Disk.faults l.fn.disk ≤ g.D.Disk.faults l.disk;
}

abbrev pub decreases-loop-shown : goal.decreases-loop-shown
decreases-loop-shown g l = l.last - l.shown
