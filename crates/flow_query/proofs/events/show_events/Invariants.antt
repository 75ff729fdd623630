use Rattle.std.proofs.Common.{◌≡◌, ◌-◌, ◌≤◌, IsTrue, Ok}
use Rattle.disk_trait.specs.Images.{Stays}
use Rattle.machine_model.specs.State.{State}
use Rattle.store_core.specs.Seen.{no_flow, IsSeenOn}
use Rattle.store_core.specs.State.{stands_for}
use Rattle.flow_query.specs.Texts.{events_text}
use Rattle.flow_query.proofs.Known.{left_behind}
use Rattle.flow_query.proofs.Written.{Leaves}
use Rattle.flow_query.proofs.events.show_events.Given as goal

-- the lines of the events that are left behind those shown are to be written
abbrev pub invariant-loop-shown : goal.invariant-loop-shown
invariant-loop-shown g l = record {
  within : l.shown ≤ l.last;
  stays : Stays g.D.Disk.held g.D.Disk.moment g.D.Disk.images l.fn.disk l.disk;
  left : IsTrue g.D.Disk.tells → IsTrue g.S.Sink.tells → IsSeenOn (g.D.Disk.held l.fn.disk) l.seen → (state : State) → stands_for no_flow 0 (g.D.Disk.held l.fn.disk) ≡ Ok state
      → Leaves (events_text state) (left_behind l.seen state l.shown) (g.S.Sink.written l.fn.sink) (g.S.Sink.written l.sink);
  disk_faults : g.D.Disk.faults l.fn.disk ≤ g.D.Disk.faults l.disk;
  sink_faults : g.S.Sink.faults l.fn.sink ≤ g.S.Sink.faults l.sink;
}

abbrev pub decreases-loop-shown : goal.decreases-loop-shown
decreases-loop-shown g l = l.last - l.shown
