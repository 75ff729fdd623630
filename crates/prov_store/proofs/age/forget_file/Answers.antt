use Rattle.std.proofs.Common.{◌≡◌, ◌+◌, ◌*◌, List, IsTrue, ap, ◌∙◌, arith}
use Rattle.std.specs.Prelude.{Ok}
use Rattle.std.proofs.lemmas.Result.{on_ok_weaker}
use Rattle.disk_trait.specs.Images.{next_moment}
use Rattle.disk_trait.proofs.FileTables.{on_err}
use Rattle.flowfile_record.specs.declared.event.Event.{Event}
use Rattle.flowfile_record.specs.declared.limits.TheConstants.{EVENTS_PER_FILE}
use Rattle.prov_store.specs.Aging.{AreUncounted}
use Rattle.prov_store.specs.Events.{events_file, events_from, first_event}
use Rattle.prov_store.specs.State.{HasCalledAtMost}
use Rattle.prov_store.proofs.Scans.{from_start}
use Rattle.prov_store.proofs.age.forget_file.Goals as goal

pub returns-clause-uncounted : goal.returns-clause-uncounted
returns-clause-uncounted g c = on_ok_weaker c.cut.result (λ cut. uncounted) c.cut.ensures.cut
  where
    uncounted : IsTrue g.D.Disk.tells → (events : List Event)
        → events_from EVENTS_PER_FILE (events_file c.args.number) 0 (first_event c.args.number) (g.D.Disk.held c.args.disk.now (events_file c.args.number)) ≡ Ok events
        → AreUncounted events c.args.counts.now.counts c.uncount_events.new.counts.counts
    uncounted told events is =
        c.in_ok-uncount_events.ensures.uncounted told events
        (from_start c.args.number EVENTS_PER_FILE (c.args.number * EVENTS_PER_FILE + 1) c.file_named-file.result (g.D.Disk.held c.size.new.self) (g.D.Disk.held c.args.disk.now)
        c.size.ensures.stays.files c.file_named-file.ensures (omega arith) ∙ is)

pub returns-clause-refused : goal.returns-clause-refused
returns-clause-refused g c =
    let called : HasCalledAtMost 1 (g.D.Disk.moment c.args.disk.now) (g.D.Disk.moment c.cut.new.self) = record {
      calls = 1;
      most = omega arith;
      moment = c.cut.ensures.moment ∙ ap next_moment (c.uncount_events.ensures.stays.time ∙ c.size.ensures.stays.time);
    } in
    on_err c.cut.result called
