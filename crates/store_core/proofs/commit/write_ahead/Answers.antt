use Rattle.std.proofs.Common.{length, ap, ◌∙◌}
use Rattle.disk_trait.specs.Images.{calls_later}
use Rattle.disk_trait.proofs.Moments.{more_calls}
use Rattle.prov_store.specs.State.{files_for}
use Rattle.store_core.specs.Writing.{fresh_count}
use Rattle.store_core.proofs.Ahead.{adds_events, grows_both, grows_claims, places_beside, ready_beside, sizes_beside}
use Rattle.store_core.proofs.Growing.{since_ahead, since_claims}
use Rattle.store_core.proofs.commit.write_ahead.Goals as goal

pub append-requires-clause-ready : goal.append-requires-clause-ready
append-requires-clause-ready g c κs within told =
    ready_beside c.args.events.now c.args.contents.now (g.D.Disk.held c.args.disk.now) (g.D.Disk.held c.place_contents.new.disk) (c.place_contents.ensures.grows.files told) (c.requires.ready told)

pub returns-in_err-place_contents-clause-grows : goal.returns-in_err-place_contents-clause-grows
returns-in_err-place_contents-clause-grows g c = record {
  files = λ told. grows_claims c.args.contents.now c.args.events.now (g.D.Disk.held c.args.disk.now) (g.D.Disk.held c.place_contents.new.disk) (c.place_contents.ensures.grows.files told);
  left = since_claims g.D.Disk.moment g.D.Disk.images c.args.contents.now c.args.events.now c.args.disk.now c.place_contents.new.disk c.place_contents.ensures.grows.left;
}

pub returns-in_err-append-clause-grows : goal.returns-in_err-append-clause-grows
returns-in_err-append-clause-grows g c = record {
  files = λ told.
      grows_both c.args.contents.now c.args.events.now (g.D.Disk.held c.args.disk.now) (g.D.Disk.held c.place_contents.new.disk) (g.D.Disk.held c.append.new.disk)
      (c.place_contents.ensures.grows.files told) (c.append.ensures.behind.files told);
  left =
      since_ahead g.D.Disk.moment g.D.Disk.images c.args.contents.now c.args.events.now c.args.disk.now c.place_contents.new.disk c.append.new.disk
      c.place_contents.ensures.grows.left c.append.ensures.behind.left;
}

pub returns-clause-placed : goal.returns-clause-placed
returns-clause-placed g c =
    places_beside g.D.Disk.tells c.args.events.now (g.D.Disk.held c.place_contents.new.disk) (g.D.Disk.held c.append.new.disk) c.args.placed.now c.args.contents.now c.place_contents.new.contents
    c.place_contents.new.entry c.append.ensures.behind.files c.in_ok-place_contents.ensures.placed

pub returns-clause-written : goal.returns-clause-written
returns-clause-written g c =
    let contents = fresh_count c.args.placed.now in
    let files = files_for c.args.events.now.end (length c.args.blocks.now.events) in
    record {
      sizes = λ told.
          sizes_beside c.args.events.now c.place_contents.new.contents (g.D.Disk.held c.place_contents.new.disk) (g.D.Disk.held c.append.new.disk) (c.append.ensures.behind.files told)
          (c.in_ok-place_contents.ensures.written.sizes told);
      calls =
          c.in_ok-append.ensures.appended.writes ∙ ap (calls_later files) c.in_ok-place_contents.ensures.written.calls
          ∙ more_calls contents files (g.D.Disk.moment c.args.disk.now);
    }

pub returns-clause-events : goal.returns-clause-events
returns-clause-events g c =
    adds_events g.D.Disk.tells c.args.blocks.now.events c.args.contents.now c.args.events.now c.append.new.self (g.D.Disk.held c.args.disk.now) (g.D.Disk.held c.place_contents.new.disk)
    (g.D.Disk.held c.append.new.disk) c.place_contents.ensures.grows.files c.in_ok-append.ensures.appended.state c.in_ok-append.ensures.added c.in_ok-append.ensures.appended.ready

pub returns-clause-grows : goal.returns-clause-grows
returns-clause-grows g c = record {
  files = λ told.
      grows_both c.args.contents.now c.args.events.now (g.D.Disk.held c.args.disk.now) (g.D.Disk.held c.place_contents.new.disk) (g.D.Disk.held c.append.new.disk)
      (c.place_contents.ensures.grows.files told) (c.append.ensures.behind.files told);
  left =
      since_ahead g.D.Disk.moment g.D.Disk.images c.args.contents.now c.args.events.now c.args.disk.now c.place_contents.new.disk c.append.new.disk
      c.place_contents.ensures.grows.left c.append.ensures.behind.left;
}
