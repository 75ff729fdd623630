use Rattle.std.proofs.Common.{refl, sym, ap, subst, ◌∙◌, arith}
use Rattle.std.specs.List.{AllZip}
use Rattle.std.specs.Prelude.{IsErr, is_err}
use Rattle.record_codec.specs.declared.entry.LogEntry.{LogEntry}
use Rattle.kept_state.specs.Changes.{placed_in}
use Rattle.store_core.specs.Placing.{StaysStored}
use Rattle.store_core.proofs.Growing.{since_nothing_grows, since_grown, grows_nothing, grows_in_turn}
use Rattle.disk_trait.proofs.Moments.{nothing}
use Rattle.store_core.proofs.Placing.{placed_none, placed_next, placed_all, may_next, recorded_next, share_next, stay_so_far, written_next, written_all}
use Rattle.store_core.proofs.contents.place_contents.Goals as goal

pub loop-place-init : goal.loop-place-init
loop-place-init g c = record {
  since = since_nothing_grows g.D.Disk.moment g.D.Disk.images c.args.contents.now c.args.disk.now c.args.disk.now (nothing g.D.Disk.moment g.D.Disk.images c.args.disk.now);
  faults = omega arith;
  held = λ told. grows_nothing c.args.contents.now (g.D.Disk.held c.args.disk.now);
  sizes = c.requires.sizes;
  left = refl;
  same = refl;
  placed = placed_none g.D.Disk.tells c.args.placed.now c.args.contents.now (g.D.Disk.held c.args.disk.now) c.args.entry.now c.requires.may.recorded c.requires.may.may.room;
}

pub place_content-requires-clause-recorded : goal.place_content-requires-clause-recorded
place_content-requires-clause-recorded g c κs within =
    recorded_next g.D.Disk.tells c.args.placed.now c.args.contents.now c.loop-place.contents (g.D.Disk.held c.loop-place.disk) c.loop-place.entry c.loop-place.place c.index-placed-place.result
    c.loop-place-test.true c.index-placed-place.is c.loop-place.invariant.placed

pub place_content-requires-clause-may : goal.place_content-requires-clause-may
place_content-requires-clause-may g c κs within =
    may_next g.D.Disk.tells c.args.placed.now c.args.contents.now c.loop-place.contents (g.D.Disk.held c.loop-place.disk) c.loop-place.entry c.loop-place.place c.index-placed-place.result
    c.loop-place-test.true c.index-placed-place.is c.requires.may.may c.loop-place.invariant.placed

pub place_content-requires-clause-shared : goal.place_content-requires-clause-shared
place_content-requires-clause-shared g c κs within =
    share_next g.D.Disk.tells c.args.placed.now c.args.contents.now c.loop-place.contents (g.D.Disk.held c.loop-place.disk) c.loop-place.entry c.loop-place.place c.index-placed-place.result
    c.loop-place-test.true c.index-placed-place.is c.requires.may.may c.loop-place.invariant.placed

pub returns-in_err-place_content-clause-entry : goal.returns-in_err-place_content-clause-entry
returns-in_err-place_content-clause-entry g c =
    let err : IsErr c.place_content.result = ap is_err c.in_err-place_content.was in
    record {
      same = c.place_content.ensures.same ∙ c.loop-place.invariant.same;
      stays =
          subst (λ (e : LogEntry). AllZip StaysStored c.args.placed.now (placed_in e)) (sym (c.place_content.ensures.unplaced err))
          (stay_so_far g.D.Disk.tells c.args.placed.now c.args.contents.now c.loop-place.contents (g.D.Disk.held c.loop-place.disk) c.loop-place.entry c.loop-place.place c.loop-place.invariant.placed);
    }

pub returns-clause-entry : goal.returns-clause-entry
returns-clause-entry g c = record {
  same = c.loop-place.invariant.same;
  stays = stay_so_far g.D.Disk.tells c.args.placed.now c.args.contents.now c.loop-place.contents (g.D.Disk.held c.loop-place.disk) c.loop-place.entry c.loop-place.place c.loop-place.invariant.placed;
}

pub returns-in_err-place_content-clause-grows : goal.returns-in_err-place_content-clause-grows
returns-in_err-place_content-clause-grows g c = record {
  files = λ told.
      grows_in_turn c.args.contents.now c.loop-place.contents (g.D.Disk.held c.args.disk.now) (g.D.Disk.held c.loop-place.disk) (g.D.Disk.held c.place_content.new.disk)
      c.loop-place.invariant.placed.holds.sizes (c.loop-place.invariant.held told) (c.place_content.ensures.grows.files told);
  left =
      since_grown g.D.Disk.moment g.D.Disk.images c.args.contents.now c.loop-place.contents c.args.disk.now c.loop-place.disk c.place_content.new.disk
      c.loop-place.invariant.placed.holds.sizes c.loop-place.invariant.since c.place_content.ensures.grows.left;
}

pub loop-place-preserved : goal.loop-place-preserved
loop-place-preserved g c =
    let inv = c.loop-place.invariant in
    let next = placed_next g.D.Disk.tells c.args.placed.now c.args.contents.now c.loop-place.contents c.place_content.new.contents (g.D.Disk.held c.loop-place.disk) (g.D.Disk.held c.place_content.new.disk)
    c.loop-place.entry c.place_content.new.entry c.loop-place.place c.index-placed-place.result c.requires.may.may.shared c.loop-place-test.true c.index-placed-place.is inv.placed c.in_ok-place_content.ensures.placed c.place_content.ensures.grows.files in
    record {
      since =
          since_grown g.D.Disk.moment g.D.Disk.images c.args.contents.now c.loop-place.contents c.args.disk.now c.loop-place.disk c.place_content.new.disk
          inv.placed.holds.sizes inv.since c.place_content.ensures.grows.left;
      faults = omega (arith, inv.faults, c.place_content.ensures.refusal.cause.never_falls);
      held = λ told.
          grows_in_turn c.args.contents.now c.loop-place.contents (g.D.Disk.held c.args.disk.now) (g.D.Disk.held c.loop-place.disk) (g.D.Disk.held c.place_content.new.disk)
          inv.placed.holds.sizes (inv.held told) (c.place_content.ensures.grows.files told);
      sizes = c.in_ok-place_content.ensures.written.sizes;
      left =
          written_next c.args.placed.now c.loop-place.place (g.D.Disk.moment c.args.disk.now) (g.D.Disk.moment c.loop-place.disk) (g.D.Disk.moment c.place_content.new.disk) c.index-placed-place.result
          c.loop-place-test.true c.index-placed-place.is inv.left c.in_ok-place_content.ensures.written.calls;
      same = c.place_content.ensures.same ∙ inv.same;
      placed = next;
    }

pub returns-clause-placed : goal.returns-clause-placed
returns-clause-placed g c =
    placed_all g.D.Disk.tells c.args.placed.now c.args.contents.now c.loop-place.contents (g.D.Disk.held c.loop-place.disk) c.loop-place.entry c.loop-place.place
    c.loop-place-test.false c.loop-place.invariant.placed

pub returns-clause-written : goal.returns-clause-written
returns-clause-written g c = record {
  sizes = c.loop-place.invariant.sizes;
  calls = written_all c.args.placed.now c.loop-place.place (g.D.Disk.moment c.args.disk.now) (g.D.Disk.moment c.loop-place.disk) c.loop-place-test.false c.loop-place.invariant.left;
}
