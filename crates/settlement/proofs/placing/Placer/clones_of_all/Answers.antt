use Rattle.std.proofs.Common.{◌≡◌, ◌+◌, ap, arith, length}
use Rattle.std.specs.Vec.{vec_len}
use Rattle.settlement.proofs.Placed.{clones_counted, clones_step, places_on}
use Rattle.settlement.proofs.placing.Placer.clones_of_all.Goals as goal

pub overflow_add-place : goal.overflow_add-place
overflow_add-place c =
    omega (arith, c.loop-file.invariant.places, c.count_first-place.ensures.count, places_on c.loop-file.place c.args.files.now c.loop-file.file-index c.file-item.result (omega arith) c.file-item.is, c.requires.places)

pub loop-file-preserved : goal.loop-file-preserved
loop-file-preserved c =
    let count : vec_len c.loop-file.clones ≡ length c.loop-file.clones.items = omega arith in
    let added = rw count at c.in_ok-add_clones.ensures in
    record {
      places = omega (arith, c.loop-file.invariant.places, c.count_first-place.ensures.count, places_on c.loop-file.place c.args.files.now c.loop-file.file-index c.file-item.result (omega arith) c.file-item.is);
      count = clones_counted c.loop-file.place c.args.number c.args.arrival c.loop-file.clones.items c.add_clones.new.clones.items c.args.files.now c.loop-file.file-index c.file-item.result (omega arith) c.file-item.is
          added c.loop-file.invariant.count;
      whole = clones_step c.loop-file.place _ c.args.number c.args.arrival c.loop-file.clones.items c.add_clones.new.clones.items _ c.args.files.now c.loop-file.file-index c.file-item.result (omega arith) c.file-item.is
          (ap (λ n. c.loop-file.place + n) c.count_first-place.ensures.count) added c.loop-file.invariant.whole;
    }
