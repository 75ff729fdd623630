use Rattle.std.proofs.Common.{◌≡◌, ◌∙◌, arith, length}
use Rattle.std.specs.Vec.{vec_len}
use Rattle.std.proofs.lemmas.Iterator.Adapters.{YieldsList-from_vec}
use Rattle.std.proofs.lemmas.Iterator.Consumers.{YieldsList-turn}
use Rattle.settlement.specs.Placing.{placing_of}
use Rattle.settlement.proofs.Placed.{firsts_placed, firsts_step, returned_step}
use Rattle.settlement.proofs.placing.Placer.place_each.Goals as goal

pub place_one-requires : goal.place_one-requires
place_one-requires c =
    let few = firsts_placed c.args.self.now.next_arrival c.loop-file.arrived.items c.loop-file.yielded c.loop-file.invariant.arrived in
    let count : vec_len c.args.files ≡ length c.args.files.items = omega arith in
    let gives = c.into_iter-file-iterator.ensures.into_iter_gives in
    let turn = YieldsList-turn (YieldsList-from_vec c.args.files.items gives.0 (gives.1 ∙ count)) c.loop-file.yielded c.loop-file.file-iterator c.loop-file.yielded_by _ c.next.new.self c.in-Some.file c.in-Some.is c.next.ensures.steps in
    omega (arith, few, turn.0, c.requires.arrivals)

pub loop-file-preserved : goal.loop-file-preserved
loop-file-preserved c =
    let count : vec_len c.loop-file.arrived ≡ length c.loop-file.arrived.items = omega arith in
    let added = rw count at c.in_ok-place_one.ensures.arrived in
    record {
      returned = returned_step (placing_of c.args.self.now) c.loop-file.returned.items c.place_one.new.returned.items c.loop-file.yielded c.in-Some.file c.loop-file.invariant.returned c.in_ok-place_one.ensures.returned;
      arrived = firsts_step c.args.self.now.next_arrival c.loop-file.arrived.items c.place_one.new.arrived.items c.loop-file.yielded c.in-Some.file c.loop-file.invariant.arrived added;
    }
