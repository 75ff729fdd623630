use Rattle.std.proofs.Common.{List, Some, subst, arith}
use Rattle.std.proofs.lemmas.List.{take_all}
use Rattle.world_io.specs.Memory.{Indexes}
use Rattle.world_io.proofs.Indexing.{indexed-next, indexed-none}
use Rattle.world_io.proofs.Places.{Stored}
use Rattle.world_io.proofs.memory.places.places_of.Goals as goal

pub loop-place-init : goal.loop-place-init
loop-place-init c = indexed-none c.new-places.result c.new-places.ensures.empty

pub loop-place-preserved : goal.loop-place-preserved
loop-place-preserved c =
    indexed-next c.loop-place.places c.insert.new.self c.args.files.now c.loop-place.place c.index-files-place.result c.in_ok-clone.field-0 c.requires c.loop-place-test.true c.index-files-place.is c.in_ok-clone.ensures.cases c.loop-place.invariant
    c.in_ok-insert.ensures.updates

pub returns : goal.returns
returns c =
    let indexed : List Stored → Type 0 = λ files. Indexes (Some c.loop-place.places) files in
    subst indexed (take_all c.loop-place.place c.args.files.now (omega arith)) c.loop-place.invariant
