use Rattle.std.proofs.Common.{◌∙◌, arith}
use Rattle.settlement.specs.Placing.{placing_of}
use Rattle.settlement.proofs.Placed.{few_places, placed_whole}
use Rattle.settlement.proofs.placing.Placer.place_all.Goals as goal

pub clones_of_all-requires-clause-places : goal.clones_of_all-requires-clause-places
clones_of_all-requires-clause-places c =
    let from = placing_of c.args.self.now in
    let returns = rw c.deref.ensures.value at c.count_returned-place.ensures from in
    rw c.deref-3.ensures.value (omega (arith, returns, few_places from c.args.files.items, c.requires.few))

pub returns : goal.returns
returns c =
    let from = placing_of c.args.self.now in
    let files = c.args.files.items in
    let place = rw c.deref.ensures.value at c.count_returned-place.ensures from in
    let count = rw c.deref-2.ensures.value at c.count_firsts.ensures.count in
    let clones = rw c.deref-3.ensures.value at c.in_ok-clones.ensures in
    c.in_ok-append.ensures.items
    ∙ placed_whole from files c.args.first_clone c.count_returned-place.result c.count_firsts.result c.in_ok-placed.placed.items c.in_ok-clones.clones.items place count c.in_ok-placed.ensures clones
