use Rattle.std.proofs.lemmas.Map.Iter.{rest_more, rest_all}
use Rattle.std.specs.Map.Iter.{deref}
use Rattle.disk_trait.proofs.DiskImages.{drawn_all, drawn_more}
use Rattle.disk_trait.proofs.memory.table.FileTable.image.Goals as goal

pub returns-clause-drawn : goal.returns-clause-drawn
returns-clause-drawn c =
    drawn_all c.args.self.now _ _ c.args.seed c.loop-name.name-iterator c.loop-name.x c.loop-name.image c.keys-name-items.ensures.ordered
    (rest_all deref c.loop-name.name-iterator _ _ c.in-None.is c.next.ensures.steps) c.loop-name.invariant

pub loop-name-preserved : goal.loop-name-preserved
loop-name-preserved c =
    let file = c.in_ok-bytes.ensures in
    let put = c.in_ok-put.ensures in
    drawn_more c.args.self.now _ _ c.args.seed c.loop-name.name-iterator c.next.new.self c.in-Some.name.now c.loop-name.x c.in_ok-bytes.next c.in_ok-bytes.bytes.items c.loop-name.image c.put.new.self
    c.keys-name-items.ensures.ordered (rest_more deref c.loop-name.name-iterator c.next.new.self c.next.result c.in-Some.name c.in-Some.is c.next.ensures.steps) file.bytes file.seed put.bytes put.first c.loop-name.invariant
